use Rattle.std.proofs.Common.{◌≡◌, ◌+◌, ◌<◌, IfSome, length}
use Rattle.std.specs.Option.{option_map, option_map_or}
use Rattle.zw_def_world.specs.CoreClass.{Exception}
use Rattle.zw_heap.specs.Superclass.{is_above, descends}
use Rattle.zw_heap.proofs.heap.Heap.makes_exceptions.Given as goal

abbrev pub invariant-loop-next : goal.invariant-loop-next
invariant-loop-next l = record {
  within : IfSome l.next (λ m. m.0 < length l.self.modules);
  same : is_above (descends l.self.modules Exception.count) (option_map (λ m. m.0) l.next) ≡ descends l.self.modules Exception.count l.fn.class.0;
}

abbrev pub decreases-loop-next : goal.decreases-loop-next
decreases-loop-next l = option_map_or (λ m. m.0 + 1) l.next 0
