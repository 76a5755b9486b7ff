use Rattle.std.proofs.Common.{◌≡◌, ◌+◌, ◌<◌, ◌++◌, IfSome, length}
use Rattle.std.specs.List.{All}
use Rattle.std.specs.Option.{option_map, option_map_or}
use Rattle.zw_consts.specs.Ancestor.{numbers_of, above_of, superclasses_of}
use Rattle.zw_consts.proofs.ancestor.superclasses.Given as goal

abbrev pub invariant-loop-next : goal.invariant-loop-next
invariant-loop-next l = record {
  within : IfSome l.next (λ m. m.0 < length l.heap.modules);
  held : All (λ i. i.0 < length l.heap.modules) l.line.items;
  line : numbers_of l.line.items ++ above_of (superclasses_of l.heap.modules) (option_map (λ m. m.0) l.next) ≡ superclasses_of l.heap.modules l.fn.of.0;
}

abbrev pub decreases-loop-next : goal.decreases-loop-next
decreases-loop-next l = option_map_or (λ m. m.0 + 1) l.next 0
