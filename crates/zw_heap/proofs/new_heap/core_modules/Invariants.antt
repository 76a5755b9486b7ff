use Rattle.std.proofs.Common.{◌≡◌, map, take}
use Rattle.std.specs.List.{All}
use Rattle.zw_def.specs.Names.{OnlyGrows, AreNamed}
use Rattle.zw_heap.specs.CoreClass.{core_record_seen, core_records}
use Rattle.zw_heap.specs.ModuleRecord.{Module}
use Rattle.zw_heap.proofs.new_heap.core_modules.Given as goal

abbrev pub invariant-loop-class : goal.invariant-loop-class
invariant-loop-class l = record {
  told : map (core_record_seen l.names) l.modules.items ≡ take l.class-index core_records;
  named : All (λ (m : Module). AreNamed l.names m.path) l.modules.items;
  grows : OnlyGrows l.fn.names l.names;
}
