-- What is left of a sum after the test of its items.
use Rattle.std.specs.Prelude.{Option, Some, None}
use Rattle.zw_def_world.specs.Act.{Act}
use Rattle.zw_def_world.specs.Fault.{wrong_kind}
use Rattle.zw_heap.specs.declared.value.Value.{Value}
use Rattle.zw_heap.specs.Telling.{Telling, tell}

-- where an item is no integer, the fault that tells it, and the act otherwise
abbrev pub after_items : Telling → Option Value → Act → Act
after_items I None act = act
after_items I (Some other) act = wrong_kind (tell I other) "Integer"
