-- A call of a primitive method: the tests of its arguments, and then what it does.
use Rattle.std.specs.Prelude.{List, map}
use Rattle.zw_def_world.specs.Act.{Act}
use Rattle.zw_def_world.specs.Argument.{arguments_of}
use Rattle.zw_def_world.specs.Primitives.{row_act}
use Rattle.zw_def_world.specs.Row.{Row}
use Rattle.zw_def_world.specs.Site.{Site, tested}
use Rattle.zw_heap.specs.Telling.{Telling, tell}
use Rattle.zw_heap.specs.declared.value.Value.{Value}

abbrev pub call_of : Row → Value → List Value → Site → Telling → Act
call_of row x xs s I =
    tested (arguments_of row) (tell I x) (map (tell I) xs) (row_act s row (tell I x) (map (tell I) xs))
