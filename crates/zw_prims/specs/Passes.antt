-- Arguments that pass their tests.
use Rattle.std.specs.Prelude.{List, map}
use Rattle.zw_def.specs.Text.{Text}
use Rattle.zw_def_world.specs.Act.{Act}
use Rattle.zw_def_world.specs.Argument.{Arguments}
use Rattle.zw_def_world.specs.Site.{tested}
use Rattle.zw_heap.specs.Heap.{Held}
use Rattle.zw_heap.specs.Telling.{tell}
use Rattle.zw_heap.specs.declared.value.Value.{Value}
use Rattle.zw_calls.specs.Fault.{AreSame}

-- each act behind the tests is done
abbrev pub Pass : Held → List Text → Arguments → Value → List Value → Type 0
Pass h names a x xs = (act : Act) → AreSame h names (λ I. tested a (tell I x) (map (tell I) xs) act) (λ I. act)
