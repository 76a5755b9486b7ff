-- The arguments that methods take, told as the definition's, and what is left to do after tests of their kinds.
use Rattle.std.specs.Prelude.{Bool, map, take, drop, Option, Some, None}
use Rattle.zw_def_world.specs.Act.{Act}
use Rattle.zw_def_world.specs.Argument as defined
use Rattle.zw_def_world.specs.Site.{wrong_argument}
use Rattle.zw_def_world.specs.Value as told
use Rattle.zw_heap.specs.Telling.{Telling, tell}
use Rattle.zw_heap.specs.declared.value.Value.{Value}
use Rattle.zw_calls.specs.Kind.{kind_seen}
use Rattle.zw_calls.specs.declared.argument.Arguments.{Arguments}
use Rattle.zw_calls.specs.declared.kind.Kind.{Kind}

abbrev pub arguments_seen : Arguments → defined.Arguments
arguments_seen a = record {
  required = map kind_seen (take a.least a.kinds.now);
  optional = map kind_seen (drop a.least a.kinds.now);
  rest = None;
  compares = a.compares;
}

-- where an argument is of another kind, the fault that tells it, and the act otherwise
abbrev pub after_kinds : Bool → told.Value → Telling → Option (Kind × Value) → Act → Act
after_kinds compares r I None act = act
after_kinds compares r I (Some wrong) act = wrong_argument compares r (kind_seen wrong.0) (tell I wrong.1)
