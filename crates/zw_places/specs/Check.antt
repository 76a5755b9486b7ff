-- The definition's test for each rule: whether a node at a place breaks it.
use Rattle.std.specs.Prelude.{Bool}
use Rattle.zw_def_syntax.specs.Places as d
use Rattle.zw_def_syntax.specs.Tree.{Tree}
use Rattle.zw_places.specs.declared.check.Check.{Check}
use Rattle.zw_places.specs.declared.check.Check.TheVariants as c

abbrev pub test_seen : Check → d.Place → Tree → Bool
test_seen c.Jump = d.is_misplaced_jump
test_seen c.MethodInClass = d.is_misplaced_def
test_seen c.DefinitionInMethod = d.is_definition_in_method
test_seen c.RepeatedParameter = d.repeats_parameter
