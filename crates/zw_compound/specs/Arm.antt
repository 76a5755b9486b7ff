-- A test with its body, as the definitions have it, and the names that it holds.
use Rattle.std.specs.Prelude.{ℕ, max, List, map}
use Rattle.zw_def.specs.Text.{Text}
use Rattle.zw_def_syntax.specs.Compound as c
use Rattle.zw_ast.specs.Grown.{grown_seen, all_seen, forms}
use Rattle.zw_ast.specs.Named.{bound_of, all_names}
use Rattle.zw_compound.specs.declared.choice.Arm.{Arm}

abbrev pub arm_seen : List Text → Arm → c.Arm
arm_seen names a = record { test = grown_seen names a.test; body = all_seen names a.body.items }

abbrev pub arms_seen : List Text → List Arm → List c.Arm
arms_seen names all = map (arm_seen names) all

abbrev pub arm_names : Arm → ℕ
arm_names a = max (bound_of a.test.form) (all_names (forms a.body.items))
