-- Operands with the signs before them, as the definitions have them, and the names that they hold.
use Rattle.std.specs.Prelude.{ℕ, ◌≤◌, List, [], map, length, if◌then◌else◌, Option, Some, None}
use Rattle.std.specs.Option.{option_map_or}
use Rattle.zw_def.specs.Text.{Text}
use Rattle.zw_def_syntax.specs.Levels as l
use Rattle.zw_def_syntax.specs.Levels.{or_level, and_level, equal_level, compare_level, sum_level, term_level}
use Rattle.zw_ast.specs.Grown.{grown_seen}
use Rattle.zw_ast.specs.Named.{bound_of, greatest}
use Rattle.zw_expr.specs.declared.operand.Operand.{Operand}
use Rattle.zw_expr.specs.declared.level.Level.{Level}
use Rattle.zw_expr.specs.declared.level.Level.TheVariants as v
use Rattle.zw_expr.specs.declared.sign.Sign.{Sign}
use Rattle.zw_expr.specs.Sign.{text_of_sign}

abbrev pub level_seen : Level → l.Level
level_seen v.Or = or_level
level_seen v.And = and_level
level_seen v.Equal = equal_level
level_seen v.Compare = compare_level
level_seen v.Sum = sum_level
level_seen v.Term = term_level

-- no text where there is no sign, as before the first operand
abbrev pub sign_before : Option Sign → Text
sign_before sign = option_map_or text_of_sign sign []

-- the sign, where it is one of the level
abbrev pub level_sign : l.Level → Text → Option Text
level_sign level sign = if l.is_of level sign then Some sign else None

abbrev pub operand_seen : List Text → Operand → l.Operand
operand_seen names o = record { sign = sign_before o.sign; value = grown_seen names o.value }

abbrev pub operands_seen : List Text → List Operand → List l.Operand
operands_seen names os = map (operand_seen names) os

-- ---- the names that they hold

abbrev pub operand_names : Operand → ℕ
operand_names o = bound_of o.value.form

abbrev pub AreNamedOperands : List Text → List Operand → Type 0
AreNamedOperands names os = greatest operand_names os ≤ length names
