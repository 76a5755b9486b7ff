-- The signs between operands, by their texts.
use Rattle.std.specs.Prelude.{codes, if◌then◌else◌, Option, Some, None}
use Rattle.zw_def.specs.Text.{Text}
use Rattle.zw_def_syntax.specs.Lexed.{is_among}
use Rattle.zw_def_syntax.specs.Levels.{operand_signs}
use Rattle.zw_expr.specs.declared.sign.Sign.{Sign}
use Rattle.zw_expr.specs.declared.sign.Sign.TheVariants as s

abbrev pub text_of_sign : Sign → Text
text_of_sign s.Or = codes "||"
text_of_sign s.And = codes "&&"
text_of_sign s.Equal = codes "=="
text_of_sign s.NotEqual = codes "!="
text_of_sign s.Compare = codes "<=>"
text_of_sign s.Less = codes "<"
text_of_sign s.LessEqual = codes "<="
text_of_sign s.Greater = codes ">"
text_of_sign s.GreaterEqual = codes ">="
text_of_sign s.Plus = codes "+"
text_of_sign s.Minus = codes "-"
text_of_sign s.Times = codes "*"
text_of_sign s.Divide = codes "/"
text_of_sign s.Remainder = codes "%"

-- the text, where it is one of these signs
abbrev pub operand_sign : Text → Option Text
operand_sign text = if is_among (codes operand_signs) text then Some text else None
