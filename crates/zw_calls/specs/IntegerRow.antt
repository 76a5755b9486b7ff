-- The primitive method of Integer that a row stands for: its name, and what it does.
use Rattle.zw_def.specs.Text.{Text}
use Rattle.zw_def_world.specs.Primitive.{is}
use Rattle.zw_def_world.specs.Row as defined
use Rattle.zw_calls.specs.declared.integer_row.IntegerRow.{IntegerRow}
use Rattle.zw_calls.specs.declared.integer_row.IntegerRow.TheVariants as r

abbrev pub integer_row_seen : IntegerRow → Text × defined.IntegerRow
integer_row_seen r.Plus = is "+" defined.integer_plus
integer_row_seen r.Minus = is "-" defined.integer_minus
integer_row_seen r.Times = is "*" defined.integer_times
integer_row_seen r.Over = is "/" defined.integer_over
integer_row_seen r.Rest = is "%" defined.integer_rest
integer_row_seen r.Negated = is "-@" defined.integer_negated
integer_row_seen r.Less = is "<" defined.integer_less
integer_row_seen r.LessOrSame = is "<=" defined.integer_less_or_same
integer_row_seen r.Greater = is ">" defined.integer_greater
integer_row_seen r.GreaterOrSame = is ">=" defined.integer_greater_or_same
integer_row_seen r.Compared = is "<=>" defined.integer_compared
integer_row_seen r.Abs = is "abs" defined.integer_abs
integer_row_seen r.IsZero = is "zero?" defined.integer_is_zero
integer_row_seen r.IsPositive = is "positive?" defined.integer_is_positive
integer_row_seen r.IsNegative = is "negative?" defined.integer_is_negative
integer_row_seen r.IsEven = is "even?" defined.integer_is_even
integer_row_seen r.IsOdd = is "odd?" defined.integer_is_odd
integer_row_seen r.Succ = is "succ" defined.integer_succ
integer_row_seen r.Pred = is "pred" defined.integer_pred
integer_row_seen r.ToI = is "to_i" defined.integer_to_i
integer_row_seen r.Divmod = is "divmod" defined.integer_divmod
integer_row_seen r.IsBetween = is "between?" defined.integer_between
integer_row_seen r.Clamp = is "clamp" defined.integer_clamp
