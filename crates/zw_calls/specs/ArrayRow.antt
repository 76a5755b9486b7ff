-- The primitive method of Array that a row stands for: its name, and what it does.
use Rattle.zw_def.specs.Text.{Text}
use Rattle.zw_def_world.specs.Primitive.{is}
use Rattle.zw_def_world.specs.Row as defined
use Rattle.zw_calls.specs.declared.array_row.ArrayRow.{ArrayRow}
use Rattle.zw_calls.specs.declared.array_row.ArrayRow.TheVariants as r

abbrev pub array_row_seen : ArrayRow → Text × defined.ArrayRow
array_row_seen r.Plus = is "+" defined.array_plus
array_row_seen r.Minus = is "-" defined.array_minus
array_row_seen r.At = is "[]" defined.array_at
array_row_seen r.Size = is "size" defined.array_size
array_row_seen r.Length = is "length" defined.array_size
array_row_seen r.IsEmpty = is "empty?" defined.array_is_empty
array_row_seen r.First = is "first" defined.array_first
array_row_seen r.Last = is "last" defined.array_last
array_row_seen r.Includes = is "include?" defined.array_includes
array_row_seen r.Index = is "index" defined.array_index
array_row_seen r.Reverse = is "reverse" defined.array_reverse
array_row_seen r.Join = is "join" defined.array_join
array_row_seen r.Take = is "take" defined.array_take
array_row_seen r.Drop = is "drop" defined.array_drop
array_row_seen r.Compact = is "compact" defined.array_compact
array_row_seen r.Uniq = is "uniq" defined.array_uniq
array_row_seen r.Sum = is "sum" defined.array_sum
