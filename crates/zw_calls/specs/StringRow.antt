-- The primitive method of String that a row stands for: its name, and what it does.
use Rattle.zw_def.specs.Text.{Text}
use Rattle.zw_def_world.specs.Primitive.{is}
use Rattle.zw_def_world.specs.Row as defined
use Rattle.zw_calls.specs.declared.string_row.StringRow.{StringRow}
use Rattle.zw_calls.specs.declared.string_row.StringRow.TheVariants as r

abbrev pub string_row_seen : StringRow → Text × defined.StringRow
string_row_seen r.Plus = is "+" defined.string_plus
string_row_seen r.Times = is "*" defined.string_times
string_row_seen r.Less = is "<" defined.string_less
string_row_seen r.LessOrSame = is "<=" defined.string_less_or_same
string_row_seen r.Greater = is ">" defined.string_greater
string_row_seen r.GreaterOrSame = is ">=" defined.string_greater_or_same
string_row_seen r.Compared = is "<=>" defined.string_compared
string_row_seen r.Size = is "size" defined.string_size
string_row_seen r.Length = is "length" defined.string_size
string_row_seen r.Bytesize = is "bytesize" defined.string_bytesize
string_row_seen r.IsEmpty = is "empty?" defined.string_is_empty
string_row_seen r.Upcase = is "upcase" defined.string_upcase
string_row_seen r.Downcase = is "downcase" defined.string_downcase
string_row_seen r.Capitalize = is "capitalize" defined.string_capitalize
string_row_seen r.Reverse = is "reverse" defined.string_reverse
string_row_seen r.Includes = is "include?" defined.string_includes
string_row_seen r.StartsWith = is "start_with?" defined.string_starts_with
string_row_seen r.EndsWith = is "end_with?" defined.string_ends_with
string_row_seen r.At = is "[]" defined.string_at
string_row_seen r.ToI = is "to_i" defined.string_to_i
string_row_seen r.ToSym = is "to_sym" defined.string_to_sym
string_row_seen r.Strip = is "strip" defined.string_strip
string_row_seen r.Split = is "split" defined.string_split
string_row_seen r.Chars = is "chars" defined.string_chars
string_row_seen r.Ljust = is "ljust" defined.string_ljust
string_row_seen r.Rjust = is "rjust" defined.string_rjust
string_row_seen r.DeletePrefix = is "delete_prefix" defined.string_delete_prefix
string_row_seen r.DeleteSuffix = is "delete_suffix" defined.string_delete_suffix
