-- The primitive method of NilClass that a row stands for: its name, and what it does.
use Rattle.zw_def.specs.Text.{Text}
use Rattle.zw_def_world.specs.Primitive.{is}
use Rattle.zw_def_world.specs.Row as defined
use Rattle.zw_calls.specs.declared.nil_row.NilRow.{NilRow}
use Rattle.zw_calls.specs.declared.nil_row.NilRow.TheVariants as r

abbrev pub nil_row_seen : NilRow → Text × defined.NilRow
nil_row_seen r.ToI = is "to_i" defined.nil_to_i
nil_row_seen r.ToA = is "to_a" defined.nil_to_a
