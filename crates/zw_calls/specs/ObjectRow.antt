-- The primitive method of Object that a row stands for: its name, and what it does.
use Rattle.zw_def.specs.Text.{Text}
use Rattle.zw_def_world.specs.Primitive.{is}
use Rattle.zw_def_world.specs.Row as defined
use Rattle.zw_calls.specs.declared.object_row.ObjectRow.{ObjectRow}
use Rattle.zw_calls.specs.declared.object_row.ObjectRow.TheVariants as r

abbrev pub object_row_seen : ObjectRow → Text × defined.ObjectRow
object_row_seen r.Initialize = is "initialize" defined.object_initialize
