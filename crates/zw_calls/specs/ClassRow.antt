-- The primitive method of Class that a row stands for: its name, and what it does.
use Rattle.zw_def.specs.Text.{Text}
use Rattle.zw_def_world.specs.Primitive.{is}
use Rattle.zw_def_world.specs.Row as defined
use Rattle.zw_calls.specs.declared.class_row.ClassRow.{ClassRow}
use Rattle.zw_calls.specs.declared.class_row.ClassRow.TheVariants as r

abbrev pub class_row_seen : ClassRow → Text × defined.ClassRow
class_row_seen r.New = is "new" defined.class_new
class_row_seen r.Superclass = is "superclass" defined.class_superclass
