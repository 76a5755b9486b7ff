-- The primitive method of Exception that a row stands for: its name, and what it does.
use Rattle.zw_def.specs.Text.{Text}
use Rattle.zw_def_world.specs.Primitive.{is}
use Rattle.zw_def_world.specs.Row as defined
use Rattle.zw_calls.specs.declared.exception_row.ExceptionRow.{ExceptionRow}
use Rattle.zw_calls.specs.declared.exception_row.ExceptionRow.TheVariants as r

abbrev pub exception_row_seen : ExceptionRow → Text × defined.ExceptionRow
exception_row_seen r.Initialize = is "initialize" defined.exception_initialize
exception_row_seen r.Message = is "message" defined.exception_message
exception_row_seen r.ToS = is "to_s" defined.exception_message
exception_row_seen r.Inspect = is "inspect" defined.exception_inspect
