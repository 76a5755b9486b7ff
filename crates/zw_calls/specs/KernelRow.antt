-- The primitive method of Kernel that a row stands for: its name, and what it does.
use Rattle.zw_def.specs.Text.{Text}
use Rattle.zw_def_world.specs.Primitive.{is}
use Rattle.zw_def_world.specs.Row as defined
use Rattle.zw_calls.specs.declared.kernel_row.KernelRow.{KernelRow}
use Rattle.zw_calls.specs.declared.kernel_row.KernelRow.TheVariants as r

abbrev pub kernel_row_seen : KernelRow → Text × defined.KernelRow
kernel_row_seen r.Puts = is "puts" defined.kernel_puts
kernel_row_seen r.Raise = is "raise" defined.kernel_raise
kernel_row_seen r.Class = is "class" defined.kernel_class
kernel_row_seen r.IsNil = is "nil?" defined.kernel_is_nil
kernel_row_seen r.Equal = is "==" defined.kernel_equal
kernel_row_seen r.Differs = is "!=" defined.kernel_differs
kernel_row_seen r.IsSame = is "equal?" defined.kernel_equal
kernel_row_seen r.IsA = is "is_a?" defined.kernel_is_a
kernel_row_seen r.IsInstanceOf = is "instance_of?" defined.kernel_instance_of
kernel_row_seen r.RespondsTo = is "respond_to?" defined.kernel_respond_to
kernel_row_seen r.ToS = is "to_s" defined.kernel_to_s
kernel_row_seen r.Inspect = is "inspect" defined.kernel_inspect
kernel_row_seen r.Freeze = is "freeze" defined.kernel_freeze
kernel_row_seen r.IsFrozen = is "frozen?" defined.kernel_is_frozen
