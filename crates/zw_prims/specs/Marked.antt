-- The methods that are marked: they call methods, load, or read or change tables, and are finished elsewhere.
use Rattle.std.specs.Prelude.{Bool, true, false}
use Rattle.zw_calls.specs.declared.kernel_row.KernelRow.{KernelRow}
use Rattle.zw_calls.specs.declared.kernel_row.KernelRow.TheVariants as k
use Rattle.zw_calls.specs.declared.module_row.ModuleRow.{ModuleRow}
use Rattle.zw_calls.specs.declared.module_row.ModuleRow.TheVariants as m
use Rattle.zw_calls.specs.declared.class_row.ClassRow.{ClassRow}
use Rattle.zw_calls.specs.declared.class_row.ClassRow.TheVariants as c
use Rattle.zw_calls.specs.declared.prim_id.PrimId.{PrimId}
use Rattle.zw_calls.specs.declared.prim_id.PrimId.TheVariants as p

abbrev pub kernel_marked : KernelRow → Bool
kernel_marked k.Puts = true
kernel_marked k.Raise = true
kernel_marked k.Differs = true
kernel_marked k.IsA = true
kernel_marked k.RespondsTo = true
kernel_marked k.Freeze = true
kernel_marked _ = false

-- all but `name`, `to_s` and `inspect`
abbrev pub module_marked : ModuleRow → Bool
module_marked m.Name = false
module_marked m.ToS = false
module_marked m.Inspect = false
module_marked _ = true

abbrev pub class_marked : ClassRow → Bool
class_marked c.New = true
class_marked c.Superclass = false

abbrev pub is_marked : PrimId → Bool
is_marked (p.Kernel row) = kernel_marked row
is_marked (p.Module row) = module_marked row
is_marked (p.Class row) = class_marked row
is_marked _ = false
