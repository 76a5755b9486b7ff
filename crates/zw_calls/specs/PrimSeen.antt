-- The primitive method of the definition that a method's identity stands for.
use Rattle.zw_def.specs.Text.{Text}
use Rattle.zw_def_world.specs.CoreClass as core
use Rattle.zw_def_world.specs.Id.{Id}
use Rattle.zw_def_world.specs.Primitive.{Primitive}
use Rattle.zw_def_world.specs.Row as defined
use Rattle.zw_def_world.specs.Row.{Row}
use Rattle.zw_calls.specs.declared.kernel_row.KernelRow.{KernelRow}
use Rattle.zw_calls.specs.declared.module_row.ModuleRow.{ModuleRow}
use Rattle.zw_calls.specs.declared.class_row.ClassRow.{ClassRow}
use Rattle.zw_calls.specs.declared.object_row.ObjectRow.{ObjectRow}
use Rattle.zw_calls.specs.declared.nil_row.NilRow.{NilRow}
use Rattle.zw_calls.specs.declared.integer_row.IntegerRow.{IntegerRow}
use Rattle.zw_calls.specs.declared.string_row.StringRow.{StringRow}
use Rattle.zw_calls.specs.declared.symbol_row.SymbolRow.{SymbolRow}
use Rattle.zw_calls.specs.declared.array_row.ArrayRow.{ArrayRow}
use Rattle.zw_calls.specs.declared.exception_row.ExceptionRow.{ExceptionRow}
use Rattle.zw_calls.specs.KernelRow.{kernel_row_seen}
use Rattle.zw_calls.specs.ModuleRow.{module_row_seen}
use Rattle.zw_calls.specs.ClassRow.{class_row_seen}
use Rattle.zw_calls.specs.ObjectRow.{object_row_seen}
use Rattle.zw_calls.specs.NilRow.{nil_row_seen}
use Rattle.zw_calls.specs.IntegerRow.{integer_row_seen}
use Rattle.zw_calls.specs.StringRow.{string_row_seen}
use Rattle.zw_calls.specs.SymbolRow.{symbol_row_seen}
use Rattle.zw_calls.specs.ArrayRow.{array_row_seen}
use Rattle.zw_calls.specs.ExceptionRow.{exception_row_seen}
use Rattle.zw_calls.specs.declared.prim_id.PrimId.{PrimId}
use Rattle.zw_calls.specs.declared.prim_id.PrimId.TheVariants as p

abbrev pub primitive : {R : Type 0} → Id → (R → Row) → Text × R → Primitive
primitive owner of_its r = record { owner = owner; name = r.0; row = of_its r.1 }

abbrev pub kernel_seen : KernelRow → Primitive
kernel_seen r = primitive core.Kernel defined.of_kernel (kernel_row_seen r)

abbrev pub module_seen : ModuleRow → Primitive
module_seen r = primitive core.Module_class defined.of_module (module_row_seen r)

abbrev pub class_seen : ClassRow → Primitive
class_seen r = primitive core.Class defined.of_class (class_row_seen r)

abbrev pub object_seen : ObjectRow → Primitive
object_seen r = primitive core.Object_class defined.of_object (object_row_seen r)

abbrev pub nil_seen : NilRow → Primitive
nil_seen r = primitive core.NilClass defined.of_nil (nil_row_seen r)

abbrev pub integer_seen : IntegerRow → Primitive
integer_seen r = primitive core.Integer defined.of_integer (integer_row_seen r)

abbrev pub string_seen : StringRow → Primitive
string_seen r = primitive core.String_class defined.of_string (string_row_seen r)

abbrev pub symbol_seen : SymbolRow → Primitive
symbol_seen r = primitive core.Symbol_class defined.of_symbol (symbol_row_seen r)

abbrev pub array_seen : ArrayRow → Primitive
array_seen r = primitive core.Array defined.of_array (array_row_seen r)

abbrev pub exception_seen : ExceptionRow → Primitive
exception_seen r = primitive core.Exception defined.of_exception (exception_row_seen r)

abbrev pub prim_seen : PrimId → Primitive
prim_seen (p.Kernel r) = kernel_seen r
prim_seen (p.Module r) = module_seen r
prim_seen (p.Class r) = class_seen r
prim_seen (p.Object r) = object_seen r
prim_seen (p.Nil r) = nil_seen r
prim_seen (p.Integer r) = integer_seen r
prim_seen (p.String r) = string_seen r
prim_seen (p.Symbol r) = symbol_seen r
prim_seen (p.Array r) = array_seen r
prim_seen (p.Exception r) = exception_seen r

-- what it does
abbrev pub row_seen : PrimId → Row
row_seen prim = (prim_seen prim).row
