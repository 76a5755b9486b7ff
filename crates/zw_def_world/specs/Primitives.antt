-- What each primitive method does; the arguments are of the kinds that it takes.
use Rattle.std.specs.Prelude.{List}
use Rattle.zw_def_world.specs.Row.{Row, of_kernel, of_module, of_class, of_object, of_nil, of_integer, of_string, of_symbol, of_array, of_exception}
use Rattle.zw_def_world.specs.Value.{Value}
use Rattle.zw_def_world.specs.KernelRows.{kernel_act}
use Rattle.zw_def_world.specs.ModuleRows.{module_act}
use Rattle.zw_def_world.specs.ObjectRows.{class_act, object_act, exception_act}
use Rattle.zw_def_world.specs.IntegerRows.{integer_act, nil_act}
use Rattle.zw_def_world.specs.StringRows.{string_act, symbol_act}
use Rattle.zw_def_world.specs.ArrayRows.{array_act}
use Rattle.zw_def_world.specs.Site.{Site}
use Rattle.zw_def_world.specs.Act.{Act}

abbrev pub row_act : Site → Row → Value → List Value → Act
row_act s (of_kernel row) r vs = kernel_act s row r vs
row_act s (of_module row) r vs = module_act s row r vs
row_act s (of_class row) r vs = class_act s row r vs
row_act s (of_object row) r vs = object_act s row r vs
row_act s (of_nil row) r vs = nil_act s row r vs
row_act s (of_integer row) r vs = integer_act s row r vs
row_act s (of_string row) r vs = string_act s row r vs
row_act s (of_symbol row) r vs = symbol_act s row r vs
row_act s (of_array row) r vs = array_act s row r vs
row_act s (of_exception row) r vs = exception_act s row r vs
