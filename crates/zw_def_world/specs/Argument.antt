-- The arguments that each primitive method takes.
use Prim.Native.String.{String}
use Rattle.std.specs.Prelude.{Bool, true, false, List, [], ◌∷◌, Option, Some, None}
use Rattle.zw_def_world.specs.Row.{Row, KernelRow, of_kernel, kernel_puts, kernel_raise, kernel_equal, kernel_differs, kernel_is_a, kernel_instance_of, kernel_respond_to, ModuleRow, of_module, module_covers, module_less, module_less_or_same, module_greater, module_greater_or_same, module_include, module_extend, module_includes, module_attr_reader, module_attr_writer, module_attr_accessor, module_private, module_public, module_private_class_method, module_const_get, module_const_defined, module_autoload, module_method_defined, ClassRow, of_class, class_new, ObjectRow, of_object, NilRow, of_nil, IntegerRow, of_integer, integer_plus, integer_minus, integer_times, integer_over, integer_rest, integer_less, integer_less_or_same, integer_greater, integer_greater_or_same, integer_compared, integer_divmod, integer_between, integer_clamp, StringRow, of_string, string_plus, string_times, string_less, string_less_or_same, string_greater, string_greater_or_same, string_compared, string_includes, string_starts_with, string_ends_with, string_at, string_split, string_ljust, string_rjust, string_delete_prefix, string_delete_suffix, SymbolRow, of_symbol, symbol_compared, ArrayRow, of_array, array_plus, array_minus, array_at, array_includes, array_index, array_join, array_take, array_drop, ExceptionRow, of_exception, exception_initialize}

-- the kinds of arguments
pub data Kind : Type 0 where
  integers : Kind
  strings : Kind
  symbols : Kind
  arrays : Kind
  modules : Kind
  any : Kind

abbrev pub kind_text : Kind → String
kind_text integers = "Integer"
kind_text strings = "String"
kind_text symbols = "Symbol"
kind_text arrays = "Array"
kind_text modules = "Module"
kind_text any = "Object"

-- the kinds of the required ones, of the optional ones, and of any number behind them; where a method compares, an
-- argument of another kind is told as a comparison that failed
pub record Arguments : Type 0 where
  pub required : List Kind
  pub optional : List Kind
  pub rest : Option Kind
  pub compares : Bool

abbrev pub takes : List Kind → Arguments
takes kinds = record { required = kinds; optional = []; rest = None; compares = false }

abbrev pub takes_with : List Kind → List Kind → Arguments
takes_with required optional = record { required = required; optional = optional; rest = None; compares = false }

abbrev pub takes_any : Kind → Arguments
takes_any kind = record { required = []; optional = []; rest = Some kind; compares = false }

abbrev pub compares_with : List Kind → Arguments
compares_with kinds = record { required = kinds; optional = []; rest = None; compares = true }

abbrev pub kernel_arguments : KernelRow → Arguments
kernel_arguments kernel_puts = takes_any any
kernel_arguments kernel_raise = takes_with (any ∷ []) (strings ∷ [])
kernel_arguments kernel_equal = takes (any ∷ [])
kernel_arguments kernel_differs = takes (any ∷ [])
kernel_arguments kernel_is_a = takes (modules ∷ [])
kernel_arguments kernel_instance_of = takes (modules ∷ [])
kernel_arguments kernel_respond_to = takes (symbols ∷ [])
kernel_arguments _ = takes []

abbrev pub module_arguments : ModuleRow → Arguments
module_arguments module_covers = takes (any ∷ [])
module_arguments module_less = takes (modules ∷ [])
module_arguments module_less_or_same = takes (modules ∷ [])
module_arguments module_greater = takes (modules ∷ [])
module_arguments module_greater_or_same = takes (modules ∷ [])
module_arguments module_include = takes (modules ∷ [])
module_arguments module_extend = takes (modules ∷ [])
module_arguments module_includes = takes (modules ∷ [])
module_arguments module_attr_reader = takes_any symbols
module_arguments module_attr_writer = takes_any symbols
module_arguments module_attr_accessor = takes_any symbols
module_arguments module_private = takes_any symbols
module_arguments module_public = takes_any symbols
module_arguments module_private_class_method = takes_any symbols
module_arguments module_const_get = takes (symbols ∷ [])
module_arguments module_const_defined = takes (symbols ∷ [])
module_arguments module_autoload = takes (symbols ∷ [])
module_arguments module_method_defined = takes (symbols ∷ [])
module_arguments _ = takes []

abbrev pub class_arguments : ClassRow → Arguments
class_arguments class_new = takes_any any
class_arguments _ = takes []

abbrev pub object_arguments : ObjectRow → Arguments
object_arguments row = takes []

abbrev pub nil_arguments : NilRow → Arguments
nil_arguments row = takes []

abbrev pub integer_arguments : IntegerRow → Arguments
integer_arguments integer_plus = takes (integers ∷ [])
integer_arguments integer_minus = takes (integers ∷ [])
integer_arguments integer_times = takes (integers ∷ [])
integer_arguments integer_over = takes (integers ∷ [])
integer_arguments integer_rest = takes (integers ∷ [])
integer_arguments integer_less = compares_with (integers ∷ [])
integer_arguments integer_less_or_same = compares_with (integers ∷ [])
integer_arguments integer_greater = compares_with (integers ∷ [])
integer_arguments integer_greater_or_same = compares_with (integers ∷ [])
integer_arguments integer_compared = takes (any ∷ [])
integer_arguments integer_divmod = takes (integers ∷ [])
integer_arguments integer_between = compares_with (integers ∷ integers ∷ [])
integer_arguments integer_clamp = compares_with (integers ∷ integers ∷ [])
integer_arguments _ = takes []

abbrev pub string_arguments : StringRow → Arguments
string_arguments string_plus = takes (strings ∷ [])
string_arguments string_times = takes (integers ∷ [])
string_arguments string_less = compares_with (strings ∷ [])
string_arguments string_less_or_same = compares_with (strings ∷ [])
string_arguments string_greater = compares_with (strings ∷ [])
string_arguments string_greater_or_same = compares_with (strings ∷ [])
string_arguments string_compared = takes (any ∷ [])
string_arguments string_includes = takes (strings ∷ [])
string_arguments string_starts_with = takes (strings ∷ [])
string_arguments string_ends_with = takes (strings ∷ [])
string_arguments string_at = takes_with (integers ∷ []) (integers ∷ [])
string_arguments string_split = takes (strings ∷ [])
string_arguments string_ljust = takes (integers ∷ [])
string_arguments string_rjust = takes (integers ∷ [])
string_arguments string_delete_prefix = takes (strings ∷ [])
string_arguments string_delete_suffix = takes (strings ∷ [])
string_arguments _ = takes []

abbrev pub symbol_arguments : SymbolRow → Arguments
symbol_arguments symbol_compared = takes (any ∷ [])
symbol_arguments _ = takes []

abbrev pub array_arguments : ArrayRow → Arguments
array_arguments array_plus = takes (arrays ∷ [])
array_arguments array_minus = takes (arrays ∷ [])
array_arguments array_at = takes (integers ∷ [])
array_arguments array_includes = takes (any ∷ [])
array_arguments array_index = takes (any ∷ [])
array_arguments array_join = takes_with [] (strings ∷ [])
array_arguments array_take = takes (integers ∷ [])
array_arguments array_drop = takes (integers ∷ [])
array_arguments _ = takes []

abbrev pub exception_arguments : ExceptionRow → Arguments
exception_arguments exception_initialize = takes_with [] (strings ∷ [])
exception_arguments _ = takes []

abbrev pub arguments_of : Row → Arguments
arguments_of (of_kernel row) = kernel_arguments row
arguments_of (of_module row) = module_arguments row
arguments_of (of_class row) = class_arguments row
arguments_of (of_object row) = object_arguments row
arguments_of (of_nil row) = nil_arguments row
arguments_of (of_integer row) = integer_arguments row
arguments_of (of_string row) = string_arguments row
arguments_of (of_symbol row) = symbol_arguments row
arguments_of (of_array row) = array_arguments row
arguments_of (of_exception row) = exception_arguments row
