-- The table of the primitive methods, in the order of their numbers, from 0 to 115.
use Prim.Native.String.{String}
use Rattle.std.specs.Prelude.{ℕ, List, [], ◌∷◌, ◌++◌, codes, map, filter, slice_get, Option}
use Rattle.zw_def.specs.Text.{Text}
use Rattle.zw_def_world.specs.Id.{Id, id_eq}
use Rattle.zw_def_world.specs.CoreClass.{Kernel, Module_class, Class, Object_class, NilClass, Integer, String_class, Symbol_class, Array, Exception}
use Rattle.zw_def_world.specs.Row.{Row, of_kernel, kernel_puts, kernel_raise, kernel_class, kernel_is_nil, kernel_equal, kernel_differs, kernel_is_a, kernel_instance_of, kernel_respond_to, kernel_to_s, kernel_inspect, kernel_freeze, kernel_is_frozen, of_module, module_name, module_covers, module_less, module_less_or_same, module_greater, module_greater_or_same, module_ancestors, module_include, module_extend, module_includes, module_attr_reader, module_attr_writer, module_attr_accessor, module_private, module_public, module_private_class_method, module_const_get, module_const_defined, module_autoload, module_method_defined, of_class, class_new, class_superclass, of_object, object_initialize, of_nil, nil_to_i, nil_to_a, of_integer, integer_plus, integer_minus, integer_times, integer_over, integer_rest, integer_negated, integer_less, integer_less_or_same, integer_greater, integer_greater_or_same, integer_compared, integer_abs, integer_is_zero, integer_is_positive, integer_is_negative, integer_is_even, integer_is_odd, integer_succ, integer_pred, integer_to_i, integer_divmod, integer_between, integer_clamp, of_string, string_plus, string_times, string_less, string_less_or_same, string_greater, string_greater_or_same, string_compared, string_size, string_bytesize, string_is_empty, string_upcase, string_downcase, string_capitalize, string_reverse, string_includes, string_starts_with, string_ends_with, string_at, string_to_i, string_to_sym, string_strip, string_split, string_chars, string_ljust, string_rjust, string_delete_prefix, string_delete_suffix, of_symbol, symbol_to_sym, symbol_size, symbol_compared, of_array, array_plus, array_minus, array_at, array_size, array_is_empty, array_first, array_last, array_includes, array_index, array_reverse, array_join, array_take, array_drop, array_compact, array_uniq, array_sum, of_exception, exception_initialize, exception_message, exception_inspect}

-- the class or module whose method it is, its name, and what it does
pub record Primitive : Type 0 where
  pub owner : Id
  pub name : Text
  pub row : Row

abbrev pub is : {R : Type 0} → String → R → Text × R
is name row = (codes name, row)

abbrev pub each : {R : Type 0} → Id → (R → Row) → List (Text × R) → List Primitive
each owner of_its rows = map (λ r. record { owner = owner; name = r.0; row = of_its r.1 }) rows

abbrev pub kernel_rows : List Primitive
kernel_rows =
    each Kernel of_kernel (is "puts" kernel_puts ∷ is "raise" kernel_raise ∷ is "class" kernel_class ∷
    is "nil?" kernel_is_nil ∷ is "==" kernel_equal ∷ is "!=" kernel_differs ∷ is "equal?" kernel_equal ∷
    is "is_a?" kernel_is_a ∷ is "instance_of?" kernel_instance_of ∷ is "respond_to?" kernel_respond_to ∷
    is "to_s" kernel_to_s ∷ is "inspect" kernel_inspect ∷ is "freeze" kernel_freeze ∷
    is "frozen?" kernel_is_frozen ∷ [])

abbrev pub module_rows : List Primitive
module_rows =
    each Module_class of_module (is "name" module_name ∷ is "to_s" module_name ∷ is "inspect" module_name ∷
    is "===" module_covers ∷ is "<" module_less ∷ is "<=" module_less_or_same ∷ is ">" module_greater ∷
    is ">=" module_greater_or_same ∷ is "ancestors" module_ancestors ∷ is "include" module_include ∷
    is "extend" module_extend ∷ is "include?" module_includes ∷ is "attr_reader" module_attr_reader ∷
    is "attr_writer" module_attr_writer ∷ is "attr_accessor" module_attr_accessor ∷
    is "private" module_private ∷ is "public" module_public ∷
    is "private_class_method" module_private_class_method ∷ is "const_get" module_const_get ∷
    is "const_defined?" module_const_defined ∷ is "autoload?" module_autoload ∷
    is "method_defined?" module_method_defined ∷ [])

abbrev pub class_rows : List Primitive
class_rows =
    each Class of_class (is "new" class_new ∷ is "superclass" class_superclass ∷ [])

abbrev pub object_rows : List Primitive
object_rows =
    each Object_class of_object (is "initialize" object_initialize ∷ [])

abbrev pub nil_rows : List Primitive
nil_rows =
    each NilClass of_nil (is "to_i" nil_to_i ∷ is "to_a" nil_to_a ∷ [])

abbrev pub integer_rows : List Primitive
integer_rows =
    each Integer of_integer (is "+" integer_plus ∷ is "-" integer_minus ∷ is "*" integer_times ∷
    is "/" integer_over ∷ is "%" integer_rest ∷ is "-@" integer_negated ∷ is "<" integer_less ∷
    is "<=" integer_less_or_same ∷ is ">" integer_greater ∷ is ">=" integer_greater_or_same ∷
    is "<=>" integer_compared ∷ is "abs" integer_abs ∷ is "zero?" integer_is_zero ∷
    is "positive?" integer_is_positive ∷ is "negative?" integer_is_negative ∷ is "even?" integer_is_even ∷
    is "odd?" integer_is_odd ∷ is "succ" integer_succ ∷ is "pred" integer_pred ∷ is "to_i" integer_to_i ∷
    is "divmod" integer_divmod ∷ is "between?" integer_between ∷ is "clamp" integer_clamp ∷ [])

abbrev pub string_rows : List Primitive
string_rows =
    each String_class of_string (is "+" string_plus ∷ is "*" string_times ∷ is "<" string_less ∷
    is "<=" string_less_or_same ∷ is ">" string_greater ∷ is ">=" string_greater_or_same ∷
    is "<=>" string_compared ∷ is "size" string_size ∷ is "length" string_size ∷
    is "bytesize" string_bytesize ∷ is "empty?" string_is_empty ∷ is "upcase" string_upcase ∷
    is "downcase" string_downcase ∷ is "capitalize" string_capitalize ∷ is "reverse" string_reverse ∷
    is "include?" string_includes ∷ is "start_with?" string_starts_with ∷ is "end_with?" string_ends_with ∷
    is "[]" string_at ∷ is "to_i" string_to_i ∷ is "to_sym" string_to_sym ∷ is "strip" string_strip ∷
    is "split" string_split ∷ is "chars" string_chars ∷ is "ljust" string_ljust ∷ is "rjust" string_rjust ∷
    is "delete_prefix" string_delete_prefix ∷ is "delete_suffix" string_delete_suffix ∷ [])

abbrev pub symbol_rows : List Primitive
symbol_rows =
    each Symbol_class of_symbol (is "to_sym" symbol_to_sym ∷ is "size" symbol_size ∷ is "<=>" symbol_compared ∷ [])

abbrev pub array_rows : List Primitive
array_rows =
    each Array of_array (is "+" array_plus ∷ is "-" array_minus ∷ is "[]" array_at ∷ is "size" array_size ∷
    is "length" array_size ∷ is "empty?" array_is_empty ∷ is "first" array_first ∷ is "last" array_last ∷
    is "include?" array_includes ∷ is "index" array_index ∷ is "reverse" array_reverse ∷ is "join" array_join ∷
    is "take" array_take ∷ is "drop" array_drop ∷ is "compact" array_compact ∷ is "uniq" array_uniq ∷
    is "sum" array_sum ∷ [])

abbrev pub exception_rows : List Primitive
exception_rows =
    each Exception of_exception (is "initialize" exception_initialize ∷ is "message" exception_message ∷
    is "to_s" exception_message ∷ is "inspect" exception_inspect ∷ [])

abbrev pub primitives : List Primitive
primitives =
    kernel_rows ++ module_rows ++ class_rows ++ object_rows ++ nil_rows ++ integer_rows ++ string_rows ++ symbol_rows
    ++ array_rows ++ exception_rows

-- the method of a number
abbrev pub primitive_at : ℕ → Option Primitive
primitive_at number = slice_get primitives number

-- the methods of a class or module
abbrev pub primitives_of : Id → List Primitive
primitives_of owner = filter (λ p. id_eq p.owner owner) primitives
