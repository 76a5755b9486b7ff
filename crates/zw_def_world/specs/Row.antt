-- The primitive methods by their classes: what each does is told by its name, where two methods do the same by one.

pub data KernelRow : Type 0 where
  kernel_puts : KernelRow
  kernel_raise : KernelRow
  kernel_class : KernelRow
  kernel_is_nil : KernelRow
  -- `==` and `equal?`
  kernel_equal : KernelRow
  kernel_differs : KernelRow
  kernel_is_a : KernelRow
  kernel_instance_of : KernelRow
  kernel_respond_to : KernelRow
  kernel_to_s : KernelRow
  kernel_inspect : KernelRow
  kernel_freeze : KernelRow
  kernel_is_frozen : KernelRow

pub data ModuleRow : Type 0 where
  -- `name`, `to_s` and `inspect`
  module_name : ModuleRow
  module_covers : ModuleRow
  module_less : ModuleRow
  module_less_or_same : ModuleRow
  module_greater : ModuleRow
  module_greater_or_same : ModuleRow
  module_ancestors : ModuleRow
  module_include : ModuleRow
  module_extend : ModuleRow
  module_includes : ModuleRow
  module_attr_reader : ModuleRow
  module_attr_writer : ModuleRow
  module_attr_accessor : ModuleRow
  module_private : ModuleRow
  module_public : ModuleRow
  module_private_class_method : ModuleRow
  module_const_get : ModuleRow
  module_const_defined : ModuleRow
  module_autoload : ModuleRow
  module_method_defined : ModuleRow

pub data ClassRow : Type 0 where
  class_new : ClassRow
  class_superclass : ClassRow

pub data ObjectRow : Type 0 where
  object_initialize : ObjectRow

pub data NilRow : Type 0 where
  nil_to_i : NilRow
  nil_to_a : NilRow

pub data IntegerRow : Type 0 where
  integer_plus : IntegerRow
  integer_minus : IntegerRow
  integer_times : IntegerRow
  integer_over : IntegerRow
  integer_rest : IntegerRow
  integer_negated : IntegerRow
  integer_less : IntegerRow
  integer_less_or_same : IntegerRow
  integer_greater : IntegerRow
  integer_greater_or_same : IntegerRow
  integer_compared : IntegerRow
  integer_abs : IntegerRow
  integer_is_zero : IntegerRow
  integer_is_positive : IntegerRow
  integer_is_negative : IntegerRow
  integer_is_even : IntegerRow
  integer_is_odd : IntegerRow
  integer_succ : IntegerRow
  integer_pred : IntegerRow
  integer_to_i : IntegerRow
  integer_divmod : IntegerRow
  integer_between : IntegerRow
  integer_clamp : IntegerRow

pub data StringRow : Type 0 where
  string_plus : StringRow
  string_times : StringRow
  string_less : StringRow
  string_less_or_same : StringRow
  string_greater : StringRow
  string_greater_or_same : StringRow
  string_compared : StringRow
  -- `size` and `length`
  string_size : StringRow
  string_bytesize : StringRow
  string_is_empty : StringRow
  string_upcase : StringRow
  string_downcase : StringRow
  string_capitalize : StringRow
  string_reverse : StringRow
  string_includes : StringRow
  string_starts_with : StringRow
  string_ends_with : StringRow
  string_at : StringRow
  string_to_i : StringRow
  string_to_sym : StringRow
  string_strip : StringRow
  string_split : StringRow
  string_chars : StringRow
  string_ljust : StringRow
  string_rjust : StringRow
  string_delete_prefix : StringRow
  string_delete_suffix : StringRow

pub data SymbolRow : Type 0 where
  symbol_to_sym : SymbolRow
  symbol_size : SymbolRow
  symbol_compared : SymbolRow

pub data ArrayRow : Type 0 where
  array_plus : ArrayRow
  array_minus : ArrayRow
  array_at : ArrayRow
  -- `size` and `length`
  array_size : ArrayRow
  array_is_empty : ArrayRow
  array_first : ArrayRow
  array_last : ArrayRow
  array_includes : ArrayRow
  array_index : ArrayRow
  array_reverse : ArrayRow
  array_join : ArrayRow
  array_take : ArrayRow
  array_drop : ArrayRow
  array_compact : ArrayRow
  array_uniq : ArrayRow
  array_sum : ArrayRow

pub data ExceptionRow : Type 0 where
  exception_initialize : ExceptionRow
  -- `message` and `to_s`
  exception_message : ExceptionRow
  exception_inspect : ExceptionRow

pub data Row : Type 0 where
  of_kernel : KernelRow → Row
  of_module : ModuleRow → Row
  of_class : ClassRow → Row
  of_object : ObjectRow → Row
  of_nil : NilRow → Row
  of_integer : IntegerRow → Row
  of_string : StringRow → Row
  of_symbol : SymbolRow → Row
  of_array : ArrayRow → Row
  of_exception : ExceptionRow → Row
