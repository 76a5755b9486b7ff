-- The primitive method of Module that a row stands for: its name, and what it does.
use Rattle.zw_def.specs.Text.{Text}
use Rattle.zw_def_world.specs.Primitive.{is}
use Rattle.zw_def_world.specs.Row as defined
use Rattle.zw_calls.specs.declared.module_row.ModuleRow.{ModuleRow}
use Rattle.zw_calls.specs.declared.module_row.ModuleRow.TheVariants as r

abbrev pub module_row_seen : ModuleRow → Text × defined.ModuleRow
module_row_seen r.Name = is "name" defined.module_name
module_row_seen r.ToS = is "to_s" defined.module_name
module_row_seen r.Inspect = is "inspect" defined.module_name
module_row_seen r.Covers = is "===" defined.module_covers
module_row_seen r.Less = is "<" defined.module_less
module_row_seen r.LessOrSame = is "<=" defined.module_less_or_same
module_row_seen r.Greater = is ">" defined.module_greater
module_row_seen r.GreaterOrSame = is ">=" defined.module_greater_or_same
module_row_seen r.Ancestors = is "ancestors" defined.module_ancestors
module_row_seen r.Include = is "include" defined.module_include
module_row_seen r.Extend = is "extend" defined.module_extend
module_row_seen r.Includes = is "include?" defined.module_includes
module_row_seen r.AttrReader = is "attr_reader" defined.module_attr_reader
module_row_seen r.AttrWriter = is "attr_writer" defined.module_attr_writer
module_row_seen r.AttrAccessor = is "attr_accessor" defined.module_attr_accessor
module_row_seen r.Private = is "private" defined.module_private
module_row_seen r.Public = is "public" defined.module_public
module_row_seen r.PrivateClassMethod = is "private_class_method" defined.module_private_class_method
module_row_seen r.ConstGet = is "const_get" defined.module_const_get
module_row_seen r.IsConstDefined = is "const_defined?" defined.module_const_defined
module_row_seen r.Autoload = is "autoload?" defined.module_autoload
module_row_seen r.IsMethodDefined = is "method_defined?" defined.module_method_defined
