-- What the methods and classes of files stand for, where these are the texts of the names.
use Rattle.std.specs.Prelude.{◌<◌, List, map, length}
use Rattle.std.specs.List.{All}
use Rattle.zw_def.specs.Text.{Text}
use Rattle.zw_def.specs.Names.{text_of}
use Rattle.zw_def_thin.specs.ClassFile as defined
use Rattle.zw_thin.specs.declared.class_file.Method.{Method}
use Rattle.zw_thin.specs.declared.class_file.ClassFile.{ClassFile}

abbrev pub method_seen : List Text → Method → defined.Method
method_seen names m = record { name = text_of names m.name.0; value = m.value }

abbrev pub methods_seen : List Text → List Method → List defined.Method
methods_seen names methods = map (method_seen names) methods

abbrev pub class_seen : List Text → ClassFile → defined.ClassFile
class_seen names c = record { name = text_of names c.name.0; methods = methods_seen names c.methods.items }

-- the methods' names are among them
abbrev pub MethodsNamed : List Text → List Method → Type 0
MethodsNamed names methods = All (λ m. m.name.0 < length names) methods

-- the class's name is, and its methods' are
abbrev pub ClassNamed : List Text → ClassFile → Type 0
ClassNamed names c = (c.name.0 < length names) × MethodsNamed names c.methods.items
