-- What the classes that are set stand for, where these are the texts of the names.
use Rattle.std.specs.Prelude.{◌≡◌, ◌<◌, List, map, length, Vec}
use Rattle.std.specs.List.{All}
use Rattle.std.specs.declared.alloc.Global.{Global}
use Rattle.zw_def.specs.Text.{Text}
use Rattle.zw_def.specs.Names.{IsDistinct, text_of}
use Rattle.zw_def_thin.specs.ClassFile as defined
use Rattle.zw_def_thin.specs.Evaluation.{opened}
use Rattle.zw_names.specs.declared.names.Name.{Name}
use Rattle.zw_thin.specs.ClassFile.{methods_seen, MethodsNamed, class_seen, ClassNamed}
use Rattle.zw_thin.specs.declared.class_file.ClassFile.{ClassFile}
use Rattle.zw_thin.specs.declared.class_file.Method.{Method}
use Rattle.zw_thin.specs.declared.table.Class.{Class}

-- classes by their names, each with its methods
abbrev pub Entries : Type 0
Entries = List (Name × Vec Method Global)

abbrev pub entry_seen : List Text → Name × Vec Method Global → defined.ClassFile
entry_seen names c = record { name = text_of names c.0.0; methods = methods_seen names c.1.items }

abbrev pub classes_seen : List Text → Entries → List defined.ClassFile
classes_seen names classes = map (entry_seen names) classes

abbrev pub open_seen : List Text → Class → defined.ClassFile
open_seen names c = record { name = c.name.now; methods = methods_seen names c.methods.now }

-- the class's name is among them, and its methods' are
abbrev pub EntryNamed : List Text → Name × Vec Method Global → Type 0
EntryNamed names c = (c.0.0 < length names) × MethodsNamed names c.1.items

abbrev pub ClassesNamed : List Text → Entries → Type 0
ClassesNamed names classes = All (EntryNamed names) classes

-- the class is opened among the others, whatever the names' texts are
abbrev pub Opens : ClassFile → Entries → Entries → Type 0
Opens class old new =
    (names : List Text) → IsDistinct names → ClassesNamed names old → ClassNamed names class →
    classes_seen names new ≡ opened (classes_seen names old) (class_seen names class)

-- the new classes' names are among those that the old ones' and the class's are among
abbrev pub KeepsNames : ClassFile → Entries → Entries → Type 0
KeepsNames class old new =
    (names : List Text) → ClassesNamed names old → ClassNamed names class → ClassesNamed names new
