-- What a fault of the loader stands for. The names of its constant path are told by a list of texts.
use Rattle.std.specs.Prelude.{List, string_bytes}
use Rattle.zw_def.specs.Text.{Text}
use Rattle.zw_def.specs.Names.{AreNamed, texts_of}
use Rattle.zw_fault.specs.Exception as defined
use Rattle.zw_fault.specs.declared.load_fault.LoadFault.{LoadFault}
use Rattle.zw_fault.specs.declared.load_fault.LoadFault.TheVariants.{NotDefined, WrongName, NotManaged, Shadowed, ReloadingDisabled, SetupRequired}

abbrev pub load_fault_seen : List Text → LoadFault → defined.Fault
load_fault_seen names (NotDefined path cpath) = defined.not_defined path (texts_of names cpath)
load_fault_seen names (WrongName path name) = defined.wrong_name (record { name = string_bytes name; path = path })
load_fault_seen names (NotManaged path) = defined.not_managed path
load_fault_seen names (Shadowed path) = defined.shadowed path
load_fault_seen names ReloadingDisabled = defined.reloading_disabled
load_fault_seen names SetupRequired = defined.setup_required

-- the names of the constant path are in the table
abbrev pub IsNamed : List Text → LoadFault → Type 0
IsNamed names (NotDefined path cpath) = AreNamed names cpath
IsNamed names _ = Unit {0}
