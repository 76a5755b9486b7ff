-- The faults of the loader, and the exceptions that tell them. Their classes are those of Zeitwerk.
use Rattle.std.specs.Prelude.{◌++◌, codes}
use Rattle.zw_def.specs.Text.{Text}
use Rattle.zw_def.specs.Path.{Path, path_text}
use Rattle.zw_def.specs.ConstantPath.{ConstantPath}
use Rattle.zw_def.specs.Expected.{WrongName, wrong_name_text}
use Rattle.zw_def_world.specs.Id.{Id}
use Rattle.zw_def_world.specs.CoreClass.{ZeitwerkError, ReloadingDisabledError, SetupRequired, ZeitwerkNameError}
use Rattle.zw_def_world.specs.Record.{Object}
use Rattle.zw_def_world.specs.Making.{exception}
use Rattle.zw_def_world.specs.Log.{not_defined_text}

pub data Fault : Type 0 where
  -- the file did not define the constant
  not_defined : Path → ConstantPath → Fault
  wrong_name : WrongName → Fault
  not_managed : Path → Fault
  shadowed : Path → Fault
  reloading_disabled : Fault
  -- the last setup raised
  setup_required : Fault

abbrev pub class_of : Fault → Id
class_of (not_defined path q) = ZeitwerkNameError
class_of (wrong_name wrong) = ZeitwerkNameError
class_of (not_managed path) = ZeitwerkError
class_of (shadowed path) = ZeitwerkError
class_of reloading_disabled = ReloadingDisabledError
class_of setup_required = SetupRequired

abbrev pub message_of : Fault → Text
message_of (not_defined path q) = not_defined_text q path
message_of (wrong_name wrong) = wrong_name_text wrong
message_of (not_managed path) = path_text path ++ codes " is not managed"
message_of (shadowed path) = path_text path ++ codes " is shadowed"
message_of reloading_disabled = codes "reloading is not enabled"
message_of setup_required = codes "the last setup raised"

abbrev pub exception_of : Fault → Object
exception_of fault = exception (class_of fault) (message_of fault)
