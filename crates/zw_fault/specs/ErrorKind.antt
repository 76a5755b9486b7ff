-- The core classes that kinds of errors stand for, and the names of core classes.
use Rattle.std.specs.Prelude.{Option}
use Rattle.std.specs.Option.{option_map}
use Rattle.zw_def.specs.Text.{Text}
use Rattle.zw_def_world.specs.Id.{Id}
use Rattle.zw_def_world.specs.CoreClass as core
use Rattle.zw_def_world.specs.CoreWorld.{core_modules, records_of}
use Rattle.zw_def_world.specs.Inspect.{module_text}
use Rattle.zw_fault.specs.declared.error_kind.ErrorKind.{ErrorKind}
use Rattle.zw_fault.specs.declared.error_kind.ErrorKind.TheVariants as k

abbrev pub error_kind_seen : ErrorKind → Id
error_kind_seen k.Exception = core.Exception
error_kind_seen k.ScriptError = core.ScriptError
error_kind_seen k.StandardError = core.StandardError
error_kind_seen k.SyntaxError = core.SyntaxError
error_kind_seen k.LoadError = core.LoadError
error_kind_seen k.ArgumentError = core.ArgumentError
error_kind_seen k.IndexError = core.IndexError
error_kind_seen k.NameError = core.NameError
error_kind_seen k.RangeError = core.RangeError
error_kind_seen k.RuntimeError = core.RuntimeError
error_kind_seen k.TypeError = core.TypeError
error_kind_seen k.ZeroDivisionError = core.ZeroDivisionError
error_kind_seen k.NoMethodError = core.NoMethodError
error_kind_seen k.FrozenError = core.FrozenError
error_kind_seen k.ZeitwerkError = core.ZeitwerkError
error_kind_seen k.ReloadingDisabledError = core.ReloadingDisabledError
error_kind_seen k.SetupRequired = core.SetupRequired
error_kind_seen k.ZeitwerkNameError = core.ZeitwerkNameError

-- what a core class or module is called
abbrev pub core_name : Id → Option Text
core_name class = option_map module_text (records_of core_modules class)
