-- The kinds of errors are the core classes of exceptions, and are called what these are called.
use Rattle.std.proofs.Common.{◌≡◌, Bool, true, false, List, [], ◌∷◌, filter, map, refl, Some, unwrap_or}
use Rattle.zw_def_world.specs.Id.{Id}
use Rattle.zw_def_world.specs.World.{Setting}
use Rattle.zw_def_world.specs.Ancestor.{ancestors, makes_exceptions}
use Rattle.zw_def_world.specs.Inspect.{class_text}
use Rattle.zw_def_world.specs.CoreWorld.{core_modules, core_world}
use Rattle.zw_fault.specs.ErrorKind.{error_kind_seen, core_name}
use Rattle.zw_fault.specs.declared.error_kind.ErrorKind.{ErrorKind}
use Rattle.zw_fault.specs.declared.error_kind.ErrorKind.TheVariants as k

abbrev pub kinds : List ErrorKind
kinds =
    k.Exception ∷ k.ScriptError ∷ k.StandardError ∷ k.SyntaxError ∷ k.LoadError ∷ k.ArgumentError ∷ k.IndexError
    ∷ k.NameError ∷ k.RangeError ∷ k.RuntimeError ∷ k.TypeError ∷ k.ZeroDivisionError ∷ k.NoMethodError
    ∷ k.FrozenError ∷ k.ZeitwerkError ∷ k.ReloadingDisabledError ∷ k.SetupRequired ∷ k.ZeitwerkNameError ∷ []

abbrev pub is_exception_class : Setting → Id → Bool
is_exception_class setting i = unwrap_or (makes_exceptions (core_world setting) i) false

-- the core classes whose objects are exceptions, in the order in which the core world lists them
pub filter-is_exception_class : (setting : Setting) → filter (is_exception_class setting) (map (λ m. m.0) core_modules) ≡ map error_kind_seen kinds
unfolding ancestors core_world
filter-is_exception_class setting = refl

-- what the world before boot tells of a class is its core name
pub class_text-core_world : (setting : Setting) (class : Id) → class_text (core_world setting) class ≡ core_name class
unfolding core_world
class_text-core_world setting class = refl

pub makes_exceptions-error_kind_seen : (setting : Setting) (kind : ErrorKind) → makes_exceptions (core_world setting) (error_kind_seen kind) ≡ Some true
unfolding ancestors core_world
makes_exceptions-error_kind_seen setting k.Exception = refl
makes_exceptions-error_kind_seen setting k.ScriptError = refl
makes_exceptions-error_kind_seen setting k.StandardError = refl
makes_exceptions-error_kind_seen setting k.SyntaxError = refl
makes_exceptions-error_kind_seen setting k.LoadError = refl
makes_exceptions-error_kind_seen setting k.ArgumentError = refl
makes_exceptions-error_kind_seen setting k.IndexError = refl
makes_exceptions-error_kind_seen setting k.NameError = refl
makes_exceptions-error_kind_seen setting k.RangeError = refl
makes_exceptions-error_kind_seen setting k.RuntimeError = refl
makes_exceptions-error_kind_seen setting k.TypeError = refl
makes_exceptions-error_kind_seen setting k.ZeroDivisionError = refl
makes_exceptions-error_kind_seen setting k.NoMethodError = refl
makes_exceptions-error_kind_seen setting k.FrozenError = refl
makes_exceptions-error_kind_seen setting k.ZeitwerkError = refl
makes_exceptions-error_kind_seen setting k.ReloadingDisabledError = refl
makes_exceptions-error_kind_seen setting k.SetupRequired = refl
makes_exceptions-error_kind_seen setting k.ZeitwerkNameError = refl
