-- The exceptions that nodes and rows raise, by their messages.
use Prim.Native.String.{String}
use Rattle.std.specs.Prelude.{ℕ, Bool, ◌==◌, ◌++◌, codes, if◌then◌else◌}
use Rattle.std.specs.Fmt.{decimal}
use Rattle.zw_def.specs.Text.{Text}
use Rattle.zw_def.specs.ConstantPath.{constant_path_text}
use Rattle.zw_def.specs.Nesting.{child}
use Rattle.zw_def_world.specs.Id.{Id}
use Rattle.zw_def_world.specs.CoreClass.{ArgumentError, FrozenError, NameError, NoMethodError, TypeError}
use Rattle.zw_def_world.specs.Value.{Value}
use Rattle.zw_def_world.specs.World.{is_frozen}
use Rattle.zw_def_world.specs.Inspect.{told, inspected, class_name}
use Rattle.zw_def_world.specs.Making.{fails}
use Rattle.zw_def_world.specs.Act.{Act, in_module, reading}

abbrev pub quote : Text → Text
quote t = codes "'" ++ t ++ codes "'"

abbrev pub no_constant : Id → Text → Act
no_constant asked n =
    in_module asked (λ m. fails NameError (codes "uninitialized constant " ++ constant_path_text (child m.path n)))

-- a fault that quotes a name and tells a receiver
abbrev pub fails_for : Id → Text → Text → Value → Act
fails_for class start x v = reading (λ w. told w v) (λ t. fails class (start ++ quote x ++ codes " for " ++ t))

abbrev pub no_variable : Value → Text → Act
no_variable v x = fails_for NameError (codes "undefined local variable or method ") x v

abbrev pub no_method : Value → Text → Act
no_method v x = fails_for NoMethodError (codes "undefined method ") x v

abbrev pub private_method : Value → Text → Act
private_method v x =
    reading (λ w. told w v) (λ t.
    fails NoMethodError (codes "private method " ++ quote x ++ codes " called for " ++ t))

abbrev pub no_super : Value → Text → Act
no_super v x = fails_for NoMethodError (codes "super: no superclass method ") x v

abbrev pub no_module : Value → Act
no_module v = reading (λ w. inspected w v) (λ t. fails TypeError (t ++ codes " is not a class/module"))

abbrev pub frozen_fault : Value → Act
frozen_fault v = reading (λ w. inspected w v) (λ t. fails FrozenError (codes "can't modify frozen " ++ t))

-- the act, unless the value is frozen
abbrev pub unless_frozen : Value → Act → Act
unless_frozen v act = reading (λ w. is_frozen w v) (λ frozen. if frozen then frozen_fault v else act)

-- how many arguments are expected
abbrev pub expected_text : ℕ → ℕ → Bool → Text
expected_text least most endless =
    if endless then decimal least ++ codes "+"
    else if least == most then decimal least
    else decimal least ++ codes ".." ++ decimal most

abbrev pub number_text : ℕ → ℕ → ℕ → Bool → Text
number_text given least most endless =
    codes "(given " ++ decimal given ++ codes ", expected " ++ expected_text least most endless ++ codes ")"

abbrev pub wrong_number : ℕ → ℕ → ℕ → Bool → Act
wrong_number given least most endless =
    fails ArgumentError (codes "wrong number of arguments " ++ number_text given least most endless)

abbrev pub wrong_kind : Value → String → Act
wrong_kind v kind =
    reading (λ w. class_name w v) (λ class.
    fails TypeError (codes "wrong argument type " ++ class ++ codes " (expected " ++ codes kind ++ codes ")"))

abbrev pub no_comparison : Value → Value → Act
no_comparison a b =
    reading (λ w. class_name w a) (λ one.
    reading (λ w. class_name w b) (λ other.
    fails ArgumentError (codes "comparison of " ++ one ++ codes " with " ++ other ++ codes " failed")))
