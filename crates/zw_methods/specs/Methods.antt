-- Tables of methods by the numbers of modules and of names, and the first method in a line (ISO/IEC 30170, 13.3.4).
use Rattle.std.specs.Prelude.{◌≡◌, ℕ, ◌+◌, Bool, true, false, List, [], ◌∷◌, Option, Some, None, Result, Ok, Err, if◌then◌else◌}
use Rattle.zw_base.specs.declared.fault.Fault.{Fault}
use Rattle.zw_base.specs.declared.fault.Fault.TheVariants.{Refused, Memory}
use Rattle.zw_consts.specs.Table.{Table, tables_of, value_at, with_value, first_tables}
use Rattle.zw_def_world.specs.MethodLine.{bool_eq}
use Rattle.zw_methods.specs.declared.fault.MethodRefusal.{MethodRefusal}
use Rattle.zw_methods.specs.declared.fault.MethodRefusal.TheVariants.{Frozen}
use Rattle.zw_methods.specs.declared.method.Found.{Found}
use Rattle.zw_methods.specs.declared.method.Method.{Method}
use Rattle.zw_methods.specs.declared.method.ModuleLine.{ModuleLine}

pub record Methods : Type 0 where
  pub instances : List (Table Method)
  pub singletons : List (Table Method)

-- the table of a module's instances, or its singleton one
abbrev pub tables_in : Methods → Bool → ℕ → Table Method
tables_in methods false = tables_of methods.instances
tables_in methods true = tables_of methods.singletons

abbrev pub no_methods : Bool → ℕ → Table Method
no_methods singleton n = []

-- a method that is there is replaced
abbrev pub with_method : ℕ → Bool → ℕ → Method → (Bool → ℕ → Table Method) → Bool → ℕ → Table Method
with_method n singleton x method tables other =
    if bool_eq singleton other then with_value n x method (tables other) else tables other

-- the tables of so many modules alone
abbrev pub first_methods : ℕ → (Bool → ℕ → Table Method) → Bool → ℕ → Table Method
first_methods count tables singleton = first_tables count (tables singleton)

-- ---- the first method in a line

abbrev pub method_at : (Bool → ℕ → Table Method) → ModuleLine → ℕ → Option Method
method_at tables place x = value_at place.«module».0 x (tables place.singleton)

abbrev pub found_or : ℕ → Option Method → Option (ℕ × Method) → Option (ℕ × Method)
found_or at None later = later
found_or at (Some method) later = Some (at, method)

-- the first method of that name in a line whose first place has that number
abbrev pub first_method : (Bool → ℕ → Table Method) → ℕ → ℕ → List ModuleLine → Option (ℕ × Method)
first_method tables x at [] = None
first_method tables x at (place ∷ line) = found_or at (method_at tables place x) (first_method tables x (at + 1) line)

abbrev pub found_seen : Found → ℕ × Method
found_seen f = (f.at, f.method)

-- ---- refusals

-- Frozen, exactly where the module is frozen
abbrev pub AnswersFrozen : {X : Type 0} → Option Bool → Result X (Fault MethodRefusal) → Type 0
AnswersFrozen frozen (Ok x) = frozen ≡ Some false
AnswersFrozen frozen (Err (Refused refusal)) = (frozen ≡ Some true) × (refusal ≡ Frozen)
AnswersFrozen frozen (Err Memory) = Unit {0}
