-- Values, and the views of a value.
use Rattle.std.specs.Prelude.{ℤ, pos, Bool, true, false, List, [], ◌∷◌, Option, Some, None}
use Rattle.zw_def.specs.Text.{Text}
use Rattle.zw_def_world.specs.Id.{Id}

mutual
  -- Texts and arrays never change, and are what they hold. A module (or class) and an object is its name.
  pub data Value : Type 0 where
    nil : Value
    truth : Bool → Value
    int : ℤ → Value
    text : Text → Value
    symbol : Text → Value
    array : Values → Value
    module_at : Id → Value
    object_at : Id → Value

  pub data Values : Type 0 where
    no_values : Values
    value_then : Value → Values → Values

abbrev pub array_of : List Value → Values
array_of [] = no_values
array_of (v ∷ vs) = value_then v (array_of vs)

abbrev pub items_of : Values → List Value
items_of no_values = []
items_of (value_then v vs) = v ∷ items_of vs

-- nil and false count as false
abbrev pub is_true : Value → Bool
is_true nil = false
is_true (truth b) = b
is_true v = true

-- what a value is, for rows whose arguments were tested; of other values anything
abbrev pub integer_in : Value → ℤ
integer_in (int z) = z
integer_in v = pos 0

abbrev pub text_in : Value → Text
text_in (text t) = t
text_in (symbol t) = t
text_in v = []

abbrev pub items_in : Value → List Value
items_in (array vs) = items_of vs
items_in v = []

-- ---- the views of a value

-- a class or module
abbrev pub as_module : Value → Option Id
as_module (module_at i) = Some i
as_module v = None

abbrev pub as_object : Value → Option Id
as_object (object_at i) = Some i
as_object v = None

-- what has a record: variables of its own, and a freeze
pub data Holder : Type 0 where
  no_holder : Holder
  module_holder : Id → Holder
  object_holder : Id → Holder

abbrev pub as_holder : Value → Holder
as_holder (module_at i) = module_holder i
as_holder (object_at i) = object_holder i
as_holder v = no_holder
