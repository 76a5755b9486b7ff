-- What a primitive method needs of the call in which it stands, and the tests of its arguments.
use Rattle.std.specs.Prelude.{ℕ, ◌+◌, Bool, true, false, ◌&&◌, ◌||◌, nat_le, List, [], ◌∷◌, ◌++◌, length, get_or, Option, Some, None, if◌then◌else◌}
use Rattle.zw_def.specs.Text.{Text}
use Rattle.zw_def_world.specs.Argument.{Kind, integers, strings, symbols, arrays, modules, any, kind_text, Arguments}
use Rattle.zw_def_world.specs.Id.{Id}
use Rattle.zw_def_world.specs.Value.{Value, nil, truth, int, text, symbol, array, module_at, as_module, as_object}
use Rattle.zw_def_world.specs.Fault.{wrong_number, wrong_kind, no_comparison}
use Rattle.zw_def_world.specs.Act.{Act, gives, read}

-- a call of a method: the receiver, the name and the arguments
abbrev pub Call : Type 0
Call = Value → Text → List Value → Act

pub record Site : Type 0 where
  -- calls of `to_s`, `==` and `initialize`, which find private methods, too
  pub sends : Call
  -- calls of `new`
  pub makes : Call
  -- `A::N`
  pub constant : Text → Id → Act
  -- the receiver is not written
  pub is_bare : Bool

-- ---- tests of the arguments: their number, and then their kinds

abbrev pub is_of : Kind → Value → Bool
is_of integers (int z) = true
is_of integers v = false
is_of strings (text t) = true
is_of strings v = false
is_of symbols (symbol t) = true
is_of symbols v = false
is_of arrays (array vs) = true
is_of arrays v = false
is_of modules (module_at m) = true
is_of modules v = false
is_of any v = true

abbrev pub wrong_argument : Bool → Value → Kind → Value → Act
wrong_argument compares r kind v = if compares then no_comparison r v else wrong_kind v (kind_text kind)

-- the kinds of arguments, from the left; those past the list are of the kind `rest`
abbrev pub kinds_tested : Bool → Value → Option Kind → List Kind → List Value → Act → Act
kinds_tested compares r rest kinds [] act = act
kinds_tested compares r rest (kind ∷ kinds) (v ∷ vs) act =
    let later = kinds_tested compares r rest kinds vs act in
    if is_of kind v then later else wrong_argument compares r kind v
kinds_tested compares r (Some kind) [] (v ∷ vs) act =
    let later = kinds_tested compares r (Some kind) [] vs act in
    if is_of kind v then later else wrong_argument compares r kind v
kinds_tested compares r None [] (v ∷ vs) act = act

abbrev pub is_endless : Option Kind → Bool
is_endless None = false
is_endless (Some kind) = true

abbrev pub number_fits : ℕ → ℕ → ℕ → Bool → Bool
number_fits given least most endless = nat_le least given && (endless || nat_le given most)

abbrev pub numbers_tested : ℕ → ℕ → ℕ → Bool → Act → Act
numbers_tested given least most endless act =
    if number_fits given least most endless then act else wrong_number given least most endless

abbrev pub tested : Arguments → Value → List Value → Act → Act
tested a r vs act =
    let least = length a.required in
    numbers_tested (length vs) least (least + length a.optional) (is_endless a.rest)
    (kinds_tested a.compares r a.rest (a.required ++ a.optional) vs act)

-- ---- the arguments

abbrev pub first : List Value → Value
first vs = get_or vs 0 nil

abbrev pub second : List Value → Value
second vs = get_or vs 1 nil

abbrev pub on_module : Value → (Id → Act) → Act
on_module v k = read (as_module v) k

abbrev pub on_modules : Value → Value → (Id → Id → Act) → Act
on_modules u v k = on_module u (λ i. on_module v (λ j. k i j))

abbrev pub on_object : Value → (Id → Act) → Act
on_object v k = read (as_object v) k

abbrev pub yes_or_no : Bool → Act
yes_or_no b = gives (truth b)
