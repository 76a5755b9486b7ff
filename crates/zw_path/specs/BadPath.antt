-- Why a text tells no path.
use Rattle.std.specs.Prelude.{Bool, true, false, List, [], ◌∷◌, ◌==◌, if◌then◌else◌, Option, Some, None}
use Rattle.std.specs.Option.{option_or}
use Rattle.zw_def.specs.Text.{Text}
use Rattle.zw_def.specs.Path.{is_dots, is_component, components}
use Rattle.zw_path.specs.declared.bad_path.BadPath.{BadPath}
use Rattle.zw_path.specs.declared.bad_path.BadPath.TheVariants.{Empty, Dots, Absolute, BadChar}

abbrev pub is_empty : Text → Bool
is_empty [] = true
is_empty (b ∷ bs) = false

abbrev pub begins_with_slash : Text → Bool
begins_with_slash [] = false
begins_with_slash (b ∷ bs) = b == 47

-- what is wrong with a component: it is empty, it is dots, or it has a bad byte or too many bytes
abbrev pub bad_component : Text → Option BadPath
bad_component text =
    if is_empty text then Some Empty
    else (if is_dots text then Some Dots else (if is_component text then None else Some BadChar))

-- what is wrong with the first component that has a fault
abbrev pub first_bad : List Text → Option BadPath
first_bad [] = None
first_bad (text ∷ texts) = option_or (bad_component text) (first_bad texts)

-- a leading `/` is told first, and then the components in order
abbrev pub bad_path : Text → Option BadPath
bad_path text = if begins_with_slash text then Some Absolute else first_bad (components text)
