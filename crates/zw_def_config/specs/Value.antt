-- What a TOML value is read as, at the key that faults name: a text, a path, and so on (TOML 1.1, "String", "Boolean", "Array"
-- and "Table").
use Rattle.std.specs.Prelude.{Bool, List, [], ◌∷◌, ◌++◌, Option, Some, None, Ok}
use Rattle.std.specs.Option.{ok_or, option_map_or}
use Rattle.toml.specs.Data.{Data, Items, no_items, item, Members, as_str, as_bool, as_array, as_table}
use Rattle.zw_def.specs.Text.{Text}
use Rattle.zw_def.specs.Path.{Path, path_of}
use Rattle.zw_def.specs.ConstantPath.{ConstantPath, constant_path_of}
use Rattle.zw_def_config.specs.Fault.{Reading, ◌>>=◌, wrong_kind, bad_path, bad_constant_path}

-- ---- kinds

-- the value as what it is asked to be, where it is one
abbrev pub of_kind : {X : Type 0} → Text → Option X → Reading X
of_kind key found = ok_or found (wrong_kind key)

abbrev pub text_in : Text → Data → Reading Text
text_in key value = of_kind key (as_str value)

abbrev pub boolean_in : Text → Data → Reading Bool
boolean_in key value = of_kind key (as_bool value)

abbrev pub array_in : Text → Data → Reading Items
array_in key value = of_kind key (as_array value)

abbrev pub table_in : Text → Data → Reading Members
table_in key value = of_kind key (as_table value)

-- ---- texts that tell something

abbrev pub path_in : Text → Data → Reading Path
path_in key value = text_in key value >>= λ text. ok_or (path_of text) (bad_path key)

abbrev pub constant_path_in : Text → Data → Reading ConstantPath
constant_path_in key value =
    text_in key value >>= λ text. ok_or (constant_path_of text) (bad_constant_path key)

-- ---- values that may be missing

-- a key that has to be there
abbrev pub required : {X : Type 0} → Text → (Data → Reading X) → Option Data → Reading X
required key read value = option_map_or read value (of_kind key None)

-- what is read, or else what stands for a missing key
abbrev pub or_else : {X : Type 0} → X → (Data → Reading X) → Option Data → Reading X
or_else default read value = option_map_or read value (Ok default)

-- what is read, if there is a value
abbrev pub optional : {X : Type 0} → (Data → Reading X) → Option Data → Reading (Option X)
optional read value = or_else None (λ d. read d >>= λ x. Ok (Some x)) value

-- ---- arrays

-- those before, and the elements in their order, each read beside those before it
abbrev pub elements_after : {X : Type 0} → (List X → Data → Reading X) → List X → Items → Reading (List X)
elements_after read before no_items = Ok before
elements_after read before (item value more) =
    read before value >>= λ x. elements_after read (before ++ x ∷ []) more

-- the elements of an array; a missing one has none
abbrev pub elements : {X : Type 0} → Text → (List X → Data → Reading X) → Option Data → Reading (List X)
elements key read value = or_else [] (λ d. array_in key d >>= elements_after read []) value
