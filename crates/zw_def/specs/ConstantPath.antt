-- Constant paths. A path is a list of constant names, and its text is these with `::` between them.
use Rattle.std.specs.Prelude.{List, [], ◌∷◌, ◌++◌, ◌==◌, ◌&&◌, codes, if◌then◌else◌, Option, Some, None}
use Rattle.std.specs.List.{list_all, onto_first}
use Rattle.std.specs.Str.{bytes_eq}
use Rattle.zw_def.specs.Text.{Text}
use Rattle.zw_def.specs.Constant.{is_constant}

abbrev pub ConstantPath : Type 0
ConstantPath = List Text

-- the parts of a text between the places of `::`, which is looked for from the left
abbrev pub parts_of : Text → List Text
parts_of [] = [] ∷ []
parts_of (b ∷ []) = (b ∷ []) ∷ []
parts_of (b ∷ c ∷ more) = if b == 58 && c == 58 then [] ∷ parts_of more else onto_first b (parts_of (c ∷ more))

-- the path that a text tells, if it tells one: `Object` alone is the empty path
abbrev pub constant_path_of : Text → Option ConstantPath
constant_path_of text =
    if bytes_eq text (codes "Object") then Some []
    else (if list_all is_constant (parts_of text) then Some (parts_of text) else None)

-- names with `::` between them
abbrev pub scoped : Text → List Text → Text
scoped name [] = name
scoped name (next ∷ more) = name ++ codes "::" ++ scoped next more

abbrev pub constant_path_text : ConstantPath → Text
constant_path_text [] = codes "Object"
constant_path_text (name ∷ names) = scoped name names
