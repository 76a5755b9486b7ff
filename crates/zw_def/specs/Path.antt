-- Paths. A path is a list of components, and its text is these with `/` between them.
use Rattle.std.specs.Prelude.{not, ℕ, Bool, true, false, List, [], ◌∷◌, ◌==◌, ◌&&◌, nat_le, length, if◌then◌else◌, Option, Some, None}
use Rattle.std.specs.List.{list_all}
use Rattle.std.specs.Str.{bytes_eq}
use Rattle.std.specs.Ordering.{nat_cmp, is_lt}
use Rattle.std.specs.Cmp.Lexicographic.{slice_cmp, pointwise}
use Rattle.std.specs.declared.cmp.Ordering.{Ordering}
use Rattle.zw_def.specs.Text.{Text, pieces, joined}

abbrev pub Path : Type 0
Path = List Text

-- a byte of a component: no `/`, no control character
abbrev pub is_component_byte : ℕ → Bool
is_component_byte b = not (b == 47) && nat_le 32 b && not (b == 127)

abbrev pub is_dots : Text → Bool
is_dots [] = false
is_dots (b ∷ []) = b == 46
is_dots (b ∷ c ∷ []) = b == 46 && c == 46
is_dots (b ∷ c ∷ d ∷ more) = false

-- a component: one to 255 bytes of UTF-8, and neither `.` nor `..`
abbrev pub is_component : Text → Bool
is_component text =
    nat_le 1 (length text) && nat_le (length text) 255 && not (is_dots text) && list_all is_component_byte text

-- the components that a text in UTF-8 is cut into
abbrev pub components : Text → Path
components = pieces 47

-- the path that a text in UTF-8 tells, if it tells one
abbrev pub path_of : Text → Option Path
path_of text = if list_all is_component (components text) then Some (components text) else None

abbrev pub path_text : Path → Text
path_text = joined 47

abbrev pub same_path : Path → Path → Bool
same_path = pointwise bytes_eq

-- the path stands below the directory, which is a proper prefix of it
abbrev pub is_below : Path → Path → Bool
is_below [] directory = false
is_below (p ∷ ps) [] = true
is_below (p ∷ ps) (d ∷ ds) = bytes_eq p d && is_below ps ds

-- path order: the order of the lists of components, components by their bytes
abbrev pub path_cmp : Path → Path → Ordering
path_cmp = slice_cmp (slice_cmp nat_cmp)

abbrev pub precedes : Path → Path → Bool
precedes p q = is_lt (path_cmp p q)
