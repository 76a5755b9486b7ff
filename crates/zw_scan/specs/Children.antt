-- What stands directly below a constant path.
use Rattle.std.specs.Prelude.{List, [], ◌∷◌, ◌++◌, map, filter_map, drop, if◌then◌else◌, Option, Some, None, option_map}
use Rattle.std.specs.List.{fold}
use Rattle.std.specs.Option.{option_map_or}
use Rattle.std.specs.Ordering.{nat_cmp, is_lt}
use Rattle.std.specs.Cmp.Lexicographic.{slice_cmp}
use Rattle.std.specs.Str.{bytes_eq}
use Rattle.zw_def.specs.Text.{Text}
use Rattle.zw_def.specs.Path.{Path}
use Rattle.zw_def.specs.Tree.{Tree}
use Rattle.zw_def.specs.Layout.{Layout}
use Rattle.zw_def.specs.ConstantPath.{ConstantPath}
use Rattle.zw_def.specs.Nesting.{child}
use Rattle.zw_def.specs.Wrong.{wrong_below}
use Rattle.zw_def.specs.Map.{Expecting, all_expecting, paths_of, names_of, expecting_files, expecting_directories}

-- the last name of a path that is a child of the first
abbrev pub name_below : ConstantPath → ConstantPath → Option Text
name_below [] [] = None
name_below [] (n ∷ []) = Some n
name_below [] (n ∷ m ∷ q) = None
name_below (n ∷ p) [] = None
name_below (n ∷ p) (m ∷ q) = if bytes_eq n m then name_below p q else None

-- a name at its place in byte order, unless it is there
abbrev pub with_text : Text → List Text → List Text
with_text n [] = n ∷ []
with_text n (m ∷ ms) =
    if bytes_eq n m then m ∷ ms else if is_lt (slice_cmp nat_cmp n m) then n ∷ m ∷ ms else m ∷ with_text n ms

-- the names of the children among these paths, each once, in byte order
abbrev pub names_below : ConstantPath → List ConstantPath → List Text
names_below p qs = fold (λ sorted n. with_text n sorted) [] (filter_map (name_below p) qs)

-- a child: the file that wins, the directories, and the files that are shadowed
pub record Child : Type 0 where
  pub name : Text
  pub winner : Option Path
  pub directories : List Path
  pub shadowed : List Path

abbrev pub first_of : List Path → Option Path
first_of [] = None
first_of (path ∷ paths) = Some path

abbrev pub child_with : Text → List Path → List Path → Child
child_with name files directories =
    record { name = name; winner = first_of files; directories = directories; shadowed = drop 1 files }

abbrev pub child_of : List Expecting → List Expecting → ConstantPath → Text → Child
child_of files directories p n =
    child_with n (paths_of (all_expecting (child p n) files)) (paths_of (all_expecting (child p n) directories))

-- in byte order of names
abbrev pub rows_of : Layout → Tree → ConstantPath → List Child
rows_of layout tree p =
    map (child_of (expecting_files layout tree) (expecting_directories layout tree) p)
    (names_below p (names_of (expecting_files layout tree) ++ names_of (expecting_directories layout tree)))

-- the path up to the first wrong name directly below the path
abbrev pub wrong_of : Layout → Tree → ConstantPath → Option Path
wrong_of layout tree p = option_map (λ w. w.path) (wrong_below layout tree p)

pub record Children : Type 0 where
  pub rows : List Child
  pub wrong : Option Path

abbrev pub children_of : Layout → Tree → ConstantPath → Children
children_of layout tree p = record { rows = rows_of layout tree p; wrong = wrong_of layout tree p }

-- the names of the children, with that of one more path
abbrev pub below_more : ConstantPath → List Text → ConstantPath → List Text
below_more p names q = option_map_or (λ n. with_text n names) (name_below p q) names
