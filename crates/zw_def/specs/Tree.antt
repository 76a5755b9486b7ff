-- Trees of files. A tree is a finite map from paths to bytes, told as its pairs in path order.
use Rattle.std.specs.Prelude.{not, ℕ, Bool, false, List, [], ◌∷◌, ◌==◌, ◌&&◌, ◌||◌, if◌then◌else◌, codes, length, drop, ◌-◌, nat_le, sum_by}
use Rattle.std.specs.List.{list_any}
use Rattle.std.specs.Str.{bytes_eq}
use Rattle.zw_def.specs.Text.{Text}
use Rattle.zw_def.specs.Path.{Path, same_path, is_below, precedes}

-- a file of a tree
pub record File : Type 0 where
  pub path : Path
  pub text : Text

abbrev pub Tree : Type 0
Tree = List File

-- the text ends with the three bytes of `.rb`
abbrev pub ends_in_rb : Text → Bool
ends_in_rb text = nat_le 3 (length text) && bytes_eq (drop (length text - 3) text) (codes ".rb")

abbrev pub begins_with_dot : Text → Bool
begins_with_dot [] = false
begins_with_dot (b ∷ bs) = b == 46

-- the last component ends in `.rb`, and no component begins with a dot
abbrev pub is_ruby_path : Path → Bool
is_ruby_path [] = false
is_ruby_path (p ∷ []) = ends_in_rb p && not (begins_with_dot p)
is_ruby_path (p ∷ q ∷ more) = not (begins_with_dot p) && is_ruby_path (q ∷ more)

-- the path is a key of the tree, a directory of it, or stands below a key
abbrev pub is_in_the_way : Tree → Path → Bool
is_in_the_way tree path = list_any (λ f. same_path f.path path || is_below f.path path || is_below path f.path) tree

-- a listed path that is taken, where these paths are fixed and this is the tree so far
abbrev pub admits : List Path → Tree → Path → Bool
admits fixed tree path = is_ruby_path path && not (list_any (same_path path) fixed) && not (is_in_the_way tree path)

-- the tree with one more file, at its place in path order
abbrev pub with_file : Tree → Path → Text → Tree
with_file [] path text = record { path = path; text = text } ∷ []
with_file (f ∷ fs) path text =
    if precedes path f.path then record { path = path; text = text } ∷ f ∷ fs
    else f ∷ with_file fs path text

-- the bytes of all files together
abbrev pub size_of : Tree → ℕ
size_of tree = sum_by (λ f. length f.text) tree
