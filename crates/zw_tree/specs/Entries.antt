-- The entries of a directory, from the whole tree.
use Rattle.std.specs.Prelude.{ℕ, Bool, true, false, List, [], ◌∷◌, ◌++◌, Option, Some, None, if◌then◌else◌}
use Rattle.std.specs.List.{slice_get}
use Rattle.std.specs.Option.{option_and_then}
use Rattle.std.specs.Str.{bytes_eq}
use Rattle.zw_def.specs.Text.{Text}
use Rattle.zw_def.specs.Path.{Path}
use Rattle.zw_def.specs.Tree.{Tree}

-- a file or a directory by its name
pub record Listed : Type 0 where
  pub name : Text
  pub is_dir : Bool

-- a file's path cut after its first component, where that is this one and something follows
abbrev pub cut_file : Text → Path → Text → Tree
cut_file name [] text = []
cut_file name (p ∷ []) text = []
cut_file name (p ∷ q ∷ more) text = if bytes_eq p name then record { path = q ∷ more; text = text } ∷ [] else []

abbrev pub cut : Text → Tree → Tree
cut name [] = []
cut name (f ∷ fs) = cut_file name f.path f.text ++ cut name fs

-- the files below the directory, by their paths from there
abbrev pub tree_below : Path → Tree → Tree
tree_below [] tree = tree
tree_below (d ∷ ds) tree = tree_below ds (cut d tree)

-- one more first component, where the next is not the same
abbrev pub joined : Listed → List Listed → List Listed
joined e [] = e ∷ []
joined e (g ∷ gs) = if bytes_eq e.name g.name then g ∷ gs else e ∷ g ∷ gs

abbrev pub with_first : Path → List Listed → List Listed
with_first [] es = es
with_first (p ∷ []) es = joined record { name = p; is_dir = false } es
with_first (p ∷ q ∷ more) es = joined record { name = p; is_dir = true } es

-- the first components of the paths, each once; a directory where more components follow
abbrev pub first_names : Tree → List Listed
first_names [] = []
first_names (f ∷ fs) = with_first f.path (first_names fs)

abbrev pub entries_of : Path → Tree → List Listed
entries_of directory tree = first_names (tree_below directory tree)

-- the files below the k-th entry, if that is a directory
abbrev pub child_at : ℕ → Tree → Option Tree
child_at k tree =
    option_and_then (λ e. if e.is_dir then Some (cut e.name tree) else None) (slice_get (first_names tree) k)
