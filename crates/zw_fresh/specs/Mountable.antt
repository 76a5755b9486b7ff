-- Trees that a folder can hold whole: no limit is passed, and no file is left out.
use Rattle.std.specs.Prelude.{◌≡◌, ◌≤◌, true, false, List, [], ◌∷◌, length, Some, Ok}
use Rattle.std.specs.List.{list_any, AllByRecursion}
use Rattle.zw_def.specs.Path.{Path, path_text, same_path, is_below, precedes}
use Rattle.zw_def.specs.Tree.{File, Tree, is_ruby_path, size_of}
use Rattle.zw_def.specs.Folder.{Listing}
use Rattle.zw_def_session.specs.Answers.{max_files, max_file, max_tree}
use Rattle.zw_def_session.specs.Opening.{listed_path, listed_tree}

-- a file that a listing gives: its text tells its path, which is a Ruby path and none of the fixed ones
pub record IsListed (fixed : List Path) (f : File) : Type 0 where
  pub told : listed_path (path_text f.path) ≡ Some f.path
  pub ruby : is_ruby_path f.path ≡ true
  pub free : list_any (same_path f.path) fixed ≡ false
  pub small : length f.text ≤ max_file

-- the first precedes the second, and neither is a directory of the other
pub record StandsBefore (f g : File) : Type 0 where
  pub earlier : precedes f.path g.path ≡ true
  pub below : is_below f.path g.path ≡ false
  pub above : is_below g.path f.path ≡ false

abbrev pub InOrder : Tree → Type 0
InOrder [] = Unit {0}
InOrder (f ∷ fs) = AllByRecursion (StandsBefore f) fs × InOrder fs

pub record IsMountable (fixed : List Path) (tree : Tree) : Type 0 where
  pub files : AllByRecursion (IsListed fixed) tree
  pub order : InOrder tree
  pub count : length tree ≤ max_files
  pub size : size_of tree ≤ max_tree

-- some folder mounts each of them
abbrev pub MountableIsMounted : Type 0
MountableIsMounted =
    (fixed : List Path) (tree : Tree) → IsMountable fixed tree
    → (folder : Listing) × (listed_tree fixed folder ≡ Ok tree)
