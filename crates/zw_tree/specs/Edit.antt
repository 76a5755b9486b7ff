-- Edits of a tree, and what is in their way.
use Rattle.std.specs.Prelude.{Bool, not, ◌||◌, filter}
use Rattle.std.specs.List.{list_any}
use Rattle.zw_def.specs.Text.{Text}
use Rattle.zw_def.specs.Path.{Path, same_path, is_below}
use Rattle.zw_def.specs.Tree.{Tree, with_file}

-- the path is that of a file
abbrev pub is_file_of : Tree → Path → Bool
is_file_of tree path = list_any (λ f. same_path f.path path) tree

-- a directory above the path is a file, or the path is a directory
abbrev pub is_blocked : Tree → Path → Bool
is_blocked tree path = list_any (λ f. is_below f.path path || is_below path f.path) tree

-- the tree without the file at the path
abbrev pub without_file : Tree → Path → Tree
without_file tree path = filter (λ f. not (same_path f.path path)) tree

-- the tree in which the path has this text
abbrev pub tree_with : Tree → Path → Text → Tree
tree_with tree path text = with_file (without_file tree path) path text
