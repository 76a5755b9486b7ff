-- The files of one name of a directory, between those of the names before and after it.
use Rattle.std.specs.Prelude.{◌≡◌, [], ◌∷◌, ◌++◌, map}
use Rattle.std.specs.List.{AllByRecursion}
use Rattle.std.specs.declared.cmp.Ordering.TheVariants.{Less}
use Rattle.zw_def.specs.Text.{Text}
use Rattle.zw_def.specs.Path.{Path}
use Rattle.zw_def.specs.Tree.{File, Tree}
use Rattle.zw_tree.specs.Row.{Node, file, folder, below, told_rows}
use Rattle.zw_tree.specs.Sound.{text_cmp}

-- the files of a row, by their paths from there: a file's own path from there is empty
abbrev pub inner : Node → Tree
inner (file text) = record { path = []; text = text } ∷ []
inner (folder rows) = told_rows rows

abbrev pub middle : Tree → Text → Tree → Tree → Tree
middle front name tree back = front ++ (map (below name) tree ++ back)

-- the path's first name stands before the name, or after it
abbrev pub BeginsBefore : Text → Path → Type 0
BeginsBefore name [] = ⊥
BeginsBefore name (c ∷ cs) = text_cmp c name ≡ Less

abbrev pub BeginsAfter : Text → Path → Type 0
BeginsAfter name [] = ⊥
BeginsAfter name (c ∷ cs) = text_cmp name c ≡ Less

abbrev pub AllBegin : (Path → Type 0) → Tree → Type 0
AllBegin Holds tree = AllByRecursion (λ (f : File). Holds f.path) tree
