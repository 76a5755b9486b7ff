-- The rows of a directory: its files and directories by name. A directory has rows of its own.
use Rattle.std.specs.Prelude.{ℕ, suc, ◌+◌, List, [], ◌∷◌, ◌++◌, map}
use Rattle.zw_def.specs.Text.{Text}
use Rattle.zw_def.specs.Tree.{File, Tree}

-- what a name stands for, and the rows of a directory in another
mutual
  pub data Node : Type 0 where
    file : Text → Node
    folder : Rows → Node

  pub data Rows : Type 0 where
    no_rows : Rows
    row : Text → Node → Rows → Rows

pub record Row : Type 0 where
  pub name : Text
  pub node : Node

-- the same rows as a list, and back
abbrev pub listed : Rows → List Row
listed no_rows = []
listed (row name node more) = record { name = name; node = node } ∷ listed more

abbrev pub rows_of : List Row → Rows
rows_of [] = no_rows
rows_of (r ∷ rs) = row r.name r.node (rows_of rs)

-- the rows of a directory, and none of a file
abbrev pub rows_within : Node → List Row
rows_within (file text) = []
rows_within (folder rows) = listed rows

-- ---- the files

-- a file of a directory, by its path from the directory above that
abbrev pub below : Text → File → File
below name f = record { path = name ∷ f.path; text = f.text }

abbrev mutual
  pub told_rows : Rows → Tree
  told_rows no_rows = []
  told_rows (row name node more) = files_under name node ++ told_rows more

  pub files_under : Text → Node → Tree
  files_under name (file text) = record { path = name ∷ []; text = text } ∷ []
  files_under name (folder rows) = map (below name) (told_rows rows)

-- the tree that the rows tell
abbrev pub told : List Row → Tree
told [] = []
told (r ∷ rs) = files_under r.name r.node ++ told rs

-- ---- sizes

-- how many rows there are, those of the directories counted
abbrev mutual
  pub count_rows : Rows → ℕ
  count_rows no_rows = 0
  count_rows (row name node more) = suc (count_node node + count_rows more)

  pub count_node : Node → ℕ
  count_node (file text) = 0
  count_node (folder rows) = count_rows rows

abbrev pub count : List Row → ℕ
count [] = 0
count (r ∷ rs) = suc (count_node r.node + count rs)

-- how many directories lie each in the last row of the one before
abbrev mutual
  pub chain_rows : Rows → ℕ
  chain_rows no_rows = 0
  chain_rows (row name node no_rows) = chain_node node
  chain_rows (row name node (row other n more)) = chain_rows (row other n more)

  pub chain_node : Node → ℕ
  chain_node (file text) = 0
  chain_node (folder rows) = suc (chain_rows rows)

abbrev pub chain : List Row → ℕ
chain [] = 0
chain (r ∷ []) = chain_node r.node
chain (r ∷ s ∷ rs) = chain (s ∷ rs)
