-- Where a name stands among rows with rising names.
use Rattle.std.specs.Prelude.{◌≡◌, ℕ, List, ◌∷◌, ◌++◌, length, Result, Ok, Err}
use Rattle.zw_def.specs.Text.{Text}
use Rattle.zw_tree.specs.Row.{Node, Row}
use Rattle.zw_tree.specs.Sound.{AllAfter, AllBefore}

-- the row of this name stands at the index
pub record Found (rows : List Row) (c : Text) (n : ℕ) : Type 0 where
  pub front : List Row
  pub node : Node
  pub back : List Row
  pub is : rows ≡ front ++ record { name = c; node = node } ∷ back
  pub at : length front ≡ n
  pub before : AllBefore front c
  pub after : AllAfter c back

-- no row has this name, and one would stand at the index
pub record Gap (rows : List Row) (c : Text) (n : ℕ) : Type 0 where
  pub front : List Row
  pub back : List Row
  pub is : rows ≡ front ++ back
  pub at : length front ≡ n
  pub before : AllBefore front c
  pub after : AllAfter c back

abbrev pub Places : List Row → Text → Result ℕ ℕ → Type 0
Places rows c (Ok n) = Found rows c n
Places rows c (Err n) = Gap rows c n
