-- Rows whose names rise, and whose directories hold a file each.
use Rattle.std.specs.Prelude.{◌≡◌, ◌<◌, List, [], ◌∷◌, length}
use Rattle.std.specs.List.{AllByRecursion}
use Rattle.std.specs.Ordering.{nat_cmp}
use Rattle.std.specs.Cmp.Lexicographic.{slice_cmp}
use Rattle.std.specs.declared.cmp.Ordering.{Ordering}
use Rattle.std.specs.declared.cmp.Ordering.TheVariants.{Less}
use Rattle.zw_def.specs.Text.{Text}
use Rattle.zw_tree.specs.Row.{Node, Rows, Row, file, folder, no_rows, row, listed, told_rows}

abbrev pub text_cmp : Text → Text → Ordering
text_cmp = slice_cmp nat_cmp

abbrev pub AllAfter : Text → List Row → Type 0
AllAfter name rows = AllByRecursion (λ r. text_cmp name r.name ≡ Less) rows

abbrev pub AllBefore : List Row → Text → Type 0
AllBefore rows name = AllByRecursion (λ r. text_cmp r.name name ≡ Less) rows

-- a directory has a file, and sound rows
abbrev mutual
  pub IsWhole : Node → Type 0
  IsWhole (file text) = Unit {0}
  IsWhole (folder rows) = (0 < length (told_rows rows)) × AreSound rows

  pub AreSound : Rows → Type 0
  AreSound no_rows = Unit {0}
  AreSound (row name node more) = IsWhole node × AllAfter name (listed more) × AreSound more

-- the names rise, and each node is whole
abbrev pub IsSound : List Row → Type 0
IsSound [] = Unit {0}
IsSound (r ∷ rs) = IsWhole r.node × AllAfter r.name rs × IsSound rs
