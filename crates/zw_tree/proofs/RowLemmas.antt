-- The files that rows tell.
use Rattle.std.proofs.Common.{◌≡◌, ℕ, zero, suc, ◌<◌, subst, length-append, Some, List, [], ◌∷◌, ◌++◌, length, map, refl, ap, sym, ◌∙◌, arith}
use Rattle.std.proofs.lemmas.List.{append_assoc}
use Rattle.zw_def.specs.Text.{Text}
use Rattle.zw_def.specs.Path.{Path}
use Rattle.zw_def.specs.Tree.{Tree}
use Rattle.zw_tree.specs.Row.{Node, Rows, Row, file, folder, no_rows, row, listed, rows_of, below, told, told_rows, files_under}
use Rattle.zw_tree.specs.Sound.{AllAfter, AllBefore}
use Rattle.std.specs.List.{slice_get}
use Rattle.std.specs.Option.{option_and_then}
use Rattle.zw_tree.specs.Places.{Found}
use Rattle.zw_tree.proofs.ListLemmas.{get-at}
use Rattle.zw_tree.specs.Lookup.{with_node, folder_at, file_at, rows_in, text_in}
use Rattle.zw_tree.specs.Middle.{inner, middle, BeginsBefore, BeginsAfter, AllBegin}

pub told_rows-of : (rs : List Row) → told_rows (rows_of rs) ≡ told rs
told_rows-of [] = refl
told_rows-of (r ∷ rs) = ap (λ t. files_under r.name r.node ++ t) (told_rows-of rs)

pub told-listed : (rows : Rows) → told (listed rows) ≡ told_rows rows
told-listed no_rows = refl
told-listed (row name node more) = ap (λ t. files_under name node ++ t) (told-listed more)

pub rows-listed : (rows : Rows) → rows_of (listed rows) ≡ rows
rows-listed no_rows = refl
rows-listed (row name node more) = ap (row name node) (rows-listed more)

pub told-append : (xs ys : List Row) → told (xs ++ ys) ≡ told xs ++ told ys
told-append [] ys = refl
told-append (x ∷ xs) ys = ap (λ t. files_under x.name x.node ++ t) (told-append xs ys) ∙ sym (append_assoc (files_under x.name x.node) (told xs) (told ys))

pub files_under-inner : (name : Text) (node : Node) → files_under name node ≡ map (below name) (inner node)
files_under-inner name (file text) = refl
files_under-inner name (folder rows) = refl

pub told_middle : (front : List Row) (r : Row) (back : List Row) → told (front ++ r ∷ back) ≡ middle (told front) r.name (inner r.node) (told back)
told_middle front r back = told-append front (r ∷ back) ∙ ap (λ t. told front ++ (t ++ told back)) (files_under-inner r.name r.node)

pub told_gap : (c : Text) (front back : List Row) → told (front ++ back) ≡ middle (told front) c [] (told back)
told_gap c front back = told-append front back

begins_row : (Holds : Path → Type 0) (name : Text) (node : Node) (ys : Tree) → ((p : Path) → Holds (name ∷ p)) → AllBegin Holds ys → AllBegin Holds (files_under name node ++ ys)
begins_row Holds name (file text) ys all more = (all [], more)
begins_row Holds name (folder rows) ys all more = by (told_rows rows) where
  by : (tree : Tree) → AllBegin Holds (map (below name) tree ++ ys)
  by [] = more
  by (f ∷ fs) = (all f.path, by fs)

pub begins_before : (c : Text) (rows : List Row) → AllBefore rows c → AllBegin (BeginsBefore c) (told rows)
begins_before c [] before = tt
begins_before c (r ∷ rs) before = begins_row (BeginsBefore c) r.name r.node (told rs) (λ p. before.0) (begins_before c rs before.1)

pub begins_after : (c : Text) (rows : List Row) → AllAfter c rows → AllBegin (BeginsAfter c) (told rows)
begins_after c [] after = tt
begins_after c (r ∷ rs) after = begins_row (BeginsAfter c) r.name r.node (told rs) (λ p. after.0) (begins_after c rs after.1)

pub with_node-at : (front : List Row) (r : Row) (back : List Row) (n : ℕ) (node : Node) → length front ≡ n → with_node (front ++ r ∷ back) n node ≡ front ++ record { name = r.name; node = node } ∷ back
with_node-at [] r back zero node at = refl
with_node-at [] r back (suc n) node at = absurd (omega arith)
with_node-at (x ∷ front) r back zero node at = absurd (omega arith)
with_node-at (x ∷ front) r back (suc n) node at = ap (λ rs. x ∷ rs) (with_node-at front r back n node (omega arith))

-- no path is empty
pub paths_some : (rows : List Row) → AllBegin (λ p. 0 < length p) (told rows)
paths_some [] = tt
paths_some (r ∷ rs) = begins_row (λ p. 0 < length p) r.name r.node (told rs) (λ p. omega arith) (paths_some rs)

pub paths_some-within : (rows : Rows) → AllBegin (λ p. 0 < length p) (told_rows rows)
paths_some-within rows = subst (AllBegin (λ p. 0 < length p)) (told-listed rows) (paths_some (listed rows))

-- what stands where a name is found
module _ (rows : List Row) (c : Text) (n : ℕ) (found : Found rows c n) where
  row_found : slice_get rows n ≡ Some record { name = c; node = found.node }
  row_found = ap (λ rs. slice_get rs n) found.is ∙ get-at found.front record { name = c; node = found.node } found.back n found.at

  pub folder_found : folder_at rows n ≡ rows_in found.node
  folder_found = ap (option_and_then (λ (r : Row). rows_in r.node)) row_found

  pub file_found : file_at rows n ≡ text_in found.node
  file_found = ap (option_and_then (λ (r : Row). text_in r.node)) row_found

pub with_node-length : (rows : List Row) (n : ℕ) (node : Node) → length (with_node rows n node) ≡ length rows
with_node-length [] n node = refl
with_node-length (r ∷ rs) zero node = omega arith
with_node-length (r ∷ rs) (suc n) node = omega (arith, with_node-length rs n node)

pub found_within : (rows : List Row) (c : Text) (n : ℕ) → Found rows c n → n < length rows
found_within rows c n found = omega (arith, ap length found.is, length-append found.front (record { name = c; node = found.node } ∷ found.back), found.at)
