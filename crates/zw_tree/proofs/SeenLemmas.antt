-- Edits of the code's entries, and the rows that they are.
use Rattle.std.proofs.Common.{◌≡◌, ℕ, zero, suc, ◌<◌, Some, List, [], ◌∷◌, length, get_or, set, refl, ap, sym, ◌∙◌, arith}
use Rattle.std.specs.Global.{Box}
use Rattle.std.specs.List.{slice_get, remove}
use Rattle.std.specs.Option.{option_map}
use Rattle.std.proofs.lemmas.List.{length-map}
use Rattle.std.proofs.lemmas.Option.{slice_get-map, slice_get-get_or}
use Rattle.zw_tree.specs.Row.{Row}
use Rattle.zw_tree.specs.Seen.{row_seen, rows_seen}
use Rattle.zw_tree.specs.Lookup.{with_node}
use Rattle.zw_tree.specs.declared.folder.Entry.{Entry}

pub row_at : (es : List (Box Entry)) (k : ℕ) (e : Box Entry) → k < length es → e ≡ get_or es k e → slice_get (rows_seen es) k ≡ Some (row_seen e.value)
row_at es k e lt is =
    slice_get-map (λ (b : Box Entry). row_seen b.value) es k
    ∙ ap (option_map (λ (b : Box Entry). row_seen b.value)) (slice_get-get_or es k e lt)
    ∙ ap (λ (b : Box Entry). Some (row_seen b.value)) (sym is)

pub rows-set : (es : List (Box Entry)) (k : ℕ) (e new : Box Entry) → k < length es → e ≡ get_or es k e → (row_seen new.value).name ≡ (row_seen e.value).name → rows_seen (set es k new) ≡ with_node (rows_seen es) k (row_seen new.value).node
rows-set [] k e new lt is name = absurd (omega arith)
rows-set (x ∷ es) zero e new lt is name =
    let same : (row_seen new.value).name ≡ (row_seen x.value).name = name ∙ ap (λ (b : Box Entry). (row_seen b.value).name) is in
    ap (λ n. record { name = n; node = (row_seen new.value).node } ∷ rows_seen es) same
rows-set (x ∷ es) (suc k) e new lt is name = ap (λ rs. row_seen x.value ∷ rs) (rows-set es k e new (omega arith) is name)

pub rows-remove : (es : List (Box Entry)) (k : ℕ) → rows_seen (remove es k) ≡ remove (rows_seen es) k
rows-remove [] zero = refl
rows-remove [] (suc k) = refl
rows-remove (x ∷ es) zero = refl
rows-remove (x ∷ es) (suc k) = ap (λ rs. row_seen x.value ∷ rs) (rows-remove es k)

pub rows-length : (es : List (Box Entry)) → length (rows_seen es) ≡ length es
rows-length es = length-map es (λ (b : Box Entry). row_seen b.value)

-- a place of the rows that a directory is, which are those of the entries
module _ (es : List (Box Entry)) (rows : List Row) (are : rows_seen es ≡ rows) (k : ℕ) (lt : k < length rows) (e : Box Entry) (is : e ≡ get_or es k e) where
  within : k < length es
  within = omega (arith, lt, rows-length es, ap length are)

  pub looked_up : slice_get rows k ≡ Some (row_seen e.value)
  looked_up = ap (λ rs. slice_get rs k) (sym are) ∙ row_at es k e within is

  pub changed : (new : Box Entry) → (row_seen new.value).name ≡ (row_seen e.value).name → rows_seen (set es k new) ≡ with_node rows k (row_seen new.value).node
  changed new name = rows-set es k e new within is name ∙ ap (λ rs. with_node rs k (row_seen new.value).node) are

-- a node in its own place
pub with_node-same : (rows : List Row) (k : ℕ) (r : Row) → slice_get rows k ≡ Some r → with_node rows k r.node ≡ rows
with_node-same [] zero r e = cc
with_node-same [] (suc k) r e = cc
with_node-same (x ∷ rs) zero r e = (let same : x ≡ r = cc in ap (λ (y : Row). record { name = x.name; node = y.node } ∷ rs) (sym same))
with_node-same (x ∷ rs) (suc k) r e = ap (λ more. x ∷ more) (with_node-same rs k r e)
