-- A loop that looks through a list for something, and ends where it finds it.
use Rattle.std.proofs.Common.{◌≡◌, ◌≤◌, ◌<◌, ◌+◌, ℕ, zero, suc, max, ◌||◌, Bool, true, false, List, [], ◌∷◌, length, get_or, drop, refl, ap, sym, ◌∙◌, subst, arith}
use Rattle.zw_lemmas.proofs.ListLemmas.{drop-at}
use Rattle.zw_def.specs.Text.{Text}
use Rattle.zw_places.specs.Tells.{Always, Finds}

abbrev pub Finder : Type 0
Finder = List Text → Bool

drop_all : {A : Type 0} (xs : List A) (i : ℕ) → length xs ≤ i → drop i xs ≡ []
drop_all [] zero le = refl
drop_all [] (suc i) le = refl
drop_all (x ∷ xs) zero le = absurd (omega arith)
drop_all (x ∷ xs) (suc i) le = drop_all xs i (omega arith)

-- what is found in an item and in a list of items, and the names of each
pub record Rows (A : Type 0) : Type 0 where
  pub item : A → Finder
  pub row : List A → Finder
  pub bound : A → ℕ
  pub total : List A → ℕ
  pub none : (names : List Text) → row [] names ≡ false
  pub more : (x : A) (xs : List A) (names : List Text) → row (x ∷ xs) names ≡ (item x names || row xs names)
  pub totals : (x : A) (xs : List A) → total (x ∷ xs) ≡ max (bound x) (total xs)

module _ {A : Type 0} (r : Rows A) where
  -- nothing was found before what is left
  abbrev pub Left : List A → List A → Type 0
  Left xs rest = Always (r.total xs) (λ names. r.row xs names ≡ r.row rest names)

  bound_at : (xs : List A) (i : ℕ) (x : A) → i < length xs → r.bound (get_or xs i x) ≤ r.total xs
  bound_at [] i x lt = absurd (omega arith)
  bound_at (y ∷ ys) zero x lt = omega (arith, r.totals y ys)
  bound_at (y ∷ ys) (suc i) x lt = let e = bound_at ys i x (omega arith) in omega (arith, r.totals y ys, e)

  at_front : (xs : List A) (i : ℕ) (x : A) (names : List Text) → i < length xs
      → r.row (drop i xs) names ≡ (r.item (get_or xs i x) names || r.row (drop (i + 1) xs) names)
  at_front xs i x names lt =
      ap (λ ys. r.row ys names) (drop-at xs i (i + 1) x lt (omega arith)) ∙ r.more (get_or xs i x) (drop (i + 1) xs) names

  pub begun : (xs : List A) → Left xs (drop 0 xs)
  begun xs = λ names distinct within. refl

  pub goes_on : (xs : List A) (i : ℕ) (x : A) (v : Bool) → i < length xs → x ≡ get_or xs i x → Left xs (drop i xs)
      → Finds (r.item x) (r.bound x) v → v ≡ false → Left xs (drop (i + 1) xs)
  goes_on xs i x v lt here left item e = λ names distinct within.
      let fits = bound_at xs i x lt in
      let found : Finds (r.item (get_or xs i x)) (r.bound (get_or xs i x)) v = subst (λ y. Finds (r.item y) (r.bound y) v) here item in
      left names distinct within ∙ at_front xs i x names lt
      ∙ ap (λ b. b || r.row (drop (i + 1) xs) names) (sym (found names distinct (omega (arith, fits, within))) ∙ e)

  pub stops : (xs : List A) (i : ℕ) (x : A) (v : Bool) → i < length xs → x ≡ get_or xs i x → Left xs (drop i xs)
      → Finds (r.item x) (r.bound x) v → v ≡ true → Finds (r.row xs) (r.total xs) true
  stops xs i x v lt here left item e = λ names distinct within.
      let fits = bound_at xs i x lt in
      let found : Finds (r.item (get_or xs i x)) (r.bound (get_or xs i x)) v = subst (λ y. Finds (r.item y) (r.bound y) v) here item in
      sym (left names distinct within ∙ at_front xs i x names lt
      ∙ ap (λ b. b || r.row (drop (i + 1) xs) names) (sym (found names distinct (omega (arith, fits, within))) ∙ e))

  pub ends : (xs : List A) (i : ℕ) → length xs ≤ i → Left xs (drop i xs) → Finds (r.row xs) (r.total xs) false
  ends xs i le left = λ names distinct within.
      sym (left names distinct within ∙ ap (λ ys. r.row ys names) (drop_all xs i le) ∙ r.none names)
