-- Tables of modules: one more that is empty, and one that is changed.
use Rattle.std.proofs.Common.{◌≡◌, Bool, true, false, ◌==◌, ℕ, zero, suc, ◌<◌, List, [], ◌∷◌, ◌++◌, length, slice_get, cond, Some, Result, Ok, Err, OnOk, nat_eq, refl, ap, sym, ◌∙◌, arith}
use Rattle.std.specs.Option.{unwrap_or}
use Rattle.std.proofs.Math.ListN.{set}
use Rattle.std.proofs.lemmas.Bool.{eqb-true, eq-eqb}
use Rattle.indexmap.specs.IndexMap.{insert_entry}
use Rattle.zw_consts.specs.Table.{Table, tables_of, at_table, with_value}

module _ {V : Type 0} where
  pushed_at : (ts : List (Table V)) (n : ℕ) → tables_of (ts ++ [] ∷ []) n ≡ tables_of ts n
  pushed_at [] zero = refl
  pushed_at [] (suc n) = refl
  pushed_at (t ∷ ts) zero = refl
  pushed_at (t ∷ ts) (suc n) = pushed_at ts n

  pub tables_of-pushed : (ts : List (Table V)) → tables_of (ts ++ [] ∷ []) ≡ tables_of ts
  tables_of-pushed ts = λ i n. pushed_at ts n i

  set_there : (ts : List (Table V)) (m : ℕ) (t : Table V) → m < length ts → tables_of (set ts m t) m ≡ t
  set_there [] m t lt = absurd (omega (arith, lt))
  set_there (x ∷ ts) zero t lt = refl
  set_there (x ∷ ts) (suc m) t lt = set_there ts m t (omega (arith, lt))

  set_apart : (ts : List (Table V)) (m n : ℕ) (t : Table V) → (n ≡ m → ⊥) → tables_of (set ts m t) n ≡ tables_of ts n
  set_apart [] m n t ne = refl
  set_apart (x ∷ ts) zero zero t ne = absurd (ne refl)
  set_apart (x ∷ ts) zero (suc n) t ne = refl
  set_apart (x ∷ ts) (suc m) zero t ne = refl
  set_apart (x ∷ ts) (suc m) (suc n) t ne = set_apart ts m n t (λ e. ne (ap suc e))

  module _ (ts old : List (Table V)) (m : ℕ) (at : Table V) (g : Table V → Table V) (within : m < length ts) (same : tables_of ts ≡ tables_of old) (there : slice_get ts m ≡ Some at) where
    set_at : (n : ℕ) → tables_of (set ts m (g at)) n ≡ at_table m g (tables_of old) n
    set_at n = by (n == m) refl
      where
        here : tables_of old m ≡ at
        here = ap (λ (tables : ℕ → Table V). tables m) (sym same) ∙ ap (λ o. unwrap_or o []) there

        by : (b : Bool) → (n == m) ≡ b → tables_of (set ts m (g at)) n ≡ cond b (g (tables_of old n)) (tables_of old n)
        by true e = ap (tables_of (set ts m (g at))) (eqb-true n m e) ∙ set_there ts m (g at) within ∙ ap g (sym here) ∙ ap (λ k. g (tables_of old k)) (sym (eqb-true n m e))
        by false e = set_apart ts m n (g at) (λ z. let y : false ≡ true = sym e ∙ eq-eqb n m z in absurd (cc)) ∙ ap (λ (tables : ℕ → Table V). tables n) same

    pub at_table-set : tables_of (set ts m (g at)) ≡ at_table m g (tables_of old)
    at_table-set = λ i n. set_at n i

  pub with_value-set : {T E : Type 0} (r : Result T E) (ts old : List (Table V)) (m x : ℕ) (v : V) (at new : Table V) → m < length ts → tables_of ts ≡ tables_of old → slice_get ts m ≡ Some at → OnOk r (new ≡ insert_entry nat_eq at x v) → OnOk r (tables_of (set ts m new) ≡ with_value m x v (tables_of old))
  with_value-set (Ok u) ts old m x v at new within same there e =
      ap (λ t. tables_of (set ts m t)) e ∙ at_table-set ts old m at (λ t. insert_entry nat_eq t x v) within same there
  with_value-set (Err u) ts old m x v at new within same there e = tt
