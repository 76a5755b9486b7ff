-- Names are equal where their parts are, and names of numbers where the numbers are.
use Rattle.std.proofs.Common.{◌≡◌, ◌||◌, ◌&&◌, ◌==◌, Bool, true, false, ℕ, List, [], ◌∷◌, map, Option, Some, None, nat_eq, refl, ap, sym, ◌∙◌, Decides}
use Rattle.std.specs.List.{list_any}
use Rattle.std.specs.Bool.{one_answer}
use Rattle.std.specs.Str.{bytes_eq}
use Rattle.std.proofs.lemmas.Bool.{eqb-true, eq-eqb}
use Rattle.std.proofs.lemmas.Slice.Eq.{bytes_eq-Decides}
use Rattle.std.specs.Cmp.Lexicographic.{pointwise_decides}
use Rattle.zw_def.specs.Text.{Text}
use Rattle.zw_def.specs.ConstantPath.{ConstantPath}
use Rattle.zw_def.specs.Nesting.{same_names}
use Rattle.zw_def_world.specs.Id.{Id, id_eq, same_load}
use Rattle.zw_def_world.specs.Ancestor.{is_among}
use Rattle.zw_heap.specs.Telling.{Telling}

-- ---- names

same_names-Decides : (p q : ConstantPath) → Decides (same_names p q) (p ≡ q)
same_names-Decides = pointwise_decides bytes_eq-Decides

both : (a b : Bool) → (a && b) ≡ true → (a ≡ true) × (b ≡ true)
both true b e = (refl, e)
both false b e = absurd (cc)

same_load-same : (a b : Option ConstantPath) → same_load a b ≡ true → a ≡ b
same_load-same None None e = refl
same_load-same None (Some q) e = absurd (cc)
same_load-same (Some p) None e = absurd (cc)
same_load-same (Some p) (Some q) e = ap Some ((same_names-Decides p q).0 e)

same_load-self : (a : Option ConstantPath) → same_load a a ≡ true
same_load-self None = refl
same_load-self (Some p) = (same_names-Decides p p).1 refl

pub id_eq-same : (i j : Id) → id_eq i j ≡ true → i ≡ j
id_eq-same i j e =
    let outer = both (i.count == j.count && i.setup == j.setup) (same_load i.load j.load) e in
    let inner = both (i.count == j.count) (i.setup == j.setup) outer.0 in
    let count = eqb-true i.count j.count inner.0 in
    let setup = eqb-true i.setup j.setup inner.1 in
    let load = same_load-same i.load j.load outer.1 in
    λ k. record { setup = setup k; load = load k; count = count k }

pub id_eq-self : (i : Id) → id_eq i i ≡ true
id_eq-self i = λ k. eq-eqb i.count i.count refl k && eq-eqb i.setup i.setup refl k && same_load-self i.load k

-- ---- names of numbers

module _ (ids : ℕ → Id) (differ : (m n : ℕ) → ids m ≡ ids n → m ≡ n) where
  pub ids_told : (n m : ℕ) → id_eq (ids n) (ids m) ≡ nat_eq n m
  ids_told n m = one_answer (id_eq (ids n) (ids m)) (nat_eq n m)
      ((λ e. differ n m (id_eq-same (ids n) (ids m) e)), (λ (same : n ≡ m). ap (λ k. id_eq (ids n) (ids k)) (sym same) ∙ id_eq-self (ids n)))
      (eqb-true n m, eq-eqb n m)

  pub is_among-told : (ns : List ℕ) (n : ℕ) → is_among (map ids ns) (ids n) ≡ list_any (nat_eq n) ns
  is_among-told [] n = refl
  is_among-told (m ∷ ns) n = (λ i. ids_told n m i || is_among-told ns n i)

pub module_told : (I : Telling) (n m : ℕ) → id_eq (I.module_id n) (I.module_id m) ≡ nat_eq n m
module_told I = ids_told I.module_id I.modules_differ

pub name_told : (name : ℕ → Text) → ((m n : ℕ) → name m ≡ name n → m ≡ n) → (x y : ℕ) → bytes_eq (name x) (name y) ≡ nat_eq x y
name_told name differ x y = one_answer (bytes_eq (name x) (name y)) (nat_eq x y)
    ((λ e. differ x y ((bytes_eq-Decides (name x) (name y)).0 e)), (λ (same : x ≡ y). (bytes_eq-Decides (name x) (name y)).1 (ap name same)))
    (eqb-true x y, eq-eqb x y)
