-- Entries of a table, each a key and a value, by their places.
use Rattle.std.proofs.Common.{◌≡◌, ◌<◌, ℕ, zero, suc, List, [], ◌∷◌, Some, get_or, length, slice_get, refl, ap, arith}
use Rattle.indexmap.specs.IndexMap.{set_value_at}
use Rattle.std.specs.List.{All}
use Rattle.std.specs.Map.{values_of}
use Rattle.std.proofs.Math.ListN.{set}
use Rattle.std.proofs.lemmas.List.Elements.{All-head, All-tail, All-cons}

-- the entry whose value stands at a place
pub record Entry {N V : Type 0} (es : List (N × V)) (i : ℕ) (v : V) : Type 0 where
  pub key : N
  pub within : i < length es
  pub is : get_or es i (key, v) ≡ (key, v)

pub entry_at : {N V : Type 0} (es : List (N × V)) (i : ℕ) (v : V) → slice_get (values_of es) i ≡ Some v → Entry es i v
entry_at [] i v at = cc
entry_at (e ∷ es) zero v at = let same : e.1 ≡ v = cc at in record { key = e.0; within = omega arith; is = λ j. (e.0, same j) }
entry_at (e ∷ es) (suc i) v at = let rest = entry_at es i v at in record { key = rest.key; within = omega (arith, rest.within); is = rest.is }

pub set_value_at-set : {N V : Type 0} (es : List (N × V)) (i : ℕ) (w : V) (d : N × V) → set_value_at es i w ≡ set es i ((get_or es i d).0, w)
set_value_at-set [] i w d = refl
set_value_at-set (e ∷ es) zero w d = refl
set_value_at-set (e ∷ es) (suc i) w d = ap (λ l. e ∷ l) (set_value_at-set es i w d)

-- what holds of each entry holds of each where a value is written
pub All-set_value_at : {N V : Type 0} (P : N × V → Type 0) (es : List (N × V)) (i : ℕ) (w : V) → ((e : N × V) → P e → P (e.0, w)) → All P es → All P (set_value_at es i w)
All-set_value_at P [] i w keeps all = all
All-set_value_at P (e ∷ es) zero w keeps all = All-cons P (e.0, w) es (keeps e (All-head P e es all)) (All-tail P e es all)
All-set_value_at P (e ∷ es) (suc i) w keeps all = All-cons P e (set_value_at es i w) (All-head P e es all) (All-set_value_at P es i w keeps (All-tail P e es all))
