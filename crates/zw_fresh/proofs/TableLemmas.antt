-- What is read of a table after a change, and tables whose values a function made of those of another one.
use Rattle.std.specs.Prelude.{◌≡◌, Bool, true, false, [], ◌∷◌, map, Option, Some, None, is_some, if◌then◌else◌}
use Rattle.std.specs.Option.{option_map}
use Rattle.std.specs.Str.{bytes_eq}
use Rattle.std.proofs.Common.{refl, sym, ap, ◌∙◌}
use Rattle.std.proofs.lemmas.Slice.Eq.{bytes_eq-Decides}
use Rattle.zw_def.specs.Text.{Text}
use Rattle.zw_def_world.specs.Table.{Table, at, assigned, removed}
use Rattle.zw_fresh.specs.Renaming.{in_entry}
use Rattle.zw_fresh.proofs.NameLemmas.{apart}

alike : (b c : Bool) → (b ≡ true → c ≡ true) → (c ≡ true → b ≡ true) → b ≡ c
alike true c f g = sym (f refl)
alike false true f g = absurd (apart (sym (g refl)))
alike false false f g = refl

turned : (a b : Text) → bytes_eq a b ≡ true → bytes_eq b a ≡ true
turned a b e = (bytes_eq-Decides b a).1 (sym ((bytes_eq-Decides a b).0 e))

symmetric : (a b : Text) → bytes_eq a b ≡ bytes_eq b a
symmetric a b = alike (bytes_eq a b) (bytes_eq b a) (turned a b) (turned b a)

moved : (a b c : Text) → bytes_eq a c ≡ true → bytes_eq b c ≡ bytes_eq a b
moved a b c e = ap (λ k. bytes_eq b k) (sym ((bytes_eq-Decides a c).0 e)) ∙ symmetric b a

joined : (a b c : Text) → bytes_eq a b ≡ true → bytes_eq b c ≡ true → bytes_eq a c ≡ true
joined a b c e f = ap (λ k. bytes_eq a k) (sym ((bytes_eq-Decides b c).0 f)) ∙ e

-- what is assigned is read, and the rest stays
pub at-assigned : {A : Type 0} (k : Text) (x : A) (es : Table A) (j : Text)
    → at j (assigned k x es) ≡ (if bytes_eq k j then Some x else at j es)
at-assigned k x [] j = ap (λ b. if b then Some x else None) (symmetric j k)
at-assigned {A} k x (e ∷ es) j = by (at-assigned k x es j) (bytes_eq k e.0) refl
  where
    by : at j (assigned k x es) ≡ (if bytes_eq k j then Some x else at j es) → (b : Bool) → bytes_eq k e.0 ≡ b
        → at j (if b then (k, x) ∷ es else e ∷ assigned k x es) ≡ (if bytes_eq k j then Some x else at j (e ∷ es))
    by later true t = ap (λ b. if b then Some x else at j es) (symmetric j k) ∙ either (bytes_eq k j) (moved k j e.0 t)
      where
        either : (b : Bool) → bytes_eq j e.0 ≡ b
            → (if b then Some x else at j es) ≡ (if b then Some x else at j (e ∷ es))
        either true f = refl
        either false f = sym (ap (λ b. if b then Some e.1 else at j es) f)
    by later false t = ap (λ r. if bytes_eq j e.0 then Some e.1 else r) later ∙ either (bytes_eq j e.0) (bytes_eq k j) refl refl
      where
        either : (a b : Bool) → bytes_eq j e.0 ≡ a → bytes_eq k j ≡ b
            → (if a then Some e.1 else (if b then Some x else at j es))
            ≡ (if b then Some x else (if a then Some e.1 else at j es))
        either true true f g = absurd (apart (sym (joined k j e.0 g f) ∙ t))
        either true false f g = refl
        either false true f g = refl
        either false false f g = refl

-- ---- tables made of others

module _ {A B : Type 0} (f : A → B) where
  pub at-made : (x : Text) (es : Table A) → at x (map (in_entry f) es) ≡ option_map f (at x es)
  at-made x [] = refl
  at-made x (e ∷ es) = by (at-made x es) (bytes_eq x e.0)
    where
      by : at x (map (in_entry f) es) ≡ option_map f (at x es) → (b : Bool)
          → (if b then Some (f e.1) else at x (map (in_entry f) es)) ≡ option_map f (if b then Some e.1 else at x es)
      by later true = refl
      by later false = later

  pub assigned-made : (x : Text) (v : A) (es : Table A)
      → assigned x (f v) (map (in_entry f) es) ≡ map (in_entry f) (assigned x v es)
  assigned-made x v [] = refl
  assigned-made x v (e ∷ es) = by (assigned-made x v es) (bytes_eq x e.0)
    where
      by : assigned x (f v) (map (in_entry f) es) ≡ map (in_entry f) (assigned x v es) → (b : Bool)
          → (if b then (x, f v) ∷ map (in_entry f) es else (e.0, f e.1) ∷ assigned x (f v) (map (in_entry f) es))
          ≡ map (in_entry f) (if b then (x, v) ∷ es else e ∷ assigned x v es)
      by later true = refl
      by later false = ap (λ l. (e.0, f e.1) ∷ l) later

  pub removed-made : (x : Text) (es : Table A) → removed x (map (in_entry f) es) ≡ map (in_entry f) (removed x es)
  removed-made x [] = refl
  removed-made x (e ∷ es) = by (removed-made x es) (bytes_eq x e.0)
    where
      by : removed x (map (in_entry f) es) ≡ map (in_entry f) (removed x es) → (b : Bool)
          → (if b then map (in_entry f) es else (e.0, f e.1) ∷ removed x (map (in_entry f) es))
          ≡ map (in_entry f) (if b then es else e ∷ removed x es)
      by later true = refl
      by later false = ap (λ l. (e.0, f e.1) ∷ l) later

-- whether there is a value
pub is_some-made : {A B : Type 0} (f : A → B) (o : Option A) → is_some (option_map f o) ≡ is_some o
is_some-made f None = refl
is_some-made f (Some x) = refl
