-- Characters at a place of a text.
use Rattle.std.proofs.Common.{◌≡◌, ◌<◌, ◌≤◌, ℕ, ℤ, pos, negsuc, ◌<ℤ◌, List, [], ◌∷◌, length, map, get_or, take, drop, false, nat_le, cond, Option, Some, None, refl, sym, ap, subst, ◌∙◌, arith}
use Rattle.std.proofs.lemmas.Bool.{le-ltb, lt-ltb, le-leb, leb-true, false_from_ne_true}
use Rattle.std.proofs.lemmas.Int.{ints}
use Rattle.zw_def_world.specs.Act.{gives}
use Rattle.zw_def_world.specs.Making.{makes_text}
use Rattle.zw_def_world.specs.StringRows.{character_at, characters_at, of_characters, part_at, place_in}
use Rattle.zw_def_world.specs.Value.{nil, integer_in}
use Rattle.zw_heap.specs.Telling.{Telling, tell}
use Rattle.zw_heap.specs.declared.value.Value.{Value}
use Rattle.zw_heap.specs.declared.value.Value.TheVariants as v

not-le : (a b : ℕ) → b < a → nat_le a b ≡ false
not-le a b lt = false_from_ne_true (nat_le a b) (λ e. omega (arith, lt, leb-true a b e))

module _ (z : ℤ) (n : ℕ) (cs : List ℕ) (len : n ≡ length cs) (o : Option ℕ) (at : o ≡ place_in z n) where
  here : place_in z (length cs) ≡ o
  here = ap (place_in z) (sym len) ∙ sym at

  pub character-none : o ≡ None → character_at (place_in z (length cs)) cs ≡ gives nil
  character-none is = ap (λ p. character_at p cs) (here ∙ is)

  module _ (k : ℕ) (is : o ≡ Some k) where
    pub character-past : n ≤ k → character_at (place_in z (length cs)) cs ≡ gives nil
    character-past past =
        ap (λ p. character_at p cs) (here ∙ is)
        ∙ ap (λ b. cond b (makes_text (of_characters (take 1 (drop k cs)))) (gives nil)) (le-ltb k (length cs) (subst (λ m. m ≤ k) len past))

    pub character-some : k < n → character_at (place_in z (length cs)) cs ≡ makes_text (of_characters (take 1 (drop k cs)))
    character-some lt =
        ap (λ p. character_at p cs) (here ∙ is)
        ∙ ap (λ b. cond b (makes_text (of_characters (take 1 (drop k cs)))) (gives nil)) (lt-ltb k (length cs) (subst (λ m. k < m) len lt))

  module _ (y : ℤ) (count : ℕ) (counts : y ≡ pos count) where
    pub characters-none : o ≡ None → characters_at (place_in z (length cs)) y cs ≡ gives nil
    characters-none is = ap (λ p. characters_at p y cs) (here ∙ is)

    module _ (k : ℕ) (is : o ≡ Some k) where
      whole : characters_at (place_in z (length cs)) y cs ≡ characters_at (Some k) (pos count) cs
      whole = λ i. characters_at ((here ∙ is) i) (counts i) cs

      pub characters-past : n < k → characters_at (place_in z (length cs)) y cs ≡ gives nil
      characters-past past = whole ∙ ap (λ b. cond b (makes_text (of_characters (take count (drop k cs)))) (gives nil)) (not-le k (length cs) (subst (λ m. m < k) len past))

      pub characters-some : k ≤ n → characters_at (place_in z (length cs)) y cs ≡ makes_text (of_characters (take count (drop k cs)))
      characters-some le = whole ∙ ap (λ b. cond b (makes_text (of_characters (take count (drop k cs)))) (gives nil)) (le-leb k (length cs) (subst (λ m. k ≤ m) len le))

pub characters-negative : (o : Option ℕ) (y : ℤ) (cs : List ℕ) → y <ℤ pos 0 → characters_at o y cs ≡ gives nil
characters-negative None y cs low = refl
characters-negative (Some n) (pos count) cs low = absurd (omega (arith, ints, low))
characters-negative (Some n) (negsuc count) cs low = refl

-- ---- by the arguments

module _ (cs : List ℕ) (args : List Value) (I : Telling) where
  pub part-nothing : length args < 1 → part_at cs (map (tell I) args) ≡ gives nil
  part-nothing few = by args few
    where
      by : (xs : List Value) → length xs < 1 → part_at cs (map (tell I) xs) ≡ gives nil
      by [] few = refl
      by (x ∷ xs) few = absurd (omega (arith, few))

  pub part-character : (z : ℤ) → 1 ≤ length args → length args < 2 → integer_in (tell I (get_or args 0 v.Nil)) ≡ z → part_at cs (map (tell I) args) ≡ character_at (place_in z (length cs)) cs
  part-character z some few is = by args some few is
    where
      by : (xs : List Value) → 1 ≤ length xs → length xs < 2 → integer_in (tell I (get_or xs 0 v.Nil)) ≡ z → part_at cs (map (tell I) xs) ≡ character_at (place_in z (length cs)) cs
      by [] some few is = absurd (omega (arith, some))
      by (x ∷ []) some few is = ap (λ y. character_at (place_in y (length cs)) cs) is
      by (x ∷ y ∷ xs) some few is = absurd (omega (arith, few))

  pub part-characters : (z count : ℤ) → 2 ≤ length args → integer_in (tell I (get_or args 0 v.Nil)) ≡ z → integer_in (tell I (get_or args 1 v.Nil)) ≡ count → part_at cs (map (tell I) args) ≡ characters_at (place_in z (length cs)) count cs
  part-characters z count some is counts = by args some is counts
    where
      by : (xs : List Value) → 2 ≤ length xs → integer_in (tell I (get_or xs 0 v.Nil)) ≡ z → integer_in (tell I (get_or xs 1 v.Nil)) ≡ count → part_at cs (map (tell I) xs) ≡ characters_at (place_in z (length cs)) count cs
      by [] some is counts = absurd (omega (arith, some))
      by (x ∷ []) some is counts = absurd (omega (arith, some))
      by (x ∷ y ∷ xs) some is counts = λ i. characters_at (place_in (is i) (length cs)) (counts i) cs
