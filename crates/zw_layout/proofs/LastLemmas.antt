-- Matching by the last symbol of a pattern and the last element of a list.
use Rattle.std.proofs.Common.{◌≡◌, Bool, true, false, ◌&&◌, ◌||◌, cond, List, [], ◌∷◌, ◌++◌, refl, ap, sym, ◌∙◌}
use Rattle.std.proofs.Math.Bool.{or_assoc}
use Rattle.zw_def.specs.Pattern.{can_cut, some_rest, first_and_rest}

and_false : (a : Bool) → (a && false) ≡ false
and_false true = refl
and_false false = refl

or_false : (a : Bool) → (a || false) ≡ a
or_false true = refl
or_false false = refl

module _ {X : Type 0} where
  some_rest_last : (test : List X → Bool) (xs : List X) (x : X) → some_rest test (xs ++ x ∷ []) ≡ (some_rest (λ ys. test (ys ++ x ∷ [])) xs || test [])
  some_rest_last test [] x = refl
  some_rest_last test (y ∷ ys) x =
      ap (λ b. test (y ∷ (ys ++ x ∷ [])) || b) (some_rest_last test ys x)
      ∙ sym (or_assoc (test (y ∷ (ys ++ x ∷ []))) (some_rest (λ zs. test (zs ++ x ∷ [])) ys) (test []))

  some_rest_or : (s t : List X → Bool) (xs : List X) → some_rest (λ ys. s ys || t ys) xs ≡ (some_rest s xs || some_rest t xs)
  some_rest_or s t [] = refl
  some_rest_or s t (x ∷ xs) = ap (λ b. (s (x ∷ xs) || t (x ∷ xs)) || b) (some_rest_or s t xs) ∙ four (s (x ∷ xs)) (t (x ∷ xs)) (some_rest s xs) (some_rest t xs) where
    four : (a b c d : Bool) → ((a || b) || (c || d)) ≡ ((a || c) || (b || d))
    four true b c d = refl
    four false true true d = refl
    four false true false d = refl
    four false false c d = refl

  some_rest_and : (s : List X → Bool) (k : Bool) (xs : List X) → some_rest (λ ys. s ys && k) xs ≡ (some_rest s xs && k)
  some_rest_and s k [] = refl
  some_rest_and s k (x ∷ xs) = ap (λ b. (s (x ∷ xs) && k) || b) (some_rest_and s k xs) ∙ three (s (x ∷ xs)) (some_rest s xs) k where
    three : (a b c : Bool) → ((a && c) || (b && c)) ≡ ((a || b) && c)
    three true true true = refl
    three true true false = refl
    three true false true = refl
    three true false false = refl
    three false b c = refl

  -- F matches one symbol more than G does: a star or not, and whether it fits the last element
  abbrev further : Bool → Bool → (List X → Bool) → (List X → Bool) → List X → X → Bool
  further star fit F G xs x = cond star (G (xs ++ x ∷ []) || F xs) (G xs && fit)

  rest_further : (star fit : Bool) (F G : List X → Bool) (x : X) → ((xs : List X) → F (xs ++ x ∷ []) ≡ further star fit F G xs x) → F [] ≡ (star && G []) → (xs : List X) → some_rest F (xs ++ x ∷ []) ≡ further star fit (some_rest F) (some_rest G) xs x
  rest_further true fit F G x more none xs =
      some_rest_last F xs x
      ∙ (λ i. some_rest (λ ys. more ys i) xs || none i)
      ∙ ap (λ b. b || G []) (some_rest_or (λ ys. G (ys ++ x ∷ [])) F xs)
      ∙ turned (some_rest (λ ys. G (ys ++ x ∷ [])) xs) (some_rest F xs) (G [])
      ∙ ap (λ b. b || some_rest F xs) (sym (some_rest_last G xs x))
    where
      turned : (a b c : Bool) → ((a || b) || c) ≡ ((a || c) || b)
      turned true b c = refl
      turned false true true = refl
      turned false true false = refl
      turned false false true = refl
      turned false false false = refl
  rest_further false fit F G x more none xs =
      some_rest_last F xs x
      ∙ (λ i. some_rest (λ ys. more ys i) xs || none i)
      ∙ or_false (some_rest (λ ys. G ys && fit) xs)
      ∙ some_rest_and G fit xs

  first_further : (first : X → Bool) (star fit : Bool) (F G : List X → Bool) (x : X) → ((xs : List X) → F (xs ++ x ∷ []) ≡ further star fit F G xs x) → F [] ≡ (star && G []) → (xs : List X) → first_and_rest first F (xs ++ x ∷ []) ≡ further star fit (first_and_rest first F) (first_and_rest first G) xs x
  first_further first true fit F G x more none [] = ap (λ b. first x && b) none ∙ sym (or_false (first x && G []))
  first_further first false fit F G x more none [] = ap (λ b. first x && b) none ∙ and_false (first x)
  first_further first true fit F G x more none (y ∷ ys) = ap (λ b. first y && b) (more ys) ∙ both (first y) (G (ys ++ x ∷ [])) (F ys) where
    both : (a b c : Bool) → (a && (b || c)) ≡ ((a && b) || (a && c))
    both true b c = refl
    both false b c = refl
  first_further first false fit F G x more none (y ∷ ys) = ap (λ b. first y && b) (more ys) ∙ all (first y) (G ys) fit where
    all : (a b c : Bool) → (a && (b && c)) ≡ ((a && b) && c)
    all true b c = refl
    all false b c = refl

module _ {P X : Type 0} (star : P → Bool) (fits : P → X → Bool) where
  abbrev cut : List P → List X → Bool
  cut = can_cut star fits

  rest_nothing : (xs : List X) → some_rest (cut []) xs ≡ true
  rest_nothing [] = refl
  rest_nothing (x ∷ xs) = rest_nothing xs

  -- no elements
  pub cut_last_none : (ps : List P) (p : P) → cut (ps ++ p ∷ []) [] ≡ (star p && cut ps [])
  cut_last_none [] p = by (star p) where
    by : (s : Bool) → cond s true false ≡ (s && true)
    by true = refl
    by false = refl
  cut_last_none (q ∷ qs) p = by (star q) (star p) (cut_last_none qs p) where
    by : (s t : Bool) → cut (qs ++ p ∷ []) [] ≡ (t && cut qs []) → cond s (cut (qs ++ p ∷ []) []) false ≡ (t && cond s (cut qs []) false)
    by true t more = more
    by false t more = sym (and_false t)

  -- an element more
  pub cut_last : (ps : List P) (p : P) (xs : List X) (x : X) → cut (ps ++ p ∷ []) (xs ++ x ∷ []) ≡ cond (star p) (cut ps (xs ++ x ∷ []) || cut (ps ++ p ∷ []) xs) (cut ps xs && fits p x)
  cut_last [] p xs x = by (star p) xs where
    nothing : (ys : List X) → cut [] (ys ++ x ∷ []) ≡ false
    nothing [] = refl
    nothing (y ∷ ys) = refl

    by : (s : Bool) (ys : List X) → cond s (some_rest (cut []) (ys ++ x ∷ [])) (first_and_rest (fits p) (cut []) (ys ++ x ∷ [])) ≡ cond s (cut [] (ys ++ x ∷ []) || cond s (some_rest (cut []) ys) (first_and_rest (fits p) (cut []) ys)) (cut [] ys && fits p x)
    by true ys = rest_nothing (ys ++ x ∷ []) ∙ (λ i. sym (nothing ys) i || sym (rest_nothing ys) i)
    by false [] = one (fits p x) where
      one : (a : Bool) → (a && true) ≡ a
      one true = refl
      one false = refl
    by false (y ∷ ys) = ap (λ b. fits p y && b) (nothing ys) ∙ and_false (fits p y)
  cut_last (q ∷ qs) p xs x = by (star q) (λ ys. cut_last qs p ys x) where
    by : (s : Bool) → ((ys : List X) → cut (qs ++ p ∷ []) (ys ++ x ∷ []) ≡ further (star p) (fits p x) (cut (qs ++ p ∷ [])) (cut qs) ys x) → cond s (some_rest (cut (qs ++ p ∷ [])) (xs ++ x ∷ [])) (first_and_rest (fits q) (cut (qs ++ p ∷ [])) (xs ++ x ∷ [])) ≡ cond (star p) (cond s (some_rest (cut qs) (xs ++ x ∷ [])) (first_and_rest (fits q) (cut qs) (xs ++ x ∷ [])) || cond s (some_rest (cut (qs ++ p ∷ [])) xs) (first_and_rest (fits q) (cut (qs ++ p ∷ [])) xs)) (cond s (some_rest (cut qs) xs) (first_and_rest (fits q) (cut qs) xs) && fits p x)
    by true more = rest_further (star p) (fits p x) (cut (qs ++ p ∷ [])) (cut qs) x more (cut_last_none qs p) xs
    by false more = first_further (fits q) (star p) (fits p x) (cut (qs ++ p ∷ [])) (cut qs) x more (cut_last_none qs p) xs
