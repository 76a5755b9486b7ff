-- Matching up to the first star, and past it.
use Rattle.std.proofs.Common.{◌≡◌, ℕ, zero, suc, ◌<◌, ◌≤◌, ◌+◌, Bool, true, false, ◌&&◌, ◌||◌, cond, eqb, List, [], ◌∷◌, length, drop, refl, ap, sym, ◌∙◌, arith, inl, inr}
use Rattle.std.proofs.Math.Seq.{drop-nil}
use Rattle.std.proofs.lemmas.Bool.{eqb-true, and_parts, or_cases, or_right}
use Rattle.zw_def.proofs.PatternLemmas.{rest_here}
use Rattle.zw_def.specs.Pattern.{can_cut, some_rest, first_and_rest}
use Rattle.zw_path.specs.Front.{front_of, front_past, past}
use Rattle.zw_path.specs.declared.symbol.Front.{Front}
use Rattle.zw_path.specs.declared.symbol.Front.TheVariants.{Star, Whole, Unlike}

same_bool : (a b : Bool) → (a ≡ true → b ≡ true) → (b ≡ true → a ≡ true) → a ≡ b
same_bool true b h k = sym (h refl)
same_bool false true h k = k refl
same_bool false false h k = refl

module _ {X : Type 0} (test : List X → Bool) where
  rest_one_more : (n : ℕ) (x : X) (xs : List X) → some_rest test (drop n xs) ≡ true → some_rest test (drop n (x ∷ xs)) ≡ true
  rest_one_more zero x xs e = or_right (test (x ∷ xs)) (some_rest test xs) e
  rest_one_more (suc n) x [] e = ap (some_rest test) (drop-nil n) ∙ e
  rest_one_more (suc n) x (y ∷ ys) e = rest_one_more n y ys e

-- where there is no match, what is left after a run begins one further
rest_past : {X : Type 0} (test : List X → Bool) (xs : List X) → false ≡ eqb (length xs) 0 → test xs ≡ false → some_rest test xs ≡ some_rest test (drop 1 xs)
rest_past test [] some e = cc
rest_past test (x ∷ xs) some e = ap (λ b. b || some_rest test xs) e

rest_end : {X : Type 0} (test : List X → Bool) (xs : List X) → true ≡ eqb (length xs) 0 → test xs ≡ false → some_rest test xs ≡ false
rest_end test [] none e = e
rest_end test (x ∷ xs) none e = absurd (let z : length (x ∷ xs) ≡ 0 = eqb-true (length (x ∷ xs)) 0 (sym none) in omega arith)

-- one element that fits, and what is left
past_whole : (f : Bool) (o : Front) → cond f (past 1 o) Unlike ≡ Whole → (f ≡ true) × (o ≡ Whole)
past_whole false o e = cc
past_whole true (Star n) e = cc
past_whole true Whole e = (refl, refl)
past_whole true Unlike e = cc

past_unlike : (f : Bool) (o : Front) (m : Bool) → (o ≡ Unlike → m ≡ false) → cond f (past 1 o) Unlike ≡ Unlike → (f && m) ≡ false
past_unlike false o m h e = refl
past_unlike true (Star n) m h e = cc
past_unlike true Whole m h e = cc
past_unlike true Unlike m h e = h refl

past_star : (f : Bool) (o : Front) (n : ℕ) → cond f (past 1 o) Unlike ≡ Star n → (f ≡ true) × ((m : ℕ) × (n ≡ 1 + m) × (o ≡ Star m))
past_star false o n e = cc
past_star true (Star m) n e = (refl, (m, cc, refl))
past_star true Whole n e = cc
past_star true Unlike n e = cc

module _ {P X : Type 0} (is_star : P → Bool) (fits : P → X → Bool) where
  abbrev matched : List P → List X → Bool
  matched = can_cut is_star fits

  abbrev front : List P → List X → Front
  front = front_of is_star fits

  matched_star : (p : P) (ps : List P) (xs : List X) → is_star p ≡ true → matched (p ∷ ps) xs ≡ some_rest (matched ps) xs
  matched_star p ps xs = ap (λ s. cond s (some_rest (matched ps) xs) (first_and_rest (fits p) (matched ps) xs))

  matched_symbol : (p : P) (ps : List P) (xs : List X) → is_star p ≡ false → matched (p ∷ ps) xs ≡ first_and_rest (fits p) (matched ps) xs
  matched_symbol p ps xs = ap (λ s. cond s (some_rest (matched ps) xs) (first_and_rest (fits p) (matched ps) xs))

  front_star : (p : P) (ps : List P) (xs : List X) → is_star p ≡ true → front (p ∷ ps) xs ≡ Star 0
  front_star p ps xs = ap (λ s. cond s (Star 0) (front_past (fits p) (front ps) xs))

  front_symbol : (p : P) (ps : List P) (xs : List X) → is_star p ≡ false → front (p ∷ ps) xs ≡ front_past (fits p) (front ps) xs
  front_symbol p ps xs = ap (λ s. cond s (Star 0) (front_past (fits p) (front ps) xs))

  pub matched_whole : (ps : List P) (xs : List X) → front ps xs ≡ Whole → matched ps xs ≡ true
  matched_whole [] [] e = refl
  matched_whole [] (x ∷ xs) e = cc
  matched_whole (p ∷ ps) [] e = at (is_star p) refl where
    at : (s : Bool) → is_star p ≡ s → matched (p ∷ ps) [] ≡ true
    at true s = let k = front_star p ps [] s in cc
    at false s = let k = front_symbol p ps [] s in cc
  matched_whole (p ∷ ps) (x ∷ xs) e = at (is_star p) refl (matched_whole ps xs) where
    at : (s : Bool) → is_star p ≡ s → (front ps xs ≡ Whole → matched ps xs ≡ true) → matched (p ∷ ps) (x ∷ xs) ≡ true
    at true s more = let k = front_star p ps (x ∷ xs) s in cc
    at false s more =
        let past_it = past_whole (fits p x) (front ps xs) (sym (front_symbol p ps (x ∷ xs) s) ∙ e) in
        matched_symbol p ps (x ∷ xs) s ∙ (λ i. past_it.0 i && more past_it.1 i)

  pub matched_unlike : (ps : List P) (xs : List X) → front ps xs ≡ Unlike → matched ps xs ≡ false
  matched_unlike [] [] e = cc
  matched_unlike [] (x ∷ xs) e = refl
  matched_unlike (p ∷ ps) [] e = at (is_star p) refl where
    at : (s : Bool) → is_star p ≡ s → matched (p ∷ ps) [] ≡ false
    at true s = let k = front_star p ps [] s in cc
    at false s = matched_symbol p ps [] s
  matched_unlike (p ∷ ps) (x ∷ xs) e = at (is_star p) refl (matched_unlike ps xs) where
    at : (s : Bool) → is_star p ≡ s → (front ps xs ≡ Unlike → matched ps xs ≡ false) → matched (p ∷ ps) (x ∷ xs) ≡ false
    at true s more = let k = front_star p ps (x ∷ xs) s in cc
    at false s more =
        matched_symbol p ps (x ∷ xs) s ∙ past_unlike (fits p x) (front ps xs) (matched ps xs) more (sym (front_symbol p ps (x ∷ xs) s) ∙ e)

  at_star : (p : P) (ps : List P) (xs : List X) (n : ℕ) → n ≡ 0 → is_star p ≡ true → matched (p ∷ ps) xs ≡ some_rest (matched (drop 1 (drop n (p ∷ ps)))) (drop n xs)
  at_star p ps xs n first s = matched_star p ps xs s ∙ ap (λ k. some_rest (matched (drop 1 (drop k (p ∷ ps)))) (drop k xs)) (sym first)

  one_on : (p : P) (ps : List P) (x : X) (xs : List X) (n m : ℕ) → n ≡ 1 + m → some_rest (matched (drop 1 (drop m ps))) (drop m xs) ≡ some_rest (matched (drop 1 (drop n (p ∷ ps)))) (drop n (x ∷ xs))
  one_on p ps x xs n m next =
      let here : suc m ≡ n = omega arith in
      λ i. some_rest (matched (drop 1 (drop (here i) (p ∷ ps)))) (drop (here i) (x ∷ xs))

  -- up to its first star the pattern fits, so what follows the star decides
  pub matched_front : (ps : List P) (xs : List X) (n : ℕ) → front ps xs ≡ Star n → matched ps xs ≡ some_rest (matched (drop 1 (drop n ps))) (drop n xs)
  matched_front [] [] n e = cc
  matched_front [] (x ∷ xs) n e = cc
  matched_front (p ∷ ps) [] n e = at (is_star p) refl where
    at : (s : Bool) → is_star p ≡ s → matched (p ∷ ps) [] ≡ some_rest (matched (drop 1 (drop n (p ∷ ps)))) (drop n [])
    at true s = let k = front_star p ps [] s in at_star p ps [] n (cc) s
    at false s = let k = front_symbol p ps [] s in cc
  matched_front (p ∷ ps) (x ∷ xs) n e = at (is_star p) refl (matched_front ps xs) where
    at : (s : Bool) → is_star p ≡ s → ((m : ℕ) → front ps xs ≡ Star m → matched ps xs ≡ some_rest (matched (drop 1 (drop m ps))) (drop m xs)) → matched (p ∷ ps) (x ∷ xs) ≡ some_rest (matched (drop 1 (drop n (p ∷ ps)))) (drop n (x ∷ xs))
    at true s more = let k = front_star p ps (x ∷ xs) s in at_star p ps (x ∷ xs) n (cc) s
    at false s more =
        let (fit, (m, next, star)) = past_star (fits p x) (front ps xs) n (sym (front_symbol p ps (x ∷ xs) s) ∙ e) in
        matched_symbol p ps (x ∷ xs) s ∙ (λ i. fit i && more m star i) ∙ one_on p ps x xs n m next

  -- and so it does for any other elements that the pattern matches
  matched_later : (ps : List P) (xs : List X) (n : ℕ) → front ps xs ≡ Star n → (zs : List X) → matched ps zs ≡ true → some_rest (matched (drop 1 (drop n ps))) (drop n zs) ≡ true
  matched_later [] [] n e zs h = cc
  matched_later [] (x ∷ xs) n e zs h = cc
  matched_later (p ∷ ps) [] n e zs h = at (is_star p) refl where
    at : (s : Bool) → is_star p ≡ s → some_rest (matched (drop 1 (drop n (p ∷ ps)))) (drop n zs) ≡ true
    at true s = let k = front_star p ps [] s in sym (at_star p ps zs n (cc) s) ∙ h
    at false s = let k = front_symbol p ps [] s in cc
  matched_later (p ∷ ps) (x ∷ xs) n e [] h = at (is_star p) refl where
    at : (s : Bool) → is_star p ≡ s → some_rest (matched (drop 1 (drop n (p ∷ ps)))) (drop n []) ≡ true
    at true s = let k = front_star p ps (x ∷ xs) s in sym (at_star p ps [] n (cc) s) ∙ h
    at false s = let k = matched_symbol p ps [] s in cc
  matched_later (p ∷ ps) (x ∷ xs) n e (z ∷ zs) h = at (is_star p) refl (matched_later ps xs) where
    at : (s : Bool) → is_star p ≡ s → ((m : ℕ) → front ps xs ≡ Star m → (ys : List X) → matched ps ys ≡ true → some_rest (matched (drop 1 (drop m ps))) (drop m ys) ≡ true) → some_rest (matched (drop 1 (drop n (p ∷ ps)))) (drop n (z ∷ zs)) ≡ true
    at true s more = let k = front_star p ps (x ∷ xs) s in sym (at_star p ps (z ∷ zs) n (cc) s) ∙ h
    at false s more =
        let (fit, (m, next, star)) = past_star (fits p x) (front ps xs) n (sym (front_symbol p ps (x ∷ xs) s) ∙ e) in
        sym (one_on p ps z zs n m next) ∙ more m star zs (and_parts (fits p z) (matched ps zs) (sym (matched_symbol p ps (z ∷ zs) s) ∙ h)).1

  -- the runs that an earlier star may take need not be tried again
  pub rest_front : (ps : List P) (xs : List X) (n : ℕ) → front ps xs ≡ Star n → some_rest (matched ps) xs ≡ some_rest (matched (drop 1 (drop n ps))) (drop n xs)
  rest_front ps xs n e = same_bool _ _ (there xs) (λ h. rest_here (matched ps) xs (matched_front ps xs n e ∙ h)) where
    there : (zs : List X) → some_rest (matched ps) zs ≡ true → some_rest (matched (drop 1 (drop n ps))) (drop n zs) ≡ true
    there [] h = matched_later ps xs n e [] h
    there (z ∷ zs) h =
        elim (or_cases (matched ps (z ∷ zs)) (some_rest (matched ps) zs) h) [
          | inl here ↦ matched_later ps xs n e (z ∷ zs) here
          | inr later ↦ rest_one_more (matched (drop 1 (drop n ps))) n z zs (there zs later)
        ]

  -- the pattern has ended, and there are more elements
  pub front_short : (ps : List P) (xs : List X) (n : ℕ) → length ps ≤ n → n < length xs → front (drop n ps) (drop n xs) ≡ Unlike
  front_short [] [] n h lt = absurd (omega arith)
  front_short [] (x ∷ xs) zero h lt = refl
  front_short [] (x ∷ xs) (suc n) h lt = ap (λ ps. front ps (drop n xs)) (sym (drop-nil n)) ∙ front_short [] xs n (omega arith) (omega arith)
  front_short (p ∷ ps) [] n h lt = absurd (omega arith)
  front_short (p ∷ ps) (x ∷ xs) zero h lt = absurd (omega arith)
  front_short (p ∷ ps) (x ∷ xs) (suc n) h lt = front_short ps xs n (omega arith) (omega arith)

  -- what one turn says of the runs
  pub rest_whole : (ps : List P) (xs : List X) → front ps xs ≡ Whole → some_rest (matched ps) xs ≡ true
  rest_whole ps xs e = rest_here (matched ps) xs (matched_whole ps xs e)

  pub rest_unlike : (ps : List P) (xs : List X) → front ps xs ≡ Unlike → false ≡ eqb (length xs) 0 → some_rest (matched ps) xs ≡ some_rest (matched ps) (drop 1 xs)
  rest_unlike ps xs e some = rest_past (matched ps) xs some (matched_unlike ps xs e)

  pub rest_none : (ps : List P) (xs : List X) → front ps xs ≡ Unlike → true ≡ eqb (length xs) 0 → some_rest (matched ps) xs ≡ false
  rest_none ps xs e none = rest_end (matched ps) xs none (matched_unlike ps xs e)
