-- What boot keeps out of the map, by the numbers of names.
use Rattle.std.proofs.Common.{◌≡◌, ℕ, zero, suc, ◌+◌, ◌-◌, ◌<◌, ◌≤◌, ◌⊎◌, inl, inr, Bool, true, false, not, ◌&&◌, cond, List, [], ◌∷◌, map, length, take, get_or, Option, Some, None, refl, ap, sym, ◌∙◌, arith, add-one, subst, nat_eq}
use Rattle.std.specs.List.{find}
use Rattle.std.specs.Option.{option_map, option_map_or, option_or, is_some, unwrap_or}
use Rattle.std.specs.Str.{bytes_eq}
use Rattle.std.specs.Cmp.Lexicographic.{nat_list_eq_equiv, pointwise}
use Rattle.std.proofs.lemmas.List.{take-map, length-map}
use Rattle.std.proofs.lemmas.List.Elements.{All-head, All-tail, All-cons}
use Rattle.std.proofs.lemmas.Option.{same_Some}
use Rattle.zw_lemmas.proofs.FindLemmas.{find-as}
use Rattle.zw_def.specs.Text.{Text}
use Rattle.zw_def.specs.Names.{AreNamed, IsDistinct, text_of, texts_of}
use Rattle.zw_def.specs.Nesting.{same_names, proper_beginnings}
use Rattle.zw_def.specs.Map.{is_taken, is_defined, kept_out_by}
use Rattle.zw_def.proofs.NameLemmas.{text_as}
use Rattle.zw_map.specs.BootSeen.{AreBootNamed, boot_seen, standing_of, row_at, is_own, is_taken_at, is_defined_at}

-- ---- the first row with a path

module _ {X : Type 0} (test : X → Bool) where
  next_none : (ys : List X) (k : ℕ) (y : X) → find test (take k ys) ≡ None → k < length ys → y ≡ get_or ys k y → test y ≡ false → find test (take (suc k) ys) ≡ None
  next_none [] k y none lt is other = absurd (omega (arith, lt))
  next_none (z ∷ ys) zero y none lt is other = ap (λ b. cond b (Some z) None) (ap test (sym is) ∙ other)
  next_none (z ∷ ys) (suc k) y none lt is other = at (test z) none (λ n. next_none ys k y n (omega (arith, lt)) is other) where
    at : (b : Bool) → cond b (Some z) (find test (take k ys)) ≡ None → (find test (take k ys) ≡ None → find test (take (suc k) ys) ≡ None) → cond b (Some z) (find test (take (suc k) ys)) ≡ None
    at true n more = cc
    at false n more = more n

  pub find_more : (xs : List X) (i : ℕ) (x : X) → find test (take i xs) ≡ None → i < length xs → x ≡ get_or xs i x → test x ≡ false → find test (take (i + 1) xs) ≡ None
  find_more xs i x none lt is other = ap (λ k. find test (take k xs)) (add-one i) ∙ next_none xs i x none lt is other

  pub find_hit : (xs : List X) (i : ℕ) (x : X) → find test (take i xs) ≡ None → i < length xs → x ≡ get_or xs i x → test x ≡ true → find test xs ≡ Some x
  find_hit [] i x none lt is hit = absurd (omega (arith, lt))
  find_hit (z ∷ xs) zero x none lt is hit = ap (λ b. cond b (Some z) (find test xs)) (ap test (sym is) ∙ hit) ∙ ap Some (sym is)
  find_hit (z ∷ xs) (suc i) x none lt is hit = at (test z) none (λ n. find_hit xs i x n (omega (arith, lt)) is hit) where
    at : (b : Bool) → cond b (Some z) (find test (take i xs)) ≡ None → (find test (take i xs) ≡ None → find test xs ≡ Some x) → cond b (Some z) (find test xs) ≡ Some x
    at true n more = cc
    at false n more = more n

-- what the first row says, where there is one
pub row_taken : (o : Option (List ℕ × Bool)) (own : Bool) → Some own ≡ option_map (λ (row : List ℕ × Bool). row.1) o → not own ≡ option_map_or (λ (row : List ℕ × Bool). not row.1) o false
row_taken None own is = absurd (cc)
row_taken (Some row) own is = ap not (same_Some own row.1 is)

pub row_not_taken : (o : Option (List ℕ × Bool)) → None ≡ option_map (λ (row : List ℕ × Bool). row.1) o → false ≡ option_map_or (λ (row : List ℕ × Bool). not row.1) o false
row_not_taken None is = refl
row_not_taken (Some row) is = absurd (cc)

pub row_defined : (o : Option (List ℕ × Bool)) → is_some (option_map (λ (row : List ℕ × Bool). row.1) o) ≡ is_some o
row_defined None = refl
row_defined (Some row) = refl

-- ---- the beginnings of a path

step_up : (a b : ℕ) → (b ≡ a) ⊎ (suc a ≤ b) → (suc b ≡ suc a) ⊎ (suc (suc a) ≤ suc b)
step_up a b (inl e) = inl (ap suc e)
step_up a b (inr l) = inr (omega (arith, l))

equal_or_less : (a b : ℕ) → a ≤ b → (b ≡ a) ⊎ (suc a ≤ b)
equal_or_less zero zero h = inl refl
equal_or_less zero (suc b) h = inr (omega arith)
equal_or_less (suc a) zero h = absurd (omega (arith, h))
equal_or_less (suc a) (suc b) h = step_up a b (equal_or_less a b (omega (arith, h)))

module _ {X : Type 0} where
  abbrev run : List X → ℕ → ℕ → List (List X)
  run f k zero = []
  run f k (suc n) = take k f ∷ run f (suc k) n

  run-map : (c : X) (f : List X) (k n : ℕ) → map (λ p. c ∷ p) (run f k n) ≡ run (c ∷ f) (suc k) n
  run-map c f k zero = refl
  run-map c f k (suc n) = ap (λ ps. (c ∷ take k f) ∷ ps) (run-map c f (suc k) n)

  beginnings-run : (f : List X) → proper_beginnings f ≡ run f 1 (length f - 1)
  beginnings-run [] = refl
  beginnings-run (c ∷ []) = refl
  beginnings-run (c ∷ d ∷ f) =
      ap (λ ps. (c ∷ []) ∷ ps) (ap (map (λ p. c ∷ p)) (beginnings-run (d ∷ f)) ∙ run-map c (d ∷ f) 1 (length (d ∷ f) - 1))
      ∙ ap (run (c ∷ d ∷ f) 1) more where
        more : suc (length (d ∷ f) - 1) ≡ length (c ∷ d ∷ f) - 1
        more = omega arith

  find_none : (test : List X → Bool) (f : List X) (k n : ℕ) → ((j : ℕ) → k ≤ j → j < k + n → test (take j f) ≡ false) → find test (run f k n) ≡ None
  find_none test f k zero all = refl
  find_none test f k (suc n) all =
      ap (λ b. cond b (Some (take k f)) (find test (run f (suc k) n))) (all k (omega arith) (omega arith))
      ∙ find_none test f (suc k) n (λ j low high. all j (omega (arith, low)) (omega (arith, high)))

  find_some : (test : List X → Bool) (f : List X) (k n j : ℕ) → k ≤ j → j < k + n → ((i : ℕ) → k ≤ i → i < j → test (take i f) ≡ false) → test (take j f) ≡ true → find test (run f k n) ≡ Some (take j f)
  find_some test f k zero j low high all hit = absurd (omega (arith, low, high))
  find_some test f k (suc n) j low high all hit = by (equal_or_less k j low) (λ l. find_some test f (suc k) n j l (omega (arith, high)) (λ i a b. all i (omega (arith, a)) b) hit) where
    by : (j ≡ k) ⊎ (suc k ≤ j) → (suc k ≤ j → find test (run f (suc k) n) ≡ Some (take j f)) → cond (test (take k f)) (Some (take k f)) (find test (run f (suc k) n)) ≡ Some (take j f)
    by (inl e) more = ap (λ b. cond b (Some (take k f)) (find test (run f (suc k) n))) (ap (λ i. test (take i f)) (sym e) ∙ hit) ∙ ap (λ i. Some (take i f)) (sym e)
    by (inr l) more = ap (λ b. cond b (Some (take k f)) (find test (run f (suc k) n))) (all k (omega arith) (omega (arith, l))) ∙ more l

-- what holds before a place and at it
pub next_place : (P : ℕ → Type 0) (d : ℕ) → ((k : ℕ) → 1 ≤ k → k < d → P k) → P d → (k : ℕ) → 1 ≤ k → k < d + 1 → P k
next_place P d all here k low high = by (equal_or_less k d (omega (arith, high))) where
  by : (d ≡ k) ⊎ (suc k ≤ d) → P k
  by (inl e) = subst P e here
  by (inr l) = all k low (omega (arith, l))

-- ---- by texts

module _ (names : List Text) (distinct : IsDistinct names) where
  names_by_bytes : (p q : List ℕ) → AreNamed names p → AreNamed names q → same_names (texts_of names p) (texts_of names q) ≡ bytes_eq q p
  names_by_bytes [] [] np nq = refl
  names_by_bytes [] (m ∷ q) np nq = refl
  names_by_bytes (n ∷ p) [] np nq = refl
  names_by_bytes (n ∷ p) (m ∷ q) np nq =
      λ i. text_as names m n distinct (All-head (λ k. k < length names) m q nq) (All-head (λ k. k < length names) n p np) i
      && names_by_bytes p q (All-tail (λ k. k < length names) n p np) (All-tail (λ k. k < length names) m q nq) i

  module _ (boot : List (List ℕ × Bool)) (named : AreBootNamed names boot) where
    row_told : (q : List ℕ) → AreNamed names q → find (λ row. same_names (texts_of names row.0) (texts_of names q)) boot ≡ row_at boot q
    row_told q is =
        find-as (λ (row : List ℕ × Bool). same_names (texts_of names row.0) (texts_of names q)) (λ (row : List ℕ × Bool). bytes_eq row.0 q) boot
        (λ k d lt. names_by_bytes (get_or boot k d).0 q (named k d lt) is ∙ nat_list_eq_equiv.symm q (get_or boot k d).0)

    taken_told : (q : List ℕ) → AreNamed names q → is_taken (boot_seen names boot (texts_of names q)) ≡ is_taken_at boot q
    taken_told q is = ap (λ o. is_taken (standing_of o)) (row_told q is) ∙ by (row_at boot q) where
      flag : (b : Bool) (r : List ℕ) → is_taken (standing_of (Some (r, b))) ≡ not b
      flag true r = refl
      flag false r = refl

      by : (o : Option (List ℕ × Bool)) → is_taken (standing_of o) ≡ option_map_or (λ (row : List ℕ × Bool). not row.1) o false
      by None = refl
      by (Some row) = flag row.1 row.0

    defined_told : (q : List ℕ) → AreNamed names q → is_defined (boot_seen names boot (texts_of names q)) ≡ is_defined_at boot q
    defined_told q is = ap (λ o. is_defined (standing_of o)) (row_told q is) ∙ by (row_at boot q) where
      flag : (b : Bool) (r : List ℕ) → is_defined (standing_of (Some (r, b))) ≡ true
      flag true r = refl
      flag false r = refl

      by : (o : Option (List ℕ × Bool)) → is_defined (standing_of o) ≡ is_some o
      by None = refl
      by (Some row) = flag row.1 row.0

    pub own_told : (q : List ℕ) → AreNamed names q → is_own (boot_seen names boot (texts_of names q)) ≡ unwrap_or (option_map (λ (row : List ℕ × Bool). row.1) (row_at boot q)) false
    own_told q is = ap (λ o. is_own (standing_of o)) (row_told q is) ∙ by (row_at boot q) where
      flag : (b : Bool) (r : List ℕ) → is_own (standing_of (Some (r, b))) ≡ b
      flag true r = refl
      flag false r = refl

      by : (o : Option (List ℕ × Bool)) → is_own (standing_of o) ≡ unwrap_or (option_map (λ (row : List ℕ × Bool). row.1) o) false
      by None = refl
      by (Some row) = flag row.1 row.0

    named_take : (q : List ℕ) (k : ℕ) → AreNamed names q → AreNamed names (take k q)
    named_take [] zero is = is
    named_take [] (suc k) is = is
    named_take (n ∷ q) zero is = λ i d lt. absurd (omega (arith, lt))
    named_take (n ∷ q) (suc k) is = All-cons (λ m. m < length names) n (take k q) (All-head (λ m. m < length names) n q is) (named_take q k (All-tail (λ m. m < length names) n q is))

    module _ (q : List ℕ) (is : AreNamed names q) where
      abbrev test : List Text → Bool
      test p = is_taken (boot_seen names boot p)

      test_at : (k : ℕ) → test (take k (texts_of names q)) ≡ is_taken_at boot (take k q)
      test_at k = ap test (take-map (λ n. text_of names n) k q) ∙ taken_told (take k q) (named_take q k is)

      first_taken : Option (List Text)
      first_taken = find test (proper_beginnings (texts_of names q))

      none_taken : ((k : ℕ) → 1 ≤ k → k < length q → is_taken_at boot (take k q) ≡ false) → first_taken ≡ None
      unfolding first_taken
      none_taken all =
          ap (find test) (beginnings-run (texts_of names q))
          ∙ find_none test (texts_of names q) 1 (length (texts_of names q) - 1) (λ j low high. test_at j ∙ all j low (omega (arith, low, high, length-map q (λ n. text_of names n))))

      pub kept_taken : (depth : ℕ) → 1 ≤ depth → depth < length q → ((k : ℕ) → 1 ≤ k → k < depth → is_taken_at boot (take k q) ≡ false) → is_taken_at boot (take depth q) ≡ true → Some (texts_of names (take depth q)) ≡ kept_out_by (boot_seen names boot) (texts_of names q)
      kept_taken depth low high all hit =
          let found = ap (find test) (beginnings-run (texts_of names q)) ∙ find_some test (texts_of names q) 1 (length (texts_of names q) - 1) depth low (omega (arith, low, high, length-map q (λ n. text_of names n))) (λ i a b. test_at i ∙ all i a b) (test_at depth ∙ hit) in
          ap Some (sym (take-map (λ n. text_of names n) depth q))
          ∙ sym (ap (λ o. option_or o (cond (is_defined (boot_seen names boot (texts_of names q))) (Some (texts_of names q)) None)) found)

      pub kept_defined : ((k : ℕ) → 1 ≤ k → k < length q → is_taken_at boot (take k q) ≡ false) → is_defined_at boot q ≡ true → Some (texts_of names q) ≡ kept_out_by (boot_seen names boot) (texts_of names q)
      unfolding first_taken
      kept_defined all hit =
          sym (ap (λ o. option_or o (cond (is_defined (boot_seen names boot (texts_of names q))) (Some (texts_of names q)) None)) (none_taken all)
          ∙ ap (λ b. cond b (Some (texts_of names q)) None) (defined_told q is ∙ hit))

      pub not_kept : ((k : ℕ) → 1 ≤ k → k < length q → is_taken_at boot (take k q) ≡ false) → is_defined_at boot q ≡ false → None ≡ kept_out_by (boot_seen names boot) (texts_of names q)
      unfolding first_taken
      not_kept all other =
          sym (ap (λ o. option_or o (cond (is_defined (boot_seen names boot (texts_of names q))) (Some (texts_of names q)) None)) (none_taken all)
          ∙ ap (λ b. cond b (Some (texts_of names q)) None) (defined_told q is ∙ other))

-- ---- numbers of names

pub pointwise_told : {A : Type 0} (f : A → ℕ) (eq : A → A → Bool) → ((x y : A) → eq x y ≡ nat_eq (f x) (f y)) → (xs ys : List A) → pointwise eq xs ys ≡ bytes_eq (map f xs) (map f ys)
pointwise_told f eq same [] [] = refl
pointwise_told f eq same [] (y ∷ ys) = refl
pointwise_told f eq same (x ∷ xs) [] = refl
pointwise_told f eq same (x ∷ xs) (y ∷ ys) = λ i. same x y i && pointwise_told f eq same xs ys i
