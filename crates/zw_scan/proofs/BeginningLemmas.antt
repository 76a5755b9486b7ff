-- The beginnings of paths, and path order.
use Rattle.std.proofs.Common.{◌≡◌, ◌⊎◌, inl, inr, ℕ, zero, suc, ◌+◌, ◌-◌, ◌<◌, ◌≤◌, Bool, true, false, ◌&&◌, cond, List, [], ◌∷◌, ◌++◌, length, take, drop, map, refl, ap, sym, ◌∙◌, arith}
use Rattle.std.specs.List.{AllByRecursion}
use Rattle.std.specs.Str.{bytes_eq}
use Rattle.std.specs.Ordering.{nat_cmp, is_eq, ordering_then}
use Rattle.std.specs.Cmp.Lexicographic.{slice_cmp, texts_ties}
use Rattle.std.specs.declared.cmp.Ordering.{Ordering}
use Rattle.std.specs.declared.cmp.Ordering.TheVariants.{Less, Equal, Greater}
use Rattle.std.proofs.lemmas.Bool.{and_parts}
use Rattle.zw_lemmas.proofs.TextLemmas.{same_text, bytes_eq-self}
use Rattle.zw_def.specs.Text.{Text}
use Rattle.zw_def.specs.Path.{Path, is_below, path_cmp}
use Rattle.zw_def.specs.Nesting.{proper_beginnings}
use Rattle.zw_def.proofs.PathOrderLemmas.{path_total}
use Rattle.zw_scan.specs.Among.{Among, Rising}
use Rattle.zw_scan.specs.Directories.{shared, new_above}
use Rattle.zw_scan.proofs.AmongLemmas.{all_append}

abbrev pub Before : Path → Path → Type 0
Before p q = path_cmp p q ≡ Less

pub before_trans : (p q r : Path) → Before p q → Before q r → Before p r
before_trans p q r h k = path_total.trans p q r h k

pub text_same : (c : Text) → slice_cmp nat_cmp c c ≡ Equal
text_same c = by (slice_cmp nat_cmp c c) (sym (texts_ties c c) ∙ bytes_eq-self c) where
  by : (o : Ordering) → is_eq o ≡ true → o ≡ Equal
  by Less h = cc
  by Equal h = refl
  by Greater h = cc

pub before_self : (p : Path) → Before p p → ⊥
before_self [] h = cc
before_self (c ∷ p) h = before_self p (ap (λ o. ordering_then o (path_cmp p p)) (sym (text_same c)) ∙ h)

-- ---- what stands above a path

-- a path stands after the directories above it
pub below_after : (f d : Path) → is_below f d ≡ true → Before d f
below_after [] d h = cc
below_after (p ∷ f) [] h = refl
below_after (p ∷ f) (d ∷ ds) h =
    let parts = and_parts (bytes_eq p d) (is_below f ds) h in
    (λ i. ordering_then (slice_cmp nat_cmp d (same_text p d parts.0 i)) (path_cmp ds f)) ∙ ap (λ o. ordering_then o (path_cmp ds f)) (text_same d) ∙ below_after f ds parts.1

pub below_shorter : (f d : Path) → is_below f d ≡ true → length d < length f
below_shorter [] d h = cc
below_shorter (p ∷ f) [] h = omega arith
below_shorter (p ∷ f) (d ∷ ds) h = omega (arith, below_shorter f ds (and_parts (bytes_eq p d) (is_below f ds) h).1)

pub below_take : (f d : Path) → is_below f d ≡ true → take (length d) f ≡ d
below_take [] d h = cc
below_take (p ∷ f) [] h = refl
below_take (p ∷ f) (d ∷ ds) h =
    let parts = and_parts (bytes_eq p d) (is_below f ds) h in
    λ i. same_text p d parts.0 i ∷ below_take f ds parts.1 i

pub take_below : (f : Path) (k : ℕ) → k < length f → is_below f (take k f) ≡ true
take_below [] k h = absurd (omega (arith, h))
take_below (p ∷ f) zero h = refl
take_below (p ∷ f) (suc k) h = λ i. bytes_eq-self p i && take_below f k (omega (arith, h)) i

pub below_both : (f d e : Path) → is_below f d ≡ true → is_below f e ≡ true → length e < length d → is_below d e ≡ true
below_both [] d e h k lt = cc
below_both (p ∷ f) [] e h k lt = absurd (omega (arith, lt))
below_both (p ∷ f) (d ∷ ds) [] h k lt = refl
below_both (p ∷ f) (d ∷ ds) (e ∷ es) h k lt =
    let first = and_parts (bytes_eq p d) (is_below f ds) h in
    let next = and_parts (bytes_eq p e) (is_below f es) k in
    λ i. (ap (λ c. bytes_eq c e) (sym (same_text p d first.0)) ∙ next.0) i && below_both f ds es first.1 next.1 (omega (arith, lt)) i

pub below_trans : (f d e : Path) → is_below f d ≡ true → is_below d e ≡ true → is_below f e ≡ true
below_trans [] d e h k = cc
below_trans (p ∷ f) [] e h k = cc
below_trans (p ∷ f) (d ∷ ds) [] h k = refl
below_trans (p ∷ f) (d ∷ ds) (e ∷ es) h k =
    let first = and_parts (bytes_eq p d) (is_below f ds) h in
    let next = and_parts (bytes_eq d e) (is_below ds es) k in
    λ i. (ap (λ c. bytes_eq c e) (same_text p d first.0) ∙ next.0) i && below_trans f ds es first.1 next.1 i

pub below_same : (f d e : Path) → is_below f d ≡ true → is_below f e ≡ true → length d ≡ length e → d ≡ e
below_same f d e h k len = sym (below_take f d h) ∙ ap (λ n. take n f) len ∙ below_take f e k

-- ---- what is shared

pub shared_take : (p q : Path) (k : ℕ) → k ≤ shared p q → take k p ≡ take k q
shared_take p q zero h = zero_take p q where
  zero_take : (p q : Path) → take 0 p ≡ take 0 q
  zero_take [] [] = refl
  zero_take [] (d ∷ q) = refl
  zero_take (c ∷ p) [] = refl
  zero_take (c ∷ p) (d ∷ q) = refl
shared_take [] q (suc k) h = absurd (omega (arith, h))
shared_take (c ∷ p) [] (suc k) h = absurd (omega (arith, h))
shared_take (c ∷ p) (d ∷ q) (suc k) h = by (bytes_eq c d) refl h (shared_take p q k) where
  by : (b : Bool) → bytes_eq c d ≡ b → suc k ≤ cond b (suc (shared p q)) 0 → (k ≤ shared p q → take k p ≡ take k q) → c ∷ take k p ≡ d ∷ take k q
  by true e le more = λ i. same_text c d e i ∷ more (omega (arith, le)) i
  by false e le more = absurd (omega (arith, le))

-- what is not shared with a path that stands before comes after that
pub new_after : (p q : Path) (k : ℕ) → Before p q → shared p q < k → k ≤ length q → Before p (take k q)
new_after p q zero h lt le = absurd (omega (arith, lt))
new_after [] [] (suc k) h lt le = absurd (omega (arith, le))
new_after [] (d ∷ q) (suc k) h lt le = refl
new_after (c ∷ p) [] (suc k) h lt le = absurd (omega (arith, le))
new_after (c ∷ p) (d ∷ q) (suc k) h lt le = by (bytes_eq c d) refl (slice_cmp nat_cmp c d) (texts_ties c d) h lt (new_after p q k) where
  by : (b : Bool) → bytes_eq c d ≡ b → (o : Ordering) → bytes_eq c d ≡ is_eq o → ordering_then o (path_cmp p q) ≡ Less → cond b (suc (shared p q)) 0 < suc k → (Before p q → shared p q < k → k ≤ length q → Before p (take k q)) → ordering_then o (path_cmp p (take k q)) ≡ Less
  by b e Less tie h lt more = refl
  by b e Greater tie h lt more = cc
  by true e Equal tie h lt more = more h (omega (arith, lt)) (omega (arith, le))
  by false e Equal tie h lt more = (let bad : false ≡ true = sym e ∙ tie in cc)

-- what is shared with a path that stands before is not the whole path
pub shared_short : (p q : Path) → Before p q → shared p q < length q
shared_short [] [] h = cc
shared_short [] (d ∷ q) h = omega arith
shared_short (c ∷ p) [] h = cc
shared_short (c ∷ p) (d ∷ q) h = by (bytes_eq c d) refl (shared_short p q) where
  by : (b : Bool) → bytes_eq c d ≡ b → (Before p q → shared p q < length q) → cond b (suc (shared p q)) 0 < suc (length q)
  by false e more = omega arith
  by true e more = omega (arith, more ((λ i. ordering_then (sym (ap (slice_cmp nat_cmp c) (sym (same_text c d e)) ∙ text_same c) i) (path_cmp p q)) ∙ h))

-- ---- runs of beginnings

-- the beginnings of these lengths: n of them from k on
abbrev pub run : Path → ℕ → ℕ → List Path
run f k zero = []
run f k (suc n) = take k f ∷ run f (suc k) n

run-map : (c : Text) (f : Path) (k n : ℕ) → map (λ p. c ∷ p) (run f k n) ≡ run (c ∷ f) (suc k) n
run-map c f k zero = refl
run-map c f k (suc n) = ap (λ ps. (c ∷ take k f) ∷ ps) (run-map c f (suc k) n)

run-drop : (f : Path) (m k n : ℕ) → drop m (run f k n) ≡ run f (k + m) (n - m)
run-drop f zero k n = λ i. run f (same i) (left i) where
  same : k ≡ k + 0
  same = omega arith

  left : n ≡ n - 0
  left = omega arith
run-drop f (suc m) k zero = ap (run f (k + suc m)) none where
  none : 0 ≡ 0 - suc m
  none = omega arith
run-drop f (suc m) k (suc n) = run-drop f m (suc k) n ∙ (λ i. run f (place i) (left i)) where
  place : suc k + m ≡ k + suc m
  place = omega arith

  left : n - m ≡ suc n - suc m
  left = omega arith

pub run_split : (f : Path) (k m n : ℕ) → run f k (m + n) ≡ run f k m ++ run f (k + m) n
run_split f k zero n = λ i. run f (place i) (count i) where
  place : k ≡ k + 0
  place = omega arith

  count : 0 + n ≡ n
  count = omega arith
run_split f k (suc m) n = ap (run f k) count ∙ ap (λ ps. take k f ∷ ps) (run_split f (suc k) m n ∙ ap (λ j. run f (suc k) m ++ run f j n) place) where
  count : suc m + n ≡ suc (m + n)
  count = omega arith

  place : suc k + m ≡ k + suc m
  place = omega arith

pub beginnings-run : (f : Path) → proper_beginnings f ≡ run f 1 (length f - 1)
beginnings-run [] = refl
beginnings-run (c ∷ []) = refl
beginnings-run (c ∷ d ∷ f) =
    ap (λ ps. (c ∷ []) ∷ ps) (ap (map (λ p. c ∷ p)) (beginnings-run (d ∷ f)) ∙ run-map c (d ∷ f) 1 (length (d ∷ f) - 1))
    ∙ ap (run (c ∷ d ∷ f) 1) more where
      more : suc (length (d ∷ f) - 1) ≡ length (c ∷ d ∷ f) - 1
      more = omega arith

pub new_above-run : (p f : Path) → new_above p f ≡ run f (1 + shared p f) (length f - 1 - shared p f)
new_above-run p f = ap (drop (shared p f)) (beginnings-run f) ∙ run-drop f (shared p f) 1 (length f - 1)

pub take_less : (f : Path) (k : ℕ) → k < length f → Before (take k f) (take (suc k) f)
take_less [] k h = absurd (omega (arith, h))
take_less (c ∷ f) zero h = refl
take_less (c ∷ f) (suc k) h = ap (λ o. ordering_then o (path_cmp (take k f) (take (suc k) f))) (text_same c) ∙ take_less f k (omega (arith, h))

abbrev pub AllAfter : Path → List Path → Type 0
AllAfter p = AllByRecursion (Before p)

pub after_run : (p f : Path) (k n : ℕ) → (0 < n → Before p (take k f)) → (0 < n → k + n ≤ length f) → AllAfter p (run f k n)
after_run p f k zero first within = tt
after_run p f k (suc n) first within = (
  first (omega arith),
  after_run p f (suc k) n (λ some. before_trans p (take k f) (take (suc k) f) (first (omega arith)) (take_less f k (omega (arith, within (omega arith))))) (λ some. omega (arith, within (omega arith))),
)

-- a run, and paths that stand after the whole
pub rising_run : (f : Path) (k n : ℕ) (more : List Path) → (0 < n → k + n ≤ length f) → ((j : ℕ) → j < length f → AllAfter (take j f) more) → Rising Before more → Rising Before (run f k n ++ more)
rising_run f k zero more within after up = up
rising_run f k (suc n) more within after up =
    let lt : k + suc n ≤ length f = within (omega arith) in (
      all_append (Before (take k f)) (run f (suc k) n) more (after_run (take k f) f (suc k) n (λ some. take_less f k (omega (arith, lt))) (λ some. omega (arith, lt))) (after k (omega (arith, lt))),
      rising_run f (suc k) n more (λ some. omega (arith, lt)) after up,
    )

step_up : (a b : ℕ) → (b ≡ a) ⊎ (suc a ≤ b) → (suc b ≡ suc a) ⊎ (suc (suc a) ≤ suc b)
step_up a b (inl e) = inl (ap suc e)
step_up a b (inr l) = inr (omega (arith, l))

equal_or_more : (a b : ℕ) → a ≤ b → (b ≡ a) ⊎ (suc a ≤ b)
equal_or_more zero zero h = inl refl
equal_or_more zero (suc b) h = inr (omega arith)
equal_or_more (suc a) zero h = absurd (omega (arith, h))
equal_or_more (suc a) (suc b) h = step_up a b (equal_or_more a b (omega (arith, h)))

pub among_run : (f : Path) (k n j : ℕ) → k ≤ j → j < k + n → Among (take j f) (run f k n)
among_run f k zero j low high = absurd (omega (arith, low, high))
among_run f k (suc n) j low high = by (equal_or_more k j low) (λ l. among_run f (suc k) n j l (omega (arith, high))) where
  by : (j ≡ k) ⊎ (suc k ≤ j) → (suc k ≤ j → Among (take j f) (run f (suc k) n)) → Among (take j f) (run f k (suc n))
  by (inl e) more = inl (ap (λ i. take i f) e)
  by (inr l) more = inr (more l)

pub run_among : (f d : Path) (k n : ℕ) → Among d (run f k n) → (j : ℕ) × (k ≤ j) × (j < k + n) × (d ≡ take j f)
run_among f d k zero h = absurd h
run_among f d k (suc n) (inl e) = (k, omega arith, omega arith, e)
run_among f d k (suc n) (inr h) =
    let more = run_among f d (suc k) n h in
    (more.0, omega (arith, more.1), omega (arith, more.2), more.3)

pub run_before : (f : Path) (k n : ℕ) → (0 < n → k + n ≤ length f) → AllByRecursion (λ a. Before a f) (run f k n)
run_before f k zero within = tt
run_before f k (suc n) within =
    let lt : k + suc n ≤ length f = within (omega arith) in
    (below_after f (take k f) (take_below f k (omega (arith, lt))), run_before f (suc k) n (λ some. omega (arith, lt)))
