-- Lists: what stands among them, and functions that agree on what stands there.
use Rattle.std.proofs.Common.{◌≡◌, ◌||◌, Bool, true, false, ℕ, zero, suc, ◌<◌, ◌⊎◌, inl, inr, List, [], ◌∷◌, ◌++◌, length, reverse, slice_get, Some, nat_eq, refl, ap, sym, ◌∙◌, subst, arith}
use Rattle.std.specs.List.{All, flat_map}
use Rattle.std.proofs.lemmas.Bool.{eqb-true, eq-eqb}
use Rattle.std.proofs.lemmas.List.{length-append, reverse-append, get_or_append_left}
use Rattle.std.proofs.lemmas.List.Elements.{All-append, All-cons, All-nil}
use Rattle.std.proofs.lemmas.List.Folds.{list_any-append}
use Rattle.std.proofs.lemmas.Option.{slice_get_within, get_or_from_slice_get}
use Rattle.zw_lemmas.proofs.PlaceLemmas.{slice_get-pushed, slice_get-last}
use Rattle.zw_heap.specs.Sound.{Differ}
use Rattle.zw_consts.specs.Ancestor.{is_among}

-- ---- truth

pub or_right : (a b : Bool) → b ≡ true → (a || b) ≡ true
or_right true b e = refl
or_right false b e = e

pub or_left : (a b : Bool) → a ≡ true → (a || b) ≡ true
or_left true b e = refl
or_left false b e = absurd (cc)

pub or_cases : (a b : Bool) → (a || b) ≡ true → (a ≡ true) ⊎ (b ≡ true)
or_cases true b e = inl refl
or_cases false b e = inr e

pub bool_cases : (b : Bool) → (b ≡ true) ⊎ (b ≡ false)
bool_cases true = inl refl
bool_cases false = inr refl

-- ---- what stands among numbers

pub among_first : (n : ℕ) (ns : List ℕ) → is_among (n ∷ ns) n ≡ true
among_first n ns = or_left (nat_eq n n) (is_among ns n) (eq-eqb n n refl)

pub among_later : (m n : ℕ) (ns : List ℕ) → is_among ns n ≡ true → is_among (m ∷ ns) n ≡ true
among_later m n ns e = or_right (nat_eq n m) (is_among ns n) e

pub among_cons : (m n : ℕ) (ns : List ℕ) → is_among (m ∷ ns) n ≡ true → (n ≡ m) ⊎ (is_among ns n ≡ true)
among_cons m n ns e = by (or_cases (nat_eq n m) (is_among ns n) e)
  where
    by : (nat_eq n m ≡ true) ⊎ (is_among ns n ≡ true) → (n ≡ m) ⊎ (is_among ns n ≡ true)
    by (inl z) = inl (eqb-true n m z)
    by (inr z) = inr z

pub among_one : (m n : ℕ) → is_among (m ∷ []) n ≡ true → n ≡ m
among_one m n e = by (among_cons m n [] e)
  where
    by : (n ≡ m) ⊎ (false ≡ true) → n ≡ m
    by (inl z) = z
    by (inr z) = absurd (cc)

pub among_append : (ms ns : List ℕ) (n : ℕ) → is_among (ms ++ ns) n ≡ true → (is_among ms n ≡ true) ⊎ (is_among ns n ≡ true)
among_append ms ns n e = or_cases (is_among ms n) (is_among ns n) (sym (list_any-append (nat_eq n) ms ns) ∙ e)

pub among_left : (ms ns : List ℕ) (n : ℕ) → is_among ms n ≡ true → is_among (ms ++ ns) n ≡ true
among_left ms ns n e = list_any-append (nat_eq n) ms ns ∙ or_left (is_among ms n) (is_among ns n) e

pub among_right : (ms ns : List ℕ) (n : ℕ) → is_among ns n ≡ true → is_among (ms ++ ns) n ≡ true
among_right ms ns n e = list_any-append (nat_eq n) ms ns ∙ or_right (is_among ms n) (is_among ns n) e

pub among_reverse : (ns : List ℕ) (n : ℕ) → is_among (reverse ns) n ≡ is_among ns n
among_reverse [] n = refl
among_reverse (m ∷ ns) n =
    ap (λ xs. is_among xs n) (reverse-append (m ∷ []) ns) ∙ list_any-append (nat_eq n) (reverse ns) (m ∷ [])
    ∙ ap (λ b. b || (nat_eq n m || false)) (among_reverse ns n) ∙ swap (is_among ns n) (nat_eq n m)
  where
    swap : (a b : Bool) → (a || (b || false)) ≡ (b || a)
    swap true true = refl
    swap true false = refl
    swap false true = refl
    swap false false = refl

-- ---- lists one after another

module _ (f : ℕ → List ℕ) where
  pub flat_map-append : (ms ns : List ℕ) → flat_map f (ms ++ ns) ≡ flat_map f ms ++ flat_map f ns
  flat_map-append [] ns = refl
  flat_map-append (m ∷ ms) ns = ap (λ xs. f m ++ xs) (flat_map-append ms ns) ∙ assoc (f m) (flat_map f ms) (flat_map f ns)
    where
      assoc : (xs ys zs : List ℕ) → xs ++ (ys ++ zs) ≡ (xs ++ ys) ++ zs
      assoc [] ys zs = refl
      assoc (x ∷ xs) ys zs = ap (λ l. x ∷ l) (assoc xs ys zs)

  -- what stands among the list of one of them
  pub among_flat : (ns : List ℕ) (n m : ℕ) → is_among ns n ≡ true → is_among (f n) m ≡ true → is_among (flat_map f ns) m ≡ true
  among_flat [] n m e there = absurd (cc)
  among_flat (k ∷ ns) n m e there = by (among_cons k n ns e) (λ z. among_flat ns n m z there)
    where
      by : (n ≡ k) ⊎ (is_among ns n ≡ true) → (is_among ns n ≡ true → is_among (flat_map f ns) m ≡ true) → is_among (flat_map f (k ∷ ns)) m ≡ true
      by (inl z) later = among_left (f k) (flat_map f ns) m (ap (λ j. is_among (f j) m) (sym z) ∙ there)
      by (inr z) later = among_right (f k) (flat_map f ns) m (later z)

  pub flat_among : (ns : List ℕ) (m : ℕ) → is_among (flat_map f ns) m ≡ true → (n : ℕ) × (is_among ns n ≡ true) × (is_among (f n) m ≡ true)
  flat_among [] m e = absurd (cc)
  flat_among (k ∷ ns) m e = by (among_append (f k) (flat_map f ns) m e) (flat_among ns m)
    where
      by : (is_among (f k) m ≡ true) ⊎ (is_among (flat_map f ns) m ≡ true) → (is_among (flat_map f ns) m ≡ true → (n : ℕ) × (is_among ns n ≡ true) × (is_among (f n) m ≡ true))
          → (n : ℕ) × (is_among (k ∷ ns) n ≡ true) × (is_among (f n) m ≡ true)
      by (inl z) later = (k, among_first k ns, z)
      by (inr z) later = let found = later z in (found.0, among_later k found.0 ns found.1, found.2)

pub flat_map-same : (f g : ℕ → List ℕ) (ns : List ℕ) → ((n : ℕ) → is_among ns n ≡ true → f n ≡ g n) → flat_map f ns ≡ flat_map g ns
flat_map-same f g [] same = refl
flat_map-same f g (n ∷ ns) same = λ i. same n (among_first n ns) i ++ flat_map-same f g ns (λ m e. same m (among_later n m ns e)) i

-- ---- places

module _ {X : Type 0} where
  pub record_at : (xs : List X) (n : ℕ) → n < length xs → (x : X) × (slice_get xs n ≡ Some x)
  record_at [] n lt = absurd (omega (arith, lt))
  record_at (x ∷ xs) zero lt = (x, refl)
  record_at (x ∷ xs) (suc n) lt = record_at xs n (omega (arith, lt))

  pub All-at : (P : X → Type 0) (xs : List X) (n : ℕ) (x : X) → All P xs → slice_get xs n ≡ Some x → P x
  All-at P xs n x all e = subst P (get_or_from_slice_get xs n x x e) (all n x (slice_get_within xs n x e))

  pub All-pushed : (P : X → Type 0) (xs : List X) (x : X) → All P xs → P x → All P (xs ++ x ∷ [])
  All-pushed P xs x all one = All-append P xs (x ∷ []) all (All-cons P x [] one (All-nil P))

  pub Differ-pushed : (xs : List X) (y : X) → Differ xs → ((i : ℕ) → slice_get xs i ≡ Some y → ⊥) → Differ (xs ++ y ∷ [])
  Differ-pushed xs y d a i j x ei ej = at (slice_get-pushed xs y i x ei) (slice_get-pushed xs y j x ej)
    where
      at : (slice_get xs i ≡ Some x) ⊎ ((i ≡ length xs) × (x ≡ y)) → (slice_get xs j ≡ Some x) ⊎ ((j ≡ length xs) × (x ≡ y)) → i ≡ j
      at (inl p) (inl q) = d i j x p q
      at (inl p) (inr q) = absurd (a i (p ∙ ap Some q.1))
      at (inr p) (inl q) = absurd (a j (q ∙ ap Some p.1))
      at (inr p) (inr q) = p.0 ∙ sym q.0

  pub All-last : (P : X → Type 0) (xs : List X) (x : X) → All P (xs ++ x ∷ []) → P x
  All-last P xs x all = All-at P (xs ++ x ∷ []) (length xs) x all (slice_get-last xs x)

  pub All-front : (P : X → Type 0) (xs : List X) (x : X) → All P (xs ++ x ∷ []) → All P xs
  All-front P xs x all k d lt =
      let len = length-append xs (x ∷ []) in
      subst P (get_or_append_left xs (x ∷ []) d k lt) (all k d (omega (arith, lt, len)))
