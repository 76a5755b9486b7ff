-- Lists in which each stands once, behind those that are listed, and without those above.
use Rattle.std.proofs.Common.{◌≡◌, ◌||◌, Bool, true, false, ℕ, ◌⊎◌, inl, inr, List, [], ◌∷◌, ◌++◌, cond, refl, ap, sym, ◌∙◌}
use Rattle.zw_consts.specs.Ancestor.{is_among, listed_with}
use Rattle.zw_consts.proofs.ListLemmas.{or_left, or_right, or_cases, among_first, among_later, among_cons, among_left, among_right, among_append, among_one}

-- it is listed, or above
abbrev pub has : List ℕ → List ℕ → ℕ → Bool
has above listed n = is_among listed n || is_among above n

-- the list after one step
abbrev pub one_more : List ℕ → List ℕ → ℕ → List ℕ
one_more above listed n = cond (has above listed n) listed (listed ++ n ∷ [])

pub one_more-kept : (above listed : List ℕ) (n x : ℕ) → is_among listed x ≡ true → is_among (one_more above listed n) x ≡ true
one_more-kept above listed n x e = by (has above listed n)
  where
    by : (b : Bool) → is_among (cond b listed (listed ++ n ∷ [])) x ≡ true
    by true = e
    by false = among_left listed (n ∷ []) x e

pub has-more : (above listed more : List ℕ) (x : ℕ) → (is_among listed x ≡ true → is_among more x ≡ true) → has above listed x ≡ true → has above more x ≡ true
has-more above listed more x kept e = by (or_cases (is_among listed x) (is_among above x) e)
  where
    by : (is_among listed x ≡ true) ⊎ (is_among above x ≡ true) → has above more x ≡ true
    by (inl z) = or_left (is_among more x) (is_among above x) (kept z)
    by (inr z) = or_right (is_among more x) (is_among above x) z

one_more-has : (above listed : List ℕ) (n : ℕ) → has above (one_more above listed n) n ≡ true
one_more-has above listed n = by (has above listed n) refl
  where
    by : (b : Bool) → has above listed n ≡ b → has above (cond b listed (listed ++ n ∷ [])) n ≡ true
    by true e = e
    by false e = or_left (is_among (listed ++ n ∷ []) n) (is_among above n) (among_right listed (n ∷ []) n (among_first n []))

pub listed_with-append : (above listed xs ys : List ℕ) → listed_with above listed (xs ++ ys) ≡ listed_with above (listed_with above listed xs) ys
listed_with-append above listed [] ys = refl
listed_with-append above listed (x ∷ xs) ys = listed_with-append above (one_more above listed x) xs ys

-- what is listed stays
pub listed_with-kept : (above listed xs : List ℕ) (x : ℕ) → is_among listed x ≡ true → is_among (listed_with above listed xs) x ≡ true
listed_with-kept above listed [] x e = e
listed_with-kept above listed (y ∷ xs) x e = listed_with-kept above (one_more above listed y) xs x (one_more-kept above listed y x e)

-- all that comes is listed then, or above
pub listed_with-has : (above listed xs : List ℕ) (x : ℕ) → is_among xs x ≡ true → has above (listed_with above listed xs) x ≡ true
listed_with-has above listed [] x e = absurd (cc)
listed_with-has above listed (y ∷ xs) x e = by (among_cons y x xs e) (listed_with-has above (one_more above listed y) xs x)
  where
    by : (x ≡ y) ⊎ (is_among xs x ≡ true) → (is_among xs x ≡ true → has above (listed_with above (one_more above listed y) xs) x ≡ true) → has above (listed_with above listed (y ∷ xs)) x ≡ true
    by (inl z) later = has-more above (one_more above listed y) (listed_with above (one_more above listed y) xs) x (listed_with-kept above (one_more above listed y) xs x)
        (ap (λ k. has above (one_more above listed y) k) z ∙ one_more-has above listed y)
    by (inr z) later = later z

-- nothing else is listed
pub listed_with-from : (above listed xs : List ℕ) (x : ℕ) → is_among (listed_with above listed xs) x ≡ true → (is_among listed x ≡ true) ⊎ (is_among xs x ≡ true)
listed_with-from above listed [] x e = inl e
listed_with-from above listed (y ∷ xs) x e = by (listed_with-from above (one_more above listed y) xs x e)
  where
    one : (b : Bool) → is_among (cond b listed (listed ++ y ∷ [])) x ≡ true → (is_among listed x ≡ true) ⊎ (is_among (y ∷ xs) x ≡ true)
    one true z = inl z
    one false z = at (among_append listed (y ∷ []) x z)
      where
        at : (is_among listed x ≡ true) ⊎ (is_among (y ∷ []) x ≡ true) → (is_among listed x ≡ true) ⊎ (is_among (y ∷ xs) x ≡ true)
        at (inl there) = inl there
        at (inr there) = inr (ap (λ k. is_among (y ∷ xs) k) (among_one y x there) ∙ among_first y xs)

    by : (is_among (one_more above listed y) x ≡ true) ⊎ (is_among xs x ≡ true) → (is_among listed x ≡ true) ⊎ (is_among (y ∷ xs) x ≡ true)
    by (inl z) = one (has above listed y) z
    by (inr z) = inr (among_later y x xs z)

-- what is listed already, or above, changes nothing
pub listed_with-skip : (above listed xs : List ℕ) → ((x : ℕ) → is_among xs x ≡ true → has above listed x ≡ true) → listed_with above listed xs ≡ listed
listed_with-skip above listed [] all = refl
listed_with-skip above listed (x ∷ xs) all =
    ap (λ b. listed_with above (cond b listed (listed ++ x ∷ [])) xs) (all x (among_first x xs))
    ∙ listed_with-skip above listed xs (λ y e. all y (among_later x y xs e))

-- a list in which each stands once may be listed before or after
pub listed_with-inner : (above listed own xs : List ℕ) → listed_with above listed (listed_with [] own xs) ≡ listed_with above (listed_with above listed own) xs
listed_with-inner above listed own [] = refl
listed_with-inner above listed own (x ∷ xs) =
    listed_with-inner above listed (one_more [] own x) xs ∙ ap (λ l. listed_with above l xs) (by (has [] own x) refl)
  where
    by : (b : Bool) → has [] own x ≡ b → listed_with above listed (cond b own (own ++ x ∷ [])) ≡ one_more above (listed_with above listed own) x
    by true e = sym (ap (λ b. cond b (listed_with above listed own) (listed_with above listed own ++ x ∷ [])) (listed_with-has above listed own x (only (is_among own x) e)))
      where
        only : (b : Bool) → (b || false) ≡ true → b ≡ true
        only true z = refl
        only false z = z
    by false e = listed_with-append above listed own (x ∷ [])

-- what is above in another order
pub listed_with-above : (above other listed xs : List ℕ) → ((x : ℕ) → is_among above x ≡ is_among other x) → listed_with above listed xs ≡ listed_with other listed xs
listed_with-above above other listed [] same = refl
listed_with-above above other listed (x ∷ xs) same =
    ap (λ b. listed_with above (cond (is_among listed x || b) listed (listed ++ x ∷ [])) xs) (same x)
    ∙ listed_with-above above other (one_more other listed x) xs same
