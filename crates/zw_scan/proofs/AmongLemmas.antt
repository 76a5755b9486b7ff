-- Elements of lists, and lists in a strict order, which their elements determine.
use Rattle.std.proofs.Common.{◌≡◌, ◌⊎◌, inl, inr, Bool, true, false, ◌||◌, cond, List, [], ◌∷◌, ◌++◌, refl, ap, sym, ◌∙◌, subst}
use Rattle.std.specs.List.{AllByRecursion, list_any, filter}
use Rattle.zw_scan.specs.Among.{Among, Rising}

or_cases : (a b : Bool) → (a || b) ≡ true → (a ≡ true) ⊎ (b ≡ true)
or_cases true b h = inl refl
or_cases false b h = inr h

or_later : (a b : Bool) → b ≡ true → (a || b) ≡ true
or_later true b h = refl
or_later false b h = h

module _ {X : Type 0} where
  pub among_left : (x : X) (xs ys : List X) → Among x xs → Among x (xs ++ ys)
  among_left x [] ys h = absurd h
  among_left x (y ∷ xs) ys (inl e) = inl e
  among_left x (y ∷ xs) ys (inr h) = inr (among_left x xs ys h)

  pub among_right : (x : X) (xs ys : List X) → Among x ys → Among x (xs ++ ys)
  among_right x [] ys h = h
  among_right x (y ∷ xs) ys h = inr (among_right x xs ys h)

  pub among_parts : (x : X) (xs ys : List X) → Among x (xs ++ ys) → Among x xs ⊎ Among x ys
  among_parts x [] ys h = inr h
  among_parts x (y ∷ xs) ys (inl e) = inl (inl e)
  among_parts x (y ∷ xs) ys (inr h) = by (among_parts x xs ys h) where
    by : Among x xs ⊎ Among x ys → Among x (y ∷ xs) ⊎ Among x ys
    by (inl k) = inl (inr k)
    by (inr k) = inr k

  pub all_at : (P : X → Type 0) (x : X) (xs : List X) → AllByRecursion P xs → Among x xs → P x
  all_at P x [] all h = absurd h
  all_at P x (y ∷ xs) all (inl e) = subst P (sym e) all.0
  all_at P x (y ∷ xs) all (inr h) = all_at P x xs all.1 h

  pub all_append : (P : X → Type 0) (xs ys : List X) → AllByRecursion P xs → AllByRecursion P ys → AllByRecursion P (xs ++ ys)
  all_append P [] ys all more = more
  all_append P (x ∷ xs) ys all more = (all.0, all_append P xs ys all.1 more)

  pub all_weaker : (P Q : X → Type 0) → ((x : X) → P x → Q x) → (xs : List X) → AllByRecursion P xs → AllByRecursion Q xs
  all_weaker P Q f [] all = tt
  all_weaker P Q f (x ∷ xs) all = (f x all.0, all_weaker P Q f xs all.1)

  -- ---- tests

  pub any_among : (test : X → Bool) (xs : List X) → list_any test xs ≡ true → (x : X) × Among x xs × (test x ≡ true)
  any_among test [] h = cc
  any_among test (x ∷ xs) h = by (or_cases (test x) (list_any test xs) h) (any_among test xs) where
    by : (test x ≡ true) ⊎ (list_any test xs ≡ true) → (list_any test xs ≡ true → (y : X) × Among y xs × (test y ≡ true)) → (y : X) × Among y (x ∷ xs) × (test y ≡ true)
    by (inl e) more = (x, inl refl, e)
    by (inr e) more = (let m = more e in (m.0, inr m.1, m.2))

  pub among_any : (test : X → Bool) (x : X) (xs : List X) → Among x xs → test x ≡ true → list_any test xs ≡ true
  among_any test x [] h e = absurd h
  among_any test x (y ∷ xs) (inl same) e = ap (λ b. b || list_any test xs) (ap test (sym same) ∙ e)
  among_any test x (y ∷ xs) (inr h) e = or_later (test y) (list_any test xs) (among_any test x xs h e)

  pub among_filter : (test : X → Bool) (x : X) (xs : List X) → Among x (filter test xs) → Among x xs × (test x ≡ true)
  among_filter test x [] h = absurd h
  among_filter test x (y ∷ xs) h = by (test y) refl h (among_filter test x xs) where
    by : (b : Bool) → test y ≡ b → Among x (cond b (y ∷ filter test xs) (filter test xs)) → (Among x (filter test xs) → Among x xs × (test x ≡ true)) → Among x (y ∷ xs) × (test x ≡ true)
    by true e (inl same) more = (inl same, ap test same ∙ e)
    by true e (inr k) more = (let m = more k in (inr m.0, m.1))
    by false e k more = (let m = more k in (inr m.0, m.1))

  pub filter_among : (test : X → Bool) (x : X) (xs : List X) → Among x xs → test x ≡ true → Among x (filter test xs)
  filter_among test x [] h e = absurd h
  filter_among test x (y ∷ xs) (inl same) e = subst (λ b. Among x (cond b (y ∷ filter test xs) (filter test xs))) (sym (ap test (sym same) ∙ e)) (inl same)
  filter_among test x (y ∷ xs) (inr h) e = by (test y) (filter_among test x xs h e) where
    by : (b : Bool) → Among x (filter test xs) → Among x (cond b (y ∷ filter test xs) (filter test xs))
    by true k = inr k
    by false k = k

  pub all_filter : (P : X → Type 0) (test : X → Bool) (xs : List X) → AllByRecursion P xs → AllByRecursion P (filter test xs)
  all_filter P test [] all = tt
  all_filter P test (x ∷ xs) all = by (test x) (all_filter P test xs all.1) where
    by : (b : Bool) → AllByRecursion P (filter test xs) → AllByRecursion P (cond b (x ∷ filter test xs) (filter test xs))
    by true more = (all.0, more)
    by false more = more

  -- ---- a strict order

  pub rising_filter : (Lt : X → X → Type 0) (test : X → Bool) (xs : List X) → Rising Lt xs → Rising Lt (filter test xs)
  rising_filter Lt test [] up = tt
  rising_filter Lt test (x ∷ xs) up = by (test x) (rising_filter Lt test xs up.1) where
    by : (b : Bool) → Rising Lt (filter test xs) → Rising Lt (cond b (x ∷ filter test xs) (filter test xs))
    by true more = (all_filter (Lt x) test xs up.0, more)
    by false more = more

  module _ (Lt : X → X → Type 0) (irreflexive : (x : X) → Lt x x → ⊥) (transitive : (x y z : X) → Lt x y → Lt y z → Lt x z) where
    never_both : (x y : X) → Lt x y → Lt y x → ⊥
    never_both x y h k = irreflexive x (transitive x y x h k)

    heads : (x y : X) (xs ys : List X) → AllByRecursion (Lt x) xs → AllByRecursion (Lt y) ys → Among x (y ∷ ys) → Among y (x ∷ xs) → x ≡ y
    heads x y xs ys up up' (inl e) k = e
    heads x y xs ys up up' (inr h) (inl e) = sym e
    heads x y xs ys up up' (inr h) (inr k) = absurd (never_both y x (all_at (Lt y) x ys up' h) (all_at (Lt x) y xs up k))

    tails : (x y : X) (xs ys : List X) → x ≡ y → AllByRecursion (Lt x) xs → ((z : X) → Among z (x ∷ xs) → Among z (y ∷ ys)) → (z : X) → Among z xs → Among z ys
    tails x y xs ys e up part z h = by (part z (inr h)) where
      by : Among z (y ∷ ys) → Among z ys
      by (inl same) = absurd (irreflexive x (subst (Lt x) (same ∙ sym e) (all_at (Lt x) z xs up h)))
      by (inr k) = k

    -- two such lists with the same elements are the same
    pub same_rising : (xs ys : List X) → Rising Lt xs → Rising Lt ys → ((z : X) → Among z xs → Among z ys) → ((z : X) → Among z ys → Among z xs) → xs ≡ ys
    same_rising [] [] up up' part part' = refl
    same_rising [] (y ∷ ys) up up' part part' = absurd (part' y (inl refl))
    same_rising (x ∷ xs) [] up up' part part' = absurd (part x (inl refl))
    same_rising (x ∷ xs) (y ∷ ys) up up' part part' =
        let e = heads x y xs ys up.0 up'.0 (part x (inl refl)) (part' y (inl refl)) in
        λ i. e i ∷ same_rising xs ys up.1 up'.1 (tails x y xs ys e up.0 part) (tails y x ys xs (sym e) up'.0 part') i
