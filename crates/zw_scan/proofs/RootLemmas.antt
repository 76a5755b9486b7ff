-- The deepest root, and what belongs to it.
use Rattle.std.proofs.Common.{◌≡◌, ◌⊎◌, inl, inr, ℕ, ◌<◌, ◌≤◌, Bool, true, false, ◌&&◌, cond, ltb, List, [], ◌∷◌, length, Option, Some, None, refl, ap, sym, ◌∙◌, subst, arith}
use Rattle.std.specs.List.{fold}
use Rattle.std.specs.Option.{option_map_or}
use Rattle.std.proofs.lemmas.Bool.{false_from_ne_true, ltb-true, ltb-false}
use Rattle.zw_def.specs.Path.{Path, same_path, is_below}
use Rattle.zw_def.specs.Layout.{Layout, Root, root_of, is_root, belongs_to, deeper_root, is_deeper}
use Rattle.zw_def.proofs.PathLemmas.{same_path-Decides}
use Rattle.zw_scan.specs.Among.{Among}
use Rattle.zw_scan.proofs.AmongLemmas.{any_among}
use Rattle.zw_scan.proofs.BeginningLemmas.{below_shorter, below_both, below_trans, below_same}

-- a root that is at least so deep
abbrev AtLeast : ℕ → Option Root → Type 0
AtLeast n None = ⊥
AtLeast n (Some r) = n ≤ length r.path

module _ (p : Path) where
  kept : (n : ℕ) (best : Option Root) (s : Root) → AtLeast n best → AtLeast n (deeper_root p best s)
  kept n None s at = absurd at
  kept n (Some r) s at = by (is_below p s.path) (ltb (length r.path) (length s.path)) refl where
    by : (a b : Bool) → ltb (length r.path) (length s.path) ≡ b → AtLeast n (cond (a && b) (Some s) (Some r))
    by false b e = at
    by true false e = at
    by true true e = omega (arith, at, ltb-true (length r.path) (length s.path) e)

  here : (best : Option Root) (s : Root) → is_below p s.path ≡ true → AtLeast (length s.path) (deeper_root p best s)
  here None s below = by (is_below p s.path) below where
    by : (a : Bool) → a ≡ true → AtLeast (length s.path) (cond (a && true) (Some s) None)
    by true e = omega arith
    by false e = cc
  here (Some r) s below = by (is_below p s.path) below (ltb (length r.path) (length s.path)) refl where
    by : (a : Bool) → a ≡ true → (b : Bool) → ltb (length r.path) (length s.path) ≡ b → AtLeast (length s.path) (cond (a && b) (Some s) (Some r))
    by true h true e = omega arith
    by true h false e = ltb-false (length r.path) (length s.path) e
    by false h b e = cc

  from : (best : Option Root) (s r : Root) → deeper_root p best s ≡ Some r → (best ≡ Some r) ⊎ ((r ≡ s) × (is_below p r.path ≡ true))
  from best s r = by (is_below p s.path) refl (is_deeper s best) where
    by : (a : Bool) → is_below p s.path ≡ a → (b : Bool) → cond (a && b) (Some s) best ≡ Some r → (best ≡ Some r) ⊎ ((r ≡ s) × (is_below p r.path ≡ true))
    by false h b e = inl e
    by true h false e = inl e
    by true h true e = (let same : r ≡ s = cc in inr (same, ap (λ (x : Root). is_below p x.path) same ∙ h))

  kept_all : (n : ℕ) (best : Option Root) (roots : List Root) → AtLeast n best → AtLeast n (fold (deeper_root p) best roots)
  kept_all n best [] at = at
  kept_all n best (s ∷ roots) at = kept_all n (deeper_root p best s) roots (kept n best s at)

  deep_among : (best : Option Root) (roots : List Root) (s : Root) → Among s roots → is_below p s.path ≡ true → AtLeast (length s.path) (fold (deeper_root p) best roots)
  deep_among best [] s h below = absurd h
  deep_among best (r ∷ roots) s (inl e) below =
      kept_all (length s.path) (deeper_root p best r) roots (subst (λ (x : Root). AtLeast (length x.path) (deeper_root p best r)) (sym e) (here best r (ap (λ (x : Root). is_below p x.path) (sym e) ∙ below)))
  deep_among best (r ∷ roots) s (inr h) below = deep_among (deeper_root p best r) roots s h below

  from_all : (best : Option Root) (roots : List Root) (r : Root) → fold (deeper_root p) best roots ≡ Some r → (best ≡ Some r) ⊎ (Among r roots × (is_below p r.path ≡ true))
  from_all best [] r e = inl e
  from_all best (s ∷ roots) r e = by (from_all (deeper_root p best s) roots r e) where
    step : (best ≡ Some r) ⊎ ((r ≡ s) × (is_below p r.path ≡ true)) → (best ≡ Some r) ⊎ (Among r (s ∷ roots) × (is_below p r.path ≡ true))
    step (inl h) = inl h
    step (inr h) = inr (inl h.0, h.1)

    by : (deeper_root p best s ≡ Some r) ⊎ (Among r roots × (is_below p r.path ≡ true)) → (best ≡ Some r) ⊎ (Among r (s ∷ roots) × (is_below p r.path ≡ true))
    by (inl h) = step (from best s r h)
    by (inr h) = inr (inr h.0, h.1)

-- ---- the root of a path

module _ (layout : Layout) where
  pub record RootOf (p : Path) (r : Root) : Type 0 where
    pub is : root_of layout p ≡ Some r
    pub among : Among r layout.roots
    pub below : is_below p r.path ≡ true

  pub root_is : (p : Path) (r : Root) → root_of layout p ≡ Some r → RootOf p r
  root_is p r e = by (from_all p None layout.roots r e) where
    by : (None ≡ Some r) ⊎ (Among r layout.roots × (is_below p r.path ≡ true)) → RootOf p r
    by (inl h) = cc
    by (inr h) = record { is = e; among = h.0; below = h.1 }

  deepest : (p : Path) (r s : Root) → root_of layout p ≡ Some r → Among s layout.roots → is_below p s.path ≡ true → length s.path ≤ length r.path
  deepest p r s e among below = subst (AtLeast (length s.path)) e (deep_among p None layout.roots s among below)

  some_root : (p : Path) (s : Root) → Among s layout.roots → is_below p s.path ≡ true → (r : Root) × (root_of layout p ≡ Some r)
  some_root p s among below = by (root_of layout p) refl (deep_among p None layout.roots s among below) where
    by : (o : Option Root) → root_of layout p ≡ o → AtLeast (length s.path) o → (r : Root) × (root_of layout p ≡ Some r)
    by None e at = absurd at
    by (Some r) e at = (r, e)

  pub belongs : (r : Root) (p : Path) → belongs_to layout r p ≡ true → (s : Root) × RootOf p s × (s.path ≡ r.path)
  belongs r p h = by (root_of layout p) refl h where
    by : (o : Option Root) → root_of layout p ≡ o → option_map_or (λ (s : Root). same_path s.path r.path) o false ≡ true → (s : Root) × RootOf p s × (s.path ≡ r.path)
    by None e k = cc
    by (Some s) e k = (s, root_is p s e, (same_path-Decides s.path r.path).0 k)

  pub belongs_from : (r s : Root) (p : Path) → root_of layout p ≡ Some s → s.path ≡ r.path → belongs_to layout r p ≡ true
  belongs_from r s p e same = ap (λ o. option_map_or (λ (s : Root). same_path s.path r.path) o false) e ∙ (same_path-Decides s.path r.path).1 same

  -- the same for roots of one path
  pub belongs_same : (r s : Root) (p : Path) → r.path ≡ s.path → belongs_to layout r p ≡ belongs_to layout s p
  belongs_same r s p e = ap (λ q. option_map_or (λ (x : Root). same_path x.path q) (root_of layout p) false) e

  -- a directory above a file that is longer than the file's root belongs to it and is no root
  module _ (r : Root) (f d : Path) (own : belongs_to layout r f ≡ true) (above : is_below f d ≡ true) (longer : length r.path < length d) where
    pub above_belongs : belongs_to layout r d ≡ true
    above_belongs =
        let (s, root, same) = belongs r f own in
        let within : is_below d s.path ≡ true = below_both f d s.path above root.below (omega (arith, longer, ap length same)) in
        let (t, is) = some_root d s root.among within in
        let deep = root_is d t is in
        let lower = deepest d t s is root.among within in
        let upper = deepest f s t root.is deep.among (below_trans f d t.path above deep.below) in
        belongs_from r t d is (below_same d t.path s.path deep.below within (omega (arith, lower, upper)) ∙ same)

    pub above_no_root : is_root layout d ≡ false
    above_no_root = false_from_ne_true (is_root layout d) none where
      none : is_root layout d ≡ true → ⊥
      none h =
          let (s, root, same) = belongs r f own in
          let (t, among, is) = any_among (λ (x : Root). same_path x.path d) layout.roots h in
          let path = (same_path-Decides t.path d).0 is in
          omega (arith, longer, ap length same, ap length path, deepest f s t root.is among (ap (is_below f) path ∙ above))

  pub belongs_longer : (r : Root) (d : Path) → belongs_to layout r d ≡ true → length r.path < length d
  belongs_longer r d own =
      let (s, root, same) = belongs r d own in
      omega (arith, ap length same, below_shorter d s.path root.below)
