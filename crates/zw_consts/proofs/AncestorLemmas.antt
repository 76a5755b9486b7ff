-- Ancestors by their parts: of a module, of what it includes, and of its superclass.
use Rattle.std.proofs.Common.{◌≡◌, true, false, ℕ, suc, ◌<◌, ◌^◌, ◌⊎◌, inl, inr, List, [], ◌∷◌, ◌++◌, length, slice_get, Option, Some, None, nat_eq, refl, ap, sym, ◌∙◌, subst}
use Rattle.std.specs.List.{flat_map}
use Rattle.std.specs.Option.{option_map, option_map_or}
use Rattle.std.proofs.lemmas.List.{append-nil}
use Rattle.std.proofs.lemmas.List.Folds.{list_any-append}
use Rattle.zw_def_world.specs.Missing.{bind}
use Rattle.zw_def_world.specs.Ancestor.{max_height}
use Rattle.zw_heap.specs.declared.value.ModuleKind.{ModuleKind}
use Rattle.zw_heap.specs.declared.value.ModuleKind.TheVariants as k
use Rattle.zw_heap.specs.ModuleRecord.{Module}
use Rattle.zw_heap.specs.Heap.{Held}
use Rattle.zw_heap.specs.Reach.{LeadsTo}
use Rattle.zw_heap.specs.Founded.{is_class}
use Rattle.zw_heap.specs.Superclass.{superclass_in, superclass_at}
use Rattle.zw_heap.specs.Sound.{IsSound}
use Rattle.zw_consts.specs.Ancestor.{numbers_of, includes_at, is_among, listed_with, above_of, own_by, ancestors_by, ancestors_within, ancestors_of, superclasses_by, superclasses_within, superclasses_of}
use Rattle.zw_consts.specs.Line.{HoldsIncludes}
use Rattle.zw_consts.proofs.ListLemmas.{among_first, among_one, among_left, among_right, among_append, among_flat, flat_among, flat_map-same}
use Rattle.zw_consts.proofs.HeightLemmas.{among_included, included_way, superclass_way, climb, settled}
use Rattle.zw_consts.proofs.ListedLemmas.{has, listed_with-kept, listed_with-has, listed_with-from}

above_of-same : (up down : ℕ → List ℕ) (o : Option ℕ) → ((m : ℕ) → o ≡ Some m → up m ≡ down m) → above_of up o ≡ above_of down o
above_of-same up down None same = refl
above_of-same up down (Some m) same = same m refl

module _ (h : Held) (sound : IsSound h) (small : length h.modules < 2 ^ 64) where
  ms : List Module
  ms = h.modules

  ancestors_look : (up down : ℕ → List ℕ) (n : ℕ) → ((m : ℕ) → LeadsTo h.modules n m → up m ≡ down m) → ancestors_by up h.modules n ≡ ancestors_by down h.modules n
  ancestors_look up down n same =
      let above = above_of-same up down (superclass_at h.modules n) (λ m e. same m (superclass_way h.modules n m e)) in
      let included = flat_map-same up down (includes_at h.modules n) (λ m e. same m (included_way h.modules n m e)) in
      (λ i. listed_with (above i) (n ∷ []) (included i) ++ above i)

  pub ancestors_of-step : (n : ℕ) → n < length h.modules → ancestors_of h.modules n ≡ ancestors_by (ancestors_of h.modules) h.modules n
  unfolding ancestors_of
  ancestors_of-step n lt = settled h sound (ancestors_within h.modules) (λ up n. ancestors_by up h.modules n) (λ k n. refl) ancestors_look max_height n lt small

  superclasses_look : (up down : ℕ → List ℕ) (n : ℕ) → ((m : ℕ) → LeadsTo h.modules n m → up m ≡ down m) → superclasses_by up h.modules n ≡ superclasses_by down h.modules n
  superclasses_look up down n same = ap (λ above. n ∷ above) (above_of-same up down (superclass_at h.modules n) (λ m e. same m (superclass_way h.modules n m e)))

  pub superclasses_of-step : (n : ℕ) → n < length h.modules → superclasses_of h.modules n ≡ superclasses_by (superclasses_of h.modules) h.modules n
  unfolding superclasses_of
  superclasses_of-step n lt = settled h sound (superclasses_within h.modules) (λ up n. superclasses_by up h.modules n) (λ k n. refl) superclasses_look max_height n lt small

  -- ---- what is included is no class

  pub included_plain : (n m : ℕ) → is_among (includes_at h.modules n) m ≡ true → superclass_at h.modules m ≡ None
  included_plain n m e = at (slice_get h.modules n) refl e
    where
      top : (kd : ModuleKind) → is_class kd ≡ false → superclass_in kd ≡ None
      top k.Module e = refl
      top (k.Class s) e = absurd (cc)

      by : (o : Option Module) → option_map (λ (x : Module). is_class x.kind) o ≡ Some false → bind o (λ (x : Module). superclass_in x.kind) ≡ None
      by None z = refl
      by (Some x) z = top x.kind (cc)

      at : (o : Option Module) → slice_get h.modules n ≡ o → is_among (option_map_or (λ (x : Module). numbers_of x.includes) o []) m ≡ true → superclass_at h.modules m ≡ None
      at None there z = absurd (cc)
      at (Some x) there z = by (slice_get h.modules m) (sound.founded.includes_modules n m x there (among_included x.includes m z))

  pub plain_ancestors : (n : ℕ) → n < length h.modules → superclass_at h.modules n ≡ None → ancestors_of h.modules n ≡ listed_with [] (n ∷ []) (flat_map (ancestors_of h.modules) (includes_at h.modules n))
  plain_ancestors n lt plain =
      ancestors_of-step n lt ∙ ap (λ o. own_by (ancestors_of h.modules) h.modules (above_of (ancestors_of h.modules) o) n ++ above_of (ancestors_of h.modules) o) plain
      ∙ append-nil (listed_with [] (n ∷ []) (flat_map (ancestors_of h.modules) (includes_at h.modules n)))

  -- ---- members

  -- the line of a class whose superclass has the line above
  own_has : (above : List ℕ) (n x : ℕ) → has above (own_by (ancestors_of h.modules) h.modules above n) x ≡ is_among (own_by (ancestors_of h.modules) h.modules above n ++ above) x
  own_has above n x = sym (list_any-append (nat_eq x) (own_by (ancestors_of h.modules) h.modules above n) above)

  pub own_itself : (above : List ℕ) (n : ℕ) → is_among (own_by (ancestors_of h.modules) h.modules above n) n ≡ true
  own_itself above n = listed_with-kept above (n ∷ []) (flat_map (ancestors_of h.modules) (includes_at h.modules n)) n (among_first n [])

  own_included : (above : List ℕ) (n x : ℕ) → is_among (flat_map (ancestors_of h.modules) (includes_at h.modules n)) x ≡ true → is_among (own_by (ancestors_of h.modules) h.modules above n ++ above) x ≡ true
  own_included above n x e = sym (own_has above n x) ∙ listed_with-has above (n ∷ []) (flat_map (ancestors_of h.modules) (includes_at h.modules n)) x e

  among_step : (n x : ℕ) → n < length h.modules → is_among (ancestors_by (ancestors_of h.modules) h.modules n) x ≡ true → is_among (ancestors_of h.modules n) x ≡ true
  among_step n x lt e = ap (λ l. is_among l x) (ancestors_of-step n lt) ∙ e

  pub among_itself : (n : ℕ) → n < length h.modules → is_among (ancestors_of h.modules n) n ≡ true
  among_itself n lt = among_step n n lt (among_left (own_by (ancestors_of h.modules) h.modules (above_of (ancestors_of h.modules) (superclass_at h.modules n)) n) (above_of (ancestors_of h.modules) (superclass_at h.modules n)) n
      (own_itself (above_of (ancestors_of h.modules) (superclass_at h.modules n)) n))

  pub among_of_included : (n m x : ℕ) → n < length h.modules → is_among (includes_at h.modules n) m ≡ true → is_among (ancestors_of h.modules m) x ≡ true → is_among (ancestors_of h.modules n) x ≡ true
  among_of_included n m x lt inc e = among_step n x lt (own_included (above_of (ancestors_of h.modules) (superclass_at h.modules n)) n x (among_flat (ancestors_of h.modules) (includes_at h.modules n) m x inc e))

  pub among_of_superclass : (n m x : ℕ) → n < length h.modules → superclass_at h.modules n ≡ Some m → is_among (ancestors_of h.modules m) x ≡ true → is_among (ancestors_of h.modules n) x ≡ true
  among_of_superclass n m x lt super e = among_step n x lt (among_right (own_by (ancestors_of h.modules) h.modules (above_of (ancestors_of h.modules) (superclass_at h.modules n)) n) (above_of (ancestors_of h.modules) (superclass_at h.modules n)) x
      (ap (λ o. is_among (above_of (ancestors_of h.modules) o) x) super ∙ e))

  -- ---- with each stands what it includes

  pub HoldsIncludes-by : (above : List ℕ) (n : ℕ) → ((m : ℕ) → is_among (includes_at h.modules n) m ≡ true → HoldsIncludes h.modules (ancestors_of h.modules m)) → HoldsIncludes h.modules above → HoldsIncludes h.modules (own_by (ancestors_of h.modules) h.modules above n ++ above)
  HoldsIncludes-by above n each up v x e inc = by (among_append (own_by (ancestors_of h.modules) h.modules above n) above v e)
    where
      included : is_among (flat_map (ancestors_of h.modules) (includes_at h.modules n)) v ≡ true → is_among (own_by (ancestors_of h.modules) h.modules above n ++ above) x ≡ true
      included z = let found = flat_among (ancestors_of h.modules) (includes_at h.modules n) v z in
          own_included above n x (among_flat (ancestors_of h.modules) (includes_at h.modules n) found.0 x found.1 (each found.0 found.1 v x found.2 inc))

      own : (is_among (n ∷ []) v ≡ true) ⊎ (is_among (flat_map (ancestors_of h.modules) (includes_at h.modules n)) v ≡ true) → is_among (own_by (ancestors_of h.modules) h.modules above n ++ above) x ≡ true
      own (inl z) = own_included above n x (ap (λ k. is_among (flat_map (ancestors_of h.modules) (includes_at h.modules k)) x) (sym (among_one n v z)) ∙ inc)
      own (inr z) = included z

      by : (is_among (own_by (ancestors_of h.modules) h.modules above n) v ≡ true) ⊎ (is_among above v ≡ true) → is_among (own_by (ancestors_of h.modules) h.modules above n ++ above) x ≡ true
      by (inl z) = own (listed_with-from above (n ∷ []) (flat_map (ancestors_of h.modules) (includes_at h.modules n)) v z)
      by (inr z) = among_right (own_by (ancestors_of h.modules) h.modules above n) above x (up v x z inc)

  Holds : ℕ → ℕ → Type 0
  Holds k n = HoldsIncludes h.modules (ancestors_of h.modules n)

  holds_above : (k : ℕ) (o : Option ℕ) → ((m : ℕ) → o ≡ Some m → Holds k m) → HoldsIncludes h.modules (above_of (ancestors_of h.modules) o)
  unfolding Holds
  holds_above k None each = λ v x e inc. absurd (cc)
  holds_above k (Some m) each = each m refl

  holds_step : (k n : ℕ) → n < length h.modules → ((m : ℕ) → LeadsTo h.modules n m → Holds k m) → Holds (suc k) n
  unfolding Holds
  holds_step k n lt each = subst (HoldsIncludes h.modules) (sym (ancestors_of-step n lt))
      (HoldsIncludes-by (above_of (ancestors_of h.modules) (superclass_at h.modules n)) n (λ m e. each m (included_way h.modules n m e))
      (holds_above k (superclass_at h.modules n) (λ m e. each m (superclass_way h.modules n m e))))

  pub ancestors-hold : (n : ℕ) → n < length h.modules → HoldsIncludes h.modules (ancestors_of h.modules n)
  unfolding Holds
  ancestors-hold n lt = climb h sound Holds holds_step (2 ^ 64) n lt small
