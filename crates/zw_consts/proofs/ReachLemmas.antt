-- The ancestors of a module are what it leads to.
use Rattle.std.proofs.Common.{◌≡◌, true, ℕ, zero, suc, ◌<◌, ◌^◌, ◌⊎◌, inl, inr, List, [], ◌∷◌, length, slice_get, Option, Some, None, refl, ap, sym, ◌∙◌, subst}
use Rattle.std.specs.List.{flat_map}
use Rattle.std.specs.Option.{option_map_or}
use Rattle.zw_def_world.specs.Missing.{bind}
use Rattle.zw_heap.specs.declared.value.ModuleId.{ModuleId}
use Rattle.zw_heap.specs.declared.value.ModuleKind.{ModuleKind}
use Rattle.zw_heap.specs.declared.value.ModuleKind.TheVariants as k
use Rattle.zw_heap.specs.ModuleRecord.{Module}
use Rattle.zw_heap.specs.Heap.{Held}
use Rattle.zw_heap.specs.Reach.{IsSuperclass, IsIncluded, LeadsTo, LeadsBy, Reaches}
use Rattle.zw_heap.specs.Superclass.{superclass_in, superclass_at}
use Rattle.zw_heap.specs.Sound.{IsSound}
use Rattle.zw_consts.specs.Ancestor.{numbers_of, includes_at, is_among, above_of, own_by, ancestors_of}
use Rattle.zw_consts.proofs.ListLemmas.{among_first, among_later, among_one, among_append, flat_among}
use Rattle.zw_consts.proofs.HeightLemmas.{included_way, superclass_way, way_within, climb}
use Rattle.zw_consts.proofs.ListedLemmas.{listed_with-from}
use Rattle.zw_consts.proofs.AncestorLemmas.{ancestors_of-step, among_itself, among_of_included, among_of_superclass}

included_among : (is : List ModuleId) (j : ℕ) (x : ModuleId) (m : ℕ) → slice_get is j ≡ Some x → x.0 ≡ m → is_among (numbers_of is) m ≡ true
included_among [] j x m e same = absurd (cc)
included_among (i ∷ is) zero x m e same =
    let z : Some i ≡ Some x = e in
    let here : i ≡ x = cc in
    subst (λ k. is_among (numbers_of (i ∷ is)) k ≡ true) (ap (λ (y : ModuleId). y.0) here ∙ same) (among_first i.0 (numbers_of is))
included_among (i ∷ is) (suc j) x m e same = among_later i.0 m (numbers_of is) (included_among is j x m e same)

superclass_is : (kd : ModuleKind) (m : ℕ) → IsSuperclass kd m → superclass_in kd ≡ Some m
superclass_is k.Module m e = absurd e
superclass_is (k.Class None) m e = absurd e
superclass_is (k.Class (Some s)) m e = ap Some e

module _ (h : Held) (sound : IsSound h) (small : length h.modules < 2 ^ 64) where
  among_led : (n m x : ℕ) → n < length h.modules → LeadsTo h.modules n m → is_among (ancestors_of h.modules m) x ≡ true → is_among (ancestors_of h.modules n) x ≡ true
  among_led n m x lt way e = by way.2
    where
      by : IsSuperclass way.0.kind m ⊎ IsIncluded way.0.includes m → is_among (ancestors_of h.modules n) x ≡ true
      by (inl super) = among_of_superclass h sound small n m x lt (ap (λ o. bind o (λ (y : Module). superclass_in y.kind)) way.1 ∙ superclass_is way.0.kind m super) e
      by (inr inc) = among_of_included h sound small n m x lt
          (ap (λ o. is_among (option_map_or (λ (y : Module). numbers_of y.includes) o []) m) way.1 ∙ included_among way.0.includes inc.0 inc.1 m inc.2 inc.3) e

  among_by : (n : ℕ) (ks : List ℕ) (m : ℕ) → n < length h.modules → LeadsBy h.modules n ks m → is_among (ancestors_of h.modules n) m ≡ true
  among_by n [] m lt by = subst (λ k. is_among (ancestors_of h.modules n) k ≡ true) by (among_itself h sound small n lt)
  among_by n (k ∷ ks) m lt by = among_led n k m lt by.0 (among_by k ks m (way_within h sound n k by.0) by.1)

  pub reached-among : (n m : ℕ) → n < length h.modules → Reaches h.modules n m → is_among (ancestors_of h.modules n) m ≡ true
  reached-among n m lt way = among_by n way.0 m lt way.1

  Leading : ℕ → ℕ → Type 0
  Leading k n = (x : ℕ) → is_among (ancestors_of h.modules n) x ≡ true → Reaches h.modules n x

  leading_step : (k n : ℕ) → n < length h.modules → ((m : ℕ) → LeadsTo h.modules n m → Leading k m) → Leading (suc k) n
  unfolding Leading
  leading_step k n lt each x e =
      by (among_append (own_by (ancestors_of h.modules) h.modules (above_of (ancestors_of h.modules) (superclass_at h.modules n)) n) (above_of (ancestors_of h.modules) (superclass_at h.modules n)) x
      (ap (λ l. is_among l x) (sym (ancestors_of-step h sound small n lt)) ∙ e))
    where
      then : (m : ℕ) → LeadsTo h.modules n m → is_among (ancestors_of h.modules m) x ≡ true → Reaches h.modules n x
      then m way there = let later = each m way x there in (m ∷ later.0, (way, later.1))

      up : (o : Option ℕ) → superclass_at h.modules n ≡ o → is_among (above_of (ancestors_of h.modules) o) x ≡ true → Reaches h.modules n x
      up None there z = absurd (cc)
      up (Some m) there z = then m (superclass_way h.modules n m there) z

      own : (is_among (n ∷ []) x ≡ true) ⊎ (is_among (flat_map (ancestors_of h.modules) (includes_at h.modules n)) x ≡ true) → Reaches h.modules n x
      own (inl z) = ([], sym (among_one n x z))
      own (inr z) = let found = flat_among (ancestors_of h.modules) (includes_at h.modules n) x z in then found.0 (included_way h.modules n found.0 found.1) found.2

      by : (is_among (own_by (ancestors_of h.modules) h.modules (above_of (ancestors_of h.modules) (superclass_at h.modules n)) n) x ≡ true) ⊎ (is_among (above_of (ancestors_of h.modules) (superclass_at h.modules n)) x ≡ true) → Reaches h.modules n x
      by (inl z) = own (listed_with-from (above_of (ancestors_of h.modules) (superclass_at h.modules n)) (n ∷ []) (flat_map (ancestors_of h.modules) (includes_at h.modules n)) x z)
      by (inr z) = up (superclass_at h.modules n) refl z

  pub among-reached : (n m : ℕ) → n < length h.modules → is_among (ancestors_of h.modules n) m ≡ true → Reaches h.modules n m
  unfolding Leading
  among-reached n m lt e = climb h sound Leading leading_step (2 ^ 64) n lt small m e
