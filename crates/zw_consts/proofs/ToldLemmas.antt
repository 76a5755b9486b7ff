-- Ancestors are told as those of each world that agrees with the heap.
use Rattle.std.proofs.Common.{◌≡◌, ◌||◌, ◌&&◌, ◌==◌, Bool, true, false, ℕ, zero, suc, ◌<◌, ◌≤◌, ◌^◌, List, [], ◌∷◌, ◌++◌, cond, length, map, slice_get, Option, Some, None, nat_eq, refl, ap, sym, ◌∙◌, arith, Decides}
use Rattle.std.specs.List.{flat_map}
use Rattle.std.specs.Option.{option_map, option_map_or}
use Rattle.std.proofs.lemmas.List.{map-append}
use Rattle.zw_def_world.specs.Missing.{bind, joined}
use Rattle.zw_def_world.specs.Id.{Id}
use Rattle.zw_def_world.specs.Record as told
use Rattle.zw_def_world.specs.World.{World}
use Rattle.zw_def_world.specs.Ancestor as told_line
use Rattle.zw_def_world.specs.MethodLine as method_line
use Rattle.zw_heap.specs.declared.value.ModuleId.{ModuleId}
use Rattle.zw_heap.specs.declared.value.ModuleKind.{ModuleKind}
use Rattle.zw_heap.specs.declared.value.ModuleKind.TheVariants as k
use Rattle.zw_heap.specs.ModuleRecord.{Module}
use Rattle.zw_heap.specs.Heap.{Held}
use Rattle.zw_heap.specs.Reach.{LeadsTo}
use Rattle.zw_heap.specs.Superclass.{superclass_in, superclass_at}
use Rattle.zw_heap.specs.Telling.{Telling, told_ids, told_superclass, TellsModule, Agrees}
use Rattle.zw_heap.specs.Sound.{IsSound}
use Rattle.zw_consts.specs.Ancestor.{numbers_of, includes_at, is_among, listed_with, above_of, ancestors_by, ancestors_within, ancestors_of, superclasses_within, superclasses_of}
use Rattle.zw_told.proofs.NameLemmas.{is_among-told}
use Rattle.zw_consts.proofs.ListLemmas.{record_at, among_first, among_later}
use Rattle.zw_consts.proofs.HeightLemmas.{included_way, superclass_way, climb}

module _ (I : Telling) where
  listed_with-told : (above listed ns : List ℕ) → told_line.listed_with (map I.module_id above) (map I.module_id listed) (map I.module_id ns) ≡ map I.module_id (listed_with above listed ns)
  listed_with-told above listed [] = refl
  listed_with-told above listed (n ∷ ns) =
      ap (λ l. told_line.listed_with (map I.module_id above) l (map I.module_id ns)) one ∙ listed_with-told above (cond (is_among listed n || is_among above n) listed (listed ++ n ∷ [])) ns
    where
      push : (b : Bool) → cond b (map I.module_id listed) (map I.module_id listed ++ I.module_id n ∷ []) ≡ map I.module_id (cond b listed (listed ++ n ∷ []))
      push true = refl
      push false = sym (map-append I.module_id listed (n ∷ []))

      one : cond (told_line.is_among (map I.module_id listed) (I.module_id n) || told_line.is_among (map I.module_id above) (I.module_id n)) (map I.module_id listed) (map I.module_id listed ++ I.module_id n ∷ [])
          ≡ map I.module_id (cond (is_among listed n || is_among above n) listed (listed ++ n ∷ []))
      one = (λ i. cond (is_among-told I.module_id I.modules_differ listed n i || is_among-told I.module_id I.modules_differ above n i) (map I.module_id listed) (map I.module_id listed ++ I.module_id n ∷ [])) ∙ push (is_among listed n || is_among above n)

  -- ---- one step, where all above is told

  module _ (up : Id → Option (List Id)) (own : ℕ → List ℕ) where
    joined-told : (ns : List ℕ) → ((n : ℕ) → is_among ns n ≡ true → up (I.module_id n) ≡ Some (map I.module_id (own n))) → joined up (map I.module_id ns) ≡ Some (map I.module_id (flat_map own ns))
    joined-told [] each = refl
    joined-told (n ∷ ns) each =
        (λ i. bind (each n (among_first n ns) i) (λ ys. bind (joined-told ns (λ m e. each m (among_later n m ns e)) i) (λ more. Some (ys ++ more))))
        ∙ ap Some (sym (map-append I.module_id (own n) (flat_map own ns)))

    above_of-told : (o : Option ℕ) → ((n : ℕ) → o ≡ Some n → up (I.module_id n) ≡ Some (map I.module_id (own n))) → told_line.above_of up (option_map I.module_id o) ≡ Some (map I.module_id (above_of own o))
    above_of-told None each = refl
    above_of-told (Some n) each = each n refl

superclass-told : (I : Telling) (kd : ModuleKind) → told_superclass I kd ≡ option_map I.module_id (superclass_in kd)
superclass-told I k.Module = refl
superclass-told I (k.Class None) = refl
superclass-told I (k.Class (Some s)) = refl

ids-told : (I : Telling) (is : List ModuleId) → told_ids I is ≡ map I.module_id (numbers_of is)
ids-told I [] = refl
ids-told I (i ∷ is) = ap (λ l. I.module_id i.0 ∷ l) (ids-told I is)

module _ (I : Telling) (h : Held) (w : World) (sound : IsSound h) (agrees : Agrees I h w) where
  -- the world's module at a number, by its parts
  pub included_told : (n : ℕ) (m : Module) (x : told.Module) → slice_get h.modules n ≡ Some m → TellsModule I m x → x.includes ≡ map I.module_id (includes_at h.modules n)
  included_told n m x at tells = tells.includes ∙ ids-told I m.includes ∙ ap (λ o. map I.module_id (option_map_or (λ (y : Module). numbers_of y.includes) o [])) (sym at)

  pub superclass_told : (n : ℕ) (m : Module) (x : told.Module) → slice_get h.modules n ≡ Some m → TellsModule I m x → x.superclass ≡ option_map I.module_id (superclass_at h.modules n)
  superclass_told n m x at tells = tells.superclass ∙ superclass-told I m.kind ∙ ap (λ o. option_map I.module_id (bind o (λ (y : Module). superclass_in y.kind))) (sym at)

  Told : ℕ → ℕ → Type 0
  Told k n = (f : ℕ) → k ≤ f → told_line.ancestors_within w f (I.module_id n) ≡ Some (map I.module_id (ancestors_within h.modules f n))

  by_told : (up : Id → Option (List Id)) (own : ℕ → List ℕ) (n : ℕ) (x : told.Module) → x.includes ≡ map I.module_id (includes_at h.modules n) → x.superclass ≡ option_map I.module_id (superclass_at h.modules n) →
      ((m : ℕ) → LeadsTo h.modules n m → up (I.module_id m) ≡ Some (map I.module_id (own m))) → told_line.ancestors_by up (I.module_id n) x ≡ Some (map I.module_id (ancestors_by own h.modules n))
  by_told up own n x includes super each =
      (λ i. bind (above i) (λ above. bind (included i) (λ included. Some (told_line.listed_with above (I.module_id n ∷ []) included ++ above))))
      ∙ ap Some (ap (λ l. l ++ map I.module_id (above_of own (superclass_at h.modules n))) (listed_with-told I (above_of own (superclass_at h.modules n)) (n ∷ []) (flat_map own (includes_at h.modules n)))
      ∙ sym (map-append I.module_id (listed_with (above_of own (superclass_at h.modules n)) (n ∷ []) (flat_map own (includes_at h.modules n))) (above_of own (superclass_at h.modules n))))
    where
      above : told_line.above_of up x.superclass ≡ Some (map I.module_id (above_of own (superclass_at h.modules n)))
      above = ap (told_line.above_of up) super ∙ above_of-told I up own (superclass_at h.modules n) (λ m e. each m (superclass_way h.modules n m e))

      included : joined up x.includes ≡ Some (map I.module_id (flat_map own (includes_at h.modules n)))
      included = ap (joined up) includes ∙ joined-told I up own (includes_at h.modules n) (λ m e. each m (included_way h.modules n m e))

  told_step : (k n : ℕ) → n < length h.modules → ((m : ℕ) → LeadsTo h.modules n m → Told k m) → Told (suc k) n
  unfolding Told
  told_step k n lt each zero le = absurd (omega (arith, le))
  told_step k n lt each (suc f) le =
      let at = record_at h.modules n lt in
      let there = agrees.modules n at.0 at.1 in
      ap (λ o. bind o (told_line.ancestors_by (told_line.ancestors_within w f) (I.module_id n))) there.1
      ∙ by_told (told_line.ancestors_within w f) (ancestors_within h.modules f) n there.0 (included_told n at.0 there.0 at.1 there.2) (superclass_told n at.0 there.0 at.1 there.2)
      (λ m way. each m way f (omega (arith, le)))

  pub ancestors-told : (n : ℕ) → n < length h.modules → length h.modules < 2 ^ 64 → told_line.ancestors w (I.module_id n) ≡ Some (map I.module_id (ancestors_of h.modules n))
  unfolding told_line.ancestors ancestors_of Told
  ancestors-told n lt small = climb h sound Told told_step (2 ^ 64) n lt small (2 ^ 64) (omega arith)

  -- ---- superclasses

  UpTold : ℕ → ℕ → Type 0
  UpTold k n = (f : ℕ) → k ≤ f → method_line.superclasses_within w f (I.module_id n) ≡ Some (map I.module_id (superclasses_within h.modules f n))

  up_step : (k n : ℕ) → n < length h.modules → ((m : ℕ) → LeadsTo h.modules n m → UpTold k m) → UpTold (suc k) n
  unfolding UpTold
  up_step k n lt each zero le = absurd (omega (arith, le))
  up_step k n lt each (suc f) le =
      let at = record_at h.modules n lt in
      let there = agrees.modules n at.0 at.1 in
      ap (λ o. bind o (method_line.superclasses_by (method_line.superclasses_within w f) (I.module_id n))) there.1
      ∙ ap (λ o. option_map (λ above. I.module_id n ∷ above) (told_line.above_of (method_line.superclasses_within w f) o)) (superclass_told n at.0 there.0 at.1 there.2)
      ∙ ap (option_map (λ above. I.module_id n ∷ above)) (above_of-told I (method_line.superclasses_within w f) (superclasses_within h.modules f) (superclass_at h.modules n) (λ m e. each m (superclass_way h.modules n m e) f (omega (arith, le))))

  pub superclasses-told : (n : ℕ) → n < length h.modules → length h.modules < 2 ^ 64 → method_line.superclasses w (I.module_id n) ≡ Some (map I.module_id (superclasses_of h.modules n))
  unfolding method_line.superclasses superclasses_of UpTold
  superclasses-told n lt small = climb h sound UpTold up_step (2 ^ 64) n lt small (2 ^ 64) (omega arith)
