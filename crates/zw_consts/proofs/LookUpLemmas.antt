-- The modules that are asked for a constant are told as those of each world that agrees with the heap.
use Rattle.std.proofs.Common.{◌≡◌, ◌&&◌, Bool, true, false, not, ℕ, ◌<◌, ◌^◌, ◌⊎◌, inl, inr, List, [], ◌∷◌, ◌++◌, cond, length, map, filter, Some, Result, Ok, Err, IfOk, nat_eq, refl, ap, sym, ◌∙◌, subst}
use Rattle.std.specs.List.{All}
use Rattle.std.specs.Option.{option_map, option_map_or}
use Rattle.std.proofs.lemmas.List.{map-append}
use Rattle.std.proofs.lemmas.List.Elements.{All-head, All-tail}
use Rattle.zw_def_world.specs.Missing.{bind}
use Rattle.zw_def_world.specs.Id.{Id, id_eq}
use Rattle.zw_def_world.specs.CoreClass.{Object_class, Kernel}
use Rattle.zw_def_world.specs.Record as told_record
use Rattle.zw_def_world.specs.World.{World}
use Rattle.zw_def_world.specs.Ancestor as told_line
use Rattle.zw_def_world.specs.LookUp as told
use Rattle.zw_heap.specs.declared.value.ModuleId.{ModuleId}
use Rattle.zw_heap.specs.ModuleRecord.{Module}
use Rattle.zw_heap.specs.Founded.{is_class}
use Rattle.zw_heap.specs.Heap.{Held}
use Rattle.zw_heap.specs.Telling.{Telling, Agrees}
use Rattle.zw_heap.specs.Sound.{IsSound}
use Rattle.zw_consts.specs.Ancestor.{numbers_of, is_among, ancestors_of}
use Rattle.zw_consts.specs.LookUp.{without, is_class_in, asked_last, asked_from, unscoped_modules, scoped_modules}
use Rattle.zw_consts.proofs.ListLemmas.{record_at, among_first, among_later, among_cons}
use Rattle.zw_consts.proofs.ClassLemmas.{All-numbered}
use Rattle.zw_told.proofs.NameLemmas.{module_told}
use Rattle.zw_consts.proofs.ToldLemmas.{ancestors-told}

module _ (I : Telling) where
  test-told : (i : Id) (m n : ℕ) → I.module_id m ≡ i → told.is_other_than i (I.module_id n) ≡ not (nat_eq m n)
  test-told i m n is = ap (λ j. not (id_eq j (I.module_id n))) (sym is) ∙ ap not (module_told I m n)

  without-told : (i : Id) (m : ℕ) (ns : List ℕ) → I.module_id m ≡ i → filter (told.is_other_than i) (map I.module_id ns) ≡ map I.module_id (without m ns)
  without-told i m [] is = refl
  without-told i m (n ∷ ns) is =
      (λ k. cond (test-told i m n is k) (I.module_id n ∷ without-told i m ns is k) (without-told i m ns is k)) ∙ by (not (nat_eq m n))
    where
      by : (b : Bool) → cond b (I.module_id n ∷ map I.module_id (without m ns)) (map I.module_id (without m ns)) ≡ map I.module_id (cond b (n ∷ without m ns) (without m ns))
      by true = refl
      by false = refl

  below-told : (ns : List ℕ) → I.module_id 0 ≡ Object_class → I.module_id 1 ≡ Kernel → told.below_object (map I.module_id ns) ≡ map I.module_id (without 1 (without 0 ns))
  below-told [] object kernel = refl
  below-told (n ∷ ns) object kernel =
      (λ k. cond (test-told Object_class 0 n object k && test-told Kernel 1 n kernel k) (I.module_id n ∷ below-told ns object kernel k) (below-told ns object kernel k)) ∙ by (not (nat_eq 0 n)) (not (nat_eq 1 n)) refl
    where
      by : (a b : Bool) → not (nat_eq 1 n) ≡ b → cond (a && b) (I.module_id n ∷ map I.module_id (without 1 (without 0 ns))) (map I.module_id (without 1 (without 0 ns))) ≡ map I.module_id (without 1 (cond a (n ∷ without 0 ns) (without 0 ns)))
      by false b e = refl
      by true true e = ap (λ b. map I.module_id (cond b (n ∷ without 1 (without 0 ns)) (without 1 (without 0 ns)))) (sym e)
      by true false e = ap (λ b. map I.module_id (cond b (n ∷ without 1 (without 0 ns)) (without 1 (without 0 ns)))) (sym e)

  module _ (h : Held) (w : World) (sound : IsSound h) (agrees : Agrees I h w) (small : length h.modules < 2 ^ 64) (object : I.module_id 0 ≡ Object_class) where
    asked_last-told : (b : Bool) (x : told_record.Module) → x.is_class ≡ b → told.asked_last x ≡ map I.module_id (asked_last b)
    asked_last-told true x e = ap (λ b. cond b [] (Object_class ∷ [])) e
    asked_last-told false x e = ap (λ b. cond b [] (Object_class ∷ [])) e ∙ ap (λ i. i ∷ []) (sym object)

    from-told : (n : ℕ) (ns : List ℕ) → n < length h.modules → told.unscoped_modules w (I.module_id n ∷ map I.module_id ns) ≡ Some (map I.module_id (asked_from h.modules (n ∷ ns) n))
    from-told n ns lt =
        let at = record_at h.modules n lt in
        let there = agrees.modules n at.0 at.1 in
        ap (λ o. bind o (λ m. option_map (λ line. filter (told.is_other_than Object_class) (I.module_id n ∷ map I.module_id ns) ++ line ++ told.asked_last m) (told_line.ancestors w (I.module_id n)))) there.1
        ∙ ap (option_map (λ line. filter (told.is_other_than Object_class) (I.module_id n ∷ map I.module_id ns) ++ line ++ told.asked_last there.0)) (ancestors-told I h w sound agrees n lt small)
        ∙ ap Some ((λ k. without-told Object_class 0 (n ∷ ns) object k ++ map I.module_id (ancestors_of h.modules n) ++ asked_last-told (is_class_in h.modules n) there.0 (there.2.kind ∙ ap (λ o. option_map_or (λ (m : Module). is_class m.kind) o false) (sym at.1)) k)
        ∙ ap (λ l. l ++ map I.module_id (asked_last (is_class_in h.modules n))) (sym (map-append I.module_id (without 0 (n ∷ ns)) (ancestors_of h.modules n)))
        ∙ sym (map-append I.module_id (without 0 (n ∷ ns) ++ ancestors_of h.modules n) (asked_last (is_class_in h.modules n))))

    pub unscoped-told : (ns : List ℕ) → 0 < length h.modules → All (λ n. n < length h.modules) ns → told.unscoped_modules w (map I.module_id ns) ≡ Some (map I.module_id (unscoped_modules h.modules ns))
    unscoped-told [] some within = ap (told_line.ancestors w) (sym object) ∙ ancestors-told I h w sound agrees 0 some small
    unscoped-told (n ∷ ns) some within = from-told n ns (All-head (λ n. n < length h.modules) n ns within)

    pub scoped-told : (n : ℕ) → I.module_id 1 ≡ Kernel → n < length h.modules → told.scoped_modules w (I.module_id n) ≡ Some (map I.module_id (scoped_modules h.modules n))
    scoped-told n kernel lt =
        ap (option_map (λ line. cond (id_eq (I.module_id n) Object_class) line (told.below_object line))) (ancestors-told I h w sound agrees n lt small)
        ∙ ap Some ((λ k. cond (test k) (map I.module_id (ancestors_of h.modules n)) (below-told (ancestors_of h.modules n) object kernel k)) ∙ by (nat_eq n 0))
      where
        test : id_eq (I.module_id n) Object_class ≡ nat_eq n 0
        test = ap (id_eq (I.module_id n)) (sym object) ∙ module_told I n 0

        by : (b : Bool) → cond b (map I.module_id (ancestors_of h.modules n)) (map I.module_id (without 1 (without 0 (ancestors_of h.modules n)))) ≡ map I.module_id (cond b (ancestors_of h.modules n) (without 1 (without 0 (ancestors_of h.modules n))))
        by true = refl
        by false = refl

-- ---- all are in the heap

among_without : (m : ℕ) (ns : List ℕ) (x : ℕ) → is_among (without m ns) x ≡ true → is_among ns x ≡ true
among_without m [] x e = e
among_without m (n ∷ ns) x e = by (not (nat_eq m n)) e (among_without m ns x)
  where
    by : (b : Bool) → is_among (cond b (n ∷ without m ns) (without m ns)) x ≡ true → (is_among (without m ns) x ≡ true → is_among ns x ≡ true) → is_among (n ∷ ns) x ≡ true
    by false z later = among_later n x ns (later z)
    by true z later = at (among_cons n x (without m ns) z)
      where
        at : (x ≡ n) ⊎ (is_among (without m ns) x ≡ true) → is_among (n ∷ ns) x ≡ true
        at (inl here) = ap (is_among (n ∷ ns)) here ∙ among_first n ns
        at (inr there) = among_later n x ns (later there)

numbered-All : (b : ℕ) (is : List ModuleId) → All (λ i. i.0 < b) is → (x : ℕ) → is_among (numbers_of is) x ≡ true → x < b
numbered-All b [] all x e = absurd (cc)
numbered-All b (i ∷ is) all x e = at (among_cons i.0 x (numbers_of is) e) (numbered-All b is (All-tail (λ (i : ModuleId). i.0 < b) i is all) x)
  where
    at : (x ≡ i.0) ⊎ (is_among (numbers_of is) x ≡ true) → (is_among (numbers_of is) x ≡ true → x < b) → x < b
    at (inl here) later = subst (λ k. k < b) (sym here) (All-head (λ (i : ModuleId). i.0 < b) i is all)
    at (inr there) later = later there

pub All-without : (b m : ℕ) (is others : List ModuleId) → numbers_of others ≡ without m (numbers_of is) → All (λ i. i.0 < b) is → All (λ i. i.0 < b) others
All-without b m is others e all = All-numbered others b (λ x there. numbered-All b is all x (among_without m (numbers_of is) x (ap (λ l. is_among l x) (sym e) ∙ there)))

pub All-passed : {V E : Type 0} (items : V → List ModuleId) (r : Result V E) (is : List ModuleId) (b : ℕ) → IfOk r (λ v. (b : ℕ) → All (λ i. i.0 < b) is → All (λ i. i.0 < b) (items v)) → All (λ i. i.0 < b) is → IfOk r (λ v. All (λ i. i.0 < b) (items v))
All-passed items (Ok v) is b passes all = passes b all
All-passed items (Err e) is b passes all = tt
