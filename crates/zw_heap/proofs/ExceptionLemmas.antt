-- Which classes make exceptions in a world that agrees with a heap.
use Rattle.std.proofs.Common.{◌≡◌, Bool, true, false, ◌||◌, ◌&&◌, ◌==◌, ℕ, zero, suc, ◌+◌, ◌<◌, ◌≤◌, ◌^◌, inl, inr, List, [], ◌∷◌, ◌++◌, length, get_or, slice_get, Option, Some, None, refl, ap, sym, ◌∙◌, subst, arith, cond}
use Rattle.std.specs.Option.{option_map}
use Rattle.std.specs.List.{All, list_any}
use Rattle.std.proofs.lemmas.Bool.{eqb-true, eq-eqb}
use Rattle.std.proofs.lemmas.List.{length-append, get_or_default}
use Rattle.std.proofs.lemmas.List.Elements.{All-nil}
use Rattle.std.proofs.lemmas.List.Folds.{list_any-append}
use Rattle.indexmap.proofs.IndexTableLemmas.Probe.{pigeonhole}
use Rattle.zw_def.specs.Text.{Text}
use Rattle.zw_def.specs.ConstantPath.{ConstantPath}
use Rattle.zw_def_world.specs.Missing.{bind, joined}
use Rattle.zw_def_world.specs.Id.{Id, boot_id, id_eq, same_load}
use Rattle.zw_def_world.specs.CoreClass.{Exception}
use Rattle.zw_def_world.specs.Record as told
use Rattle.zw_def_world.specs.World.{World}
use Rattle.zw_def_world.specs.Ancestor.{is_among, listed_with, above_of, ancestors_by, ancestors_within, max_height, ancestors, makes_exceptions}
use Rattle.zw_heap.specs.declared.value.ModuleId.{ModuleId}
use Rattle.zw_heap.specs.declared.value.ModuleKind.{ModuleKind}
use Rattle.zw_heap.specs.declared.value.ModuleKind.TheVariants as k
use Rattle.zw_heap.specs.ModuleRecord.{Module}
use Rattle.zw_heap.specs.Heap.{Held, sizes_of}
use Rattle.zw_heap.specs.Reach.{IsIncluded, LeadsTo, LeadsBy}
use Rattle.zw_heap.specs.Superclass.{superclass_in, superclass_at, is_above, descends}
use Rattle.zw_heap.specs.Telling.{Telling, Fits, told_ids, told_superclass, TellsModule, Agrees}
use Rattle.zw_heap.specs.Sound.{KindIn, ModuleIn, Differ, IsSound}
use Rattle.zw_heap.proofs.ListLemmas.{All-at, All-pushed, Differ-pushed, slice_get-read}
use Rattle.zw_heap.proofs.SuperclassLemmas.{superclass_at-is, IsSuperclass-in, descends-step, descends-module}
use Rattle.zw_heap.proofs.CoreTellingLemmas.{core_told}

-- ---- names of boot, compared

both : (a b : Bool) → (a && b) ≡ true → (a ≡ true) × (b ≡ true)
both true b e = (refl, e)
both false b e = absurd (cc)

no_load : (o : Option ConstantPath) → same_load None o ≡ true → o ≡ None
no_load None e = refl
no_load (Some p) e = absurd (cc)

id_eq-boot : (c : ℕ) (j : Id) → id_eq (boot_id c) j ≡ true → j ≡ boot_id c
id_eq-boot c j e =
    let outer = both (c == j.count && 0 == j.setup) (same_load None j.load) e in
    let inner = both (c == j.count) (0 == j.setup) outer.0 in
    let setup = eqb-true 0 j.setup inner.1 in
    let load = no_load j.load outer.1 in
    let count = eqb-true c j.count inner.0 in
    (λ i. record { setup = sym setup i; load = load i; count = sym count i })

-- ---- whether a name is listed

module _ (test : Id → Bool) where
  any-pushed : (xs : List Id) (i : Id) → test i ≡ false → list_any test (xs ++ i ∷ []) ≡ list_any test xs
  any-pushed xs i e = list_any-append test xs (i ∷ []) ∙ ap (λ b. list_any test xs || (b || false)) e ∙ or_false (list_any test xs)
    where
      or_false : (b : Bool) → (b || false) ≡ b
      or_false true = refl
      or_false false = refl

  pub any-listed : (above listed is : List Id) → list_any test is ≡ false → list_any test (listed_with above listed is) ≡ list_any test listed
  any-listed above listed [] e = refl
  any-listed above listed (i ∷ is) e = by (test i) refl e (λ more. any-listed above more is)
    where
      by : (b : Bool) → test i ≡ b → (b || list_any test is) ≡ false → ((more : List Id) → list_any test is ≡ false → list_any test (listed_with above more is) ≡ list_any test more) → list_any test (listed_with above listed (i ∷ is)) ≡ list_any test listed
      by true at z later = absurd (cc)
      by false at z later = elim (is_among listed i || is_among above i) as (λ b. list_any test (listed_with above (cond b listed (listed ++ i ∷ [])) is) ≡ list_any test listed)
          [ true ↦ later listed z | false ↦ later (listed ++ i ∷ []) z ∙ any-pushed listed i at ]

-- ---- the parts of a line of ancestors

pub record Parts (up : Id → Option (List Id)) (i : Id) (x : told.Module) (line : List Id) : Type 0 where
  pub above : List Id
  pub included : List Id
  pub above_is : above_of up x.superclass ≡ Some above
  pub included_is : joined up x.includes ≡ Some included
  pub line_is : line ≡ listed_with above (i ∷ []) included ++ above

parts : (up : Id → Option (List Id)) (i : Id) (x : told.Module) (line : List Id) → ancestors_by up i x ≡ Some line → Parts up i x line
parts up i x line e = by (above_of up x.superclass) refl (joined up x.includes) refl e
  where
    by : (a : Option (List Id)) → above_of up x.superclass ≡ a → (b : Option (List Id)) → joined up x.includes ≡ b → bind a (λ above. bind b (λ included. Some (listed_with above (i ∷ []) included ++ above))) ≡ Some line → Parts up i x line
    by None ea b eb z = absurd (cc)
    by (Some above) ea None eb z = absurd (cc)
    by (Some above) ea (Some included) eb z = record { above = above; included = included; above_is = ea; included_is = eb; line_is = sym (cc z) }

module _ (I : Telling) (up : Id → Option (List Id)) where
  joined-none : (test : Id → Bool) (is : List ModuleId) (all : List Id) → joined up (told_ids I is) ≡ Some all →
      ((m : ℕ) (line : List Id) → IsIncluded is m → up (I.module_id m) ≡ Some line → list_any test line ≡ false) → list_any test all ≡ false
  joined-none test [] all e none = let z : Some [] ≡ Some all = e in let same : [] ≡ all = cc z in ap (list_any test) (sym same)
  joined-none test (i ∷ is) all e none = by (up (I.module_id i.0)) refl (joined up (told_ids I is)) refl e
      (λ more z. joined-none test is more z (λ m line there. none m line (suc there.0, there.1, there.2, there.3)))
    where
      by : (a : Option (List Id)) → up (I.module_id i.0) ≡ a → (b : Option (List Id)) → joined up (told_ids I is) ≡ b → bind a (λ ys. bind b (λ more. Some (ys ++ more))) ≡ Some all → ((more : List Id) → joined up (told_ids I is) ≡ Some more → list_any test more ≡ false) → list_any test all ≡ false
      by None ea b eb z later = absurd (cc)
      by (Some ys) ea None eb z later = absurd (cc)
      by (Some ys) ea (Some more) eb z later =
          let whole : ys ++ more ≡ all = cc z in
          ap (list_any test) (sym whole) ∙ list_any-append test ys more ∙ ap (λ b. b || list_any test more) (none i.0 ys (0, i, refl, refl) ea) ∙ later more eb

  joined-some : (is : List ModuleId) → ((m : ℕ) → IsIncluded is m → (line : List Id) × (up (I.module_id m) ≡ Some line)) → (all : List Id) × (joined up (told_ids I is) ≡ Some all)
  joined-some [] there = ([], refl)
  joined-some (i ∷ is) there =
      let first = there i.0 (0, i, refl, refl) in
      let later = joined-some is (λ m inc. there m (suc inc.0, inc.1, inc.2, inc.3)) in
      (first.0 ++ later.0, ap (λ o. bind o (λ ys. bind (joined up (told_ids I is)) (λ more. Some (ys ++ more)))) first.1 ∙ ap (λ o. bind o (λ more. Some (first.0 ++ more))) later.1)

-- ---- heaps

superclass-told : (I : Telling) (kd : ModuleKind) → told_superclass I kd ≡ option_map I.module_id (superclass_in kd)
superclass-told I k.Module = refl
superclass-told I (k.Class None) = refl
superclass-told I (k.Class (Some s)) = refl

record_at : (ms : List Module) (n : ℕ) → n < length ms → (m : Module) × (slice_get ms n ≡ Some m)
record_at [] n lt = absurd (omega (arith, lt))
record_at (m ∷ ms) zero lt = (m, refl)
record_at (m ∷ ms) (suc n) lt = record_at ms n (omega (arith, lt))

module _ (I : Telling) (names : List Text) (h : Held) (w : World) (sound : IsSound h) (fit : Fits I names h) (agrees : Agrees I h w) where
  test : Id → Bool
  test = id_eq Exception

  test-told : (n : ℕ) → test (I.module_id n) ≡ (n == Exception.count)
  unfolding test
  test-told n = by (n == Exception.count) refl (id_eq Exception (I.module_id n)) refl
    where
      core : I.module_id Exception.count ≡ Exception
      core = core_told h sound I names fit Exception.count (omega arith)

      by : (a : Bool) → (n == Exception.count) ≡ a → (b : Bool) → id_eq Exception (I.module_id n) ≡ b → b ≡ a
      by true ea b eb = sym eb ∙ ap (id_eq Exception) (ap I.module_id (eqb-true n Exception.count ea) ∙ core)
      by false ea false eb = refl
      by false ea true eb =
          let same = I.modules_differ n Exception.count (id_eq-boot Exception.count (I.module_id n) eb ∙ sym core) in
          let z : false ≡ true = sym ea ∙ eq-eqb n Exception.count same in absurd (cc)

  module_in : (n : ℕ) (m : Module) → slice_get h.modules n ≡ Some m → ModuleIn (sizes_of h) m
  module_in n m at = All-at (ModuleIn (sizes_of h)) h.modules n m sound.within.modules_in at

  super_within : (kd : ModuleKind) (s : ℕ) → KindIn (sizes_of h) kd → superclass_in kd ≡ Some s → s < length h.modules
  super_within k.Module s known e = absurd (cc)
  super_within (k.Class None) s known e = absurd (cc)
  super_within (k.Class (Some m)) s known e = let z : Some m.0 ≡ Some s = e in subst (λ x. x < length h.modules) (cc z) known

  included_within : (n : ℕ) (m : Module) (i : ℕ) → slice_get h.modules n ≡ Some m → IsIncluded m.includes i → i < length h.modules
  included_within n m i at inc = subst (λ x. x < length h.modules) inc.3 (All-at (λ (j : ModuleId). j.0 < length h.modules) m.includes inc.0 inc.1 (module_in n m at).includes inc.2)

  -- the line of ancestors, where there is one, has `Exception` exactly where the class descends from it
  valued : (f n : ℕ) (line : List Id) → n < length h.modules → ancestors_within w f (I.module_id n) ≡ Some line → list_any test line ≡ descends h.modules Exception.count n
  valued zero n line lt e = absurd (cc)
  valued (suc f) n line lt e =
      let at = record_at h.modules n lt in
      let there = agrees.modules n at.0 at.1 in
      let p = parts (ancestors_within w f) (I.module_id n) there.0 line (ap (λ o. bind o (ancestors_by (ancestors_within w f) (I.module_id n))) (sym there.1) ∙ e) in
      by at.0 at.1 there.0 there.2 p (λ m more below z. valued f m more below z)
    where
      by : (m : Module) → slice_get h.modules n ≡ Some m → (x : told.Module) → TellsModule I m x → Parts (ancestors_within w f) (I.module_id n) x line →
          ((i : ℕ) (more : List Id) → i < length h.modules → ancestors_within w f (I.module_id i) ≡ Some more → list_any test more ≡ descends h.modules Exception.count i) → list_any test line ≡ descends h.modules Exception.count n
      by m at x tells p go =
          ap (list_any test) p.line_is ∙ list_any-append test (listed_with p.above (I.module_id n ∷ []) p.included) p.above
          ∙ (λ i. (own i) || (over i)) ∙ sym (descends-step h.modules sound.founded Exception.count n lt)
        where
          included_none : list_any test p.included ≡ false
          included_none = joined-none I (ancestors_within w f) test m.includes p.included (ap (joined (ancestors_within w f)) (sym tells.includes) ∙ p.included_is)
              (λ i more inc z. go i more (included_within n m i at inc) z ∙ descends-module h.modules sound.founded Exception.count i (included_within n m i at inc) sound.founded.exception (sound.founded.includes_modules n i m at inc))

          or_false : (b : Bool) → (b || false) ≡ b
          or_false true = refl
          or_false false = refl

          own : list_any test (listed_with p.above (I.module_id n ∷ []) p.included) ≡ (n == Exception.count)
          own = any-listed test p.above (I.module_id n ∷ []) p.included included_none ∙ or_false (test (I.module_id n)) ∙ test-told n

          at_super : (o : Option ℕ) → superclass_in m.kind ≡ o → above_of (ancestors_within w f) (option_map I.module_id o) ≡ Some p.above → list_any test p.above ≡ is_above (descends h.modules Exception.count) o
          at_super None e z = let y : Some [] ≡ Some p.above = z in let same : [] ≡ p.above = cc y in ap (list_any test) (sym same)
          at_super (Some s) e z = go s p.above (super_within m.kind s (module_in n m at).kind e) z

          over : list_any test p.above ≡ is_above (descends h.modules Exception.count) (superclass_at h.modules n)
          over = at_super (superclass_in m.kind) refl (ap (above_of (ancestors_within w f)) (sym (superclass-told I m.kind) ∙ sym tells.superclass) ∙ p.above_is)
              ∙ ap (is_above (descends h.modules Exception.count)) (sym (superclass_at-is h.modules n m at))

  -- ---- there is one: no way upwards is longer than there are modules

  Leads : ℕ → ℕ → Type 0
  Leads n m = (j : ℕ) × (ks : List ℕ) × LeadsTo h.modules n j × LeadsBy h.modules j ks m

  by_more : (n : ℕ) (ks : List ℕ) (m o : ℕ) → LeadsBy h.modules n ks m → LeadsTo h.modules m o → (js : List ℕ) × LeadsBy h.modules n js o
  by_more n [] m o by step = (o ∷ [], (subst (λ x. LeadsTo h.modules x o) (sym by) step, refl))
  by_more n (j ∷ ks) m o by step = let later = by_more j ks m o by.1 step in (j ∷ later.0, (by.0, later.1))

  Leads-more : (n m o : ℕ) → Leads n m → LeadsTo h.modules m o → Leads n o
  unfolding Leads
  Leads-more n m o way step = let more = by_more way.0 way.1 m o way.3 step in (way.0, more.0, way.2, more.1)

  Leads-one : (n m : ℕ) → LeadsTo h.modules n m → Leads n m
  unfolding Leads
  Leads-one n m step = (m, [], step, refl)

  Leads-none : (n : ℕ) → Leads n n → ⊥
  unfolding Leads
  Leads-none n way = sound.acyclic n way.0 way.1 (way.2, way.3)

  few : (ps : List ℕ) → Differ ps → All (λ p. p < length h.modules) ps → length ps ≤ length h.modules
  few ps differ within = pigeonhole (length ps) (length h.modules) (λ i. get_or ps i 0) (λ i lt. within i 0 lt)
      (λ i j li lj e. differ i j (get_or ps i 0) (read i li) (read j lj ∙ ap Some (sym e)))
    where
      read : (i : ℕ) → i < length ps → slice_get ps i ≡ Some (get_or ps i 0)
      read i lt = slice_get-read ps i (get_or ps i 0) lt (get_or_default ps i 0 (get_or ps i 0) lt)

  -- the modules below n on the way are ps
  defined : (f n : ℕ) (ps : List ℕ) → n < length h.modules → Differ ps → All (λ p. p < length h.modules) ps → All (λ p. Leads p n) ps → length h.modules < length ps + f →
      (line : List Id) × (ancestors_within w f (I.module_id n) ≡ Some line)
  defined zero n ps lt differ within leads more = let le = few ps differ within in absurd (omega (arith, le, more))
  defined (suc f) n ps lt differ within leads more =
      let at = record_at h.modules n lt in
      let there = agrees.modules n at.0 at.1 in
      let line = by at.0 at.1 there.0 there.2 (λ m step below. defined f m (ps ++ n ∷ []) below
      (Differ-pushed ps n differ (λ i e. Leads-none n (All-at (λ p. Leads p n) ps i n leads e)))
      (All-pushed (λ p. p < length h.modules) ps n within lt)
      (All-pushed (λ p. Leads p m) ps n (λ i d below'. Leads-more (get_or ps i d) n m (leads i d below') step) (Leads-one n m step))
      (let len = length-append ps (n ∷ []) in omega (arith, len, more))) in
      (line.0, ap (λ o. bind o (ancestors_by (ancestors_within w f) (I.module_id n))) there.1 ∙ line.1)
    where
      by : (m : Module) → slice_get h.modules n ≡ Some m → (x : told.Module) → TellsModule I m x →
          ((i : ℕ) → LeadsTo h.modules n i → i < length h.modules → (line : List Id) × (ancestors_within w f (I.module_id i) ≡ Some line)) →
          (line : List Id) × (ancestors_by (ancestors_within w f) (I.module_id n) x ≡ Some line)
      by m at x tells go = (
        listed_with super.0 (I.module_id n ∷ []) included.0 ++ super.0,
        ap (λ a. bind (above_of (ancestors_within w f) a) (λ above. bind (joined (ancestors_within w f) x.includes) (λ included. Some (listed_with above (I.module_id n ∷ []) included ++ above)))) (tells.superclass ∙ superclass-told I m.kind)
            ∙ ap (λ a. bind a (λ above. bind (joined (ancestors_within w f) x.includes) (λ included. Some (listed_with above (I.module_id n ∷ []) included ++ above)))) super.1
            ∙ ap (λ a. bind (joined (ancestors_within w f) a) (λ included. Some (listed_with super.0 (I.module_id n ∷ []) included ++ super.0))) tells.includes
            ∙ ap (λ a. bind a (λ included. Some (listed_with super.0 (I.module_id n ∷ []) included ++ super.0))) included.1,
      )
        where
          included : (all : List Id) × (joined (ancestors_within w f) (told_ids I m.includes) ≡ Some all)
          included = joined-some I (ancestors_within w f) m.includes (λ i inc. go i (m, at, inr inc) (included_within n m i at inc))

          at_super : (o : Option ℕ) → superclass_in m.kind ≡ o → (line : List Id) × (above_of (ancestors_within w f) (option_map I.module_id o) ≡ Some line)
          at_super None e = ([], refl)
          at_super (Some s) e = go s (m, at, inl (IsSuperclass-in m.kind s e)) (super_within m.kind s (module_in n m at).kind e)

          super : (line : List Id) × (above_of (ancestors_within w f) (option_map I.module_id (superclass_in m.kind)) ≡ Some line)
          super = at_super (superclass_in m.kind) refl

  pub makes_exceptions-told : (n : ℕ) → n < length h.modules → length h.modules < 2 ^ 64 → makes_exceptions w (I.module_id n) ≡ Some (descends h.modules Exception.count n)
  unfolding ancestors test
  makes_exceptions-told n lt small =
      let line = defined max_height n [] lt (λ i j x e. absurd (cc)) (All-nil (λ p. p < length h.modules)) (All-nil (λ p. Leads p n)) (omega (arith, small)) in
      ap (option_map (λ line. is_among line Exception)) line.1 ∙ ap Some (valued max_height n line.0 lt line.1)
