-- No way upwards is longer than there are modules: what is told of all that a module leads to is told of it.
use Rattle.std.proofs.Common.{◌≡◌, true, ℕ, zero, suc, ◌+◌, ◌<◌, ◌≤◌, ◌⊎◌, inl, inr, List, [], ◌∷◌, ◌++◌, length, get_or, slice_get, Option, Some, None, refl, ap, sym, ◌∙◌, subst, arith}
use Rattle.std.specs.List.{All}
use Rattle.std.specs.Option.{option_map_or}
use Rattle.std.proofs.lemmas.List.{length-append, get_or_default}
use Rattle.std.proofs.lemmas.List.Elements.{All-nil}
use Rattle.std.proofs.lemmas.Option.{slice_get_read}
use Rattle.indexmap.proofs.IndexTableLemmas.Probe.{pigeonhole}
use Rattle.zw_def_world.specs.Missing.{bind}
use Rattle.zw_heap.specs.declared.value.ModuleId.{ModuleId}
use Rattle.zw_heap.specs.declared.value.ModuleKind.{ModuleKind}
use Rattle.zw_heap.specs.declared.value.ModuleKind.TheVariants as k
use Rattle.zw_heap.specs.ModuleRecord.{Module}
use Rattle.zw_heap.specs.Heap.{Held, sizes_of}
use Rattle.zw_heap.specs.Reach.{IsSuperclass, IsIncluded, LeadsTo, LeadsBy}
use Rattle.zw_heap.specs.Superclass.{superclass_in, superclass_at}
use Rattle.zw_heap.specs.Sound.{KindIn, ModuleIn, Differ, IsSound}
use Rattle.zw_consts.specs.Ancestor.{numbers_of, includes_at, is_among}
use Rattle.zw_consts.proofs.ListLemmas.{among_cons, All-at, All-pushed, Differ-pushed}

-- ---- ways by the numbers

pub among_included : (is : List ModuleId) (m : ℕ) → is_among (numbers_of is) m ≡ true → IsIncluded is m
among_included [] m e = absurd (cc)
among_included (i ∷ is) m e = by (among_cons i.0 m (numbers_of is) e) (among_included is m)
  where
    by : (m ≡ i.0) ⊎ (is_among (numbers_of is) m ≡ true) → (is_among (numbers_of is) m ≡ true → IsIncluded is m) → IsIncluded (i ∷ is) m
    by (inl z) later = (0, i, refl, sym z)
    by (inr z) later = let found = later z in (suc found.0, found.1, found.2, found.3)

IsSuperclass-in : (kd : ModuleKind) (m : ℕ) → superclass_in kd ≡ Some m → IsSuperclass kd m
IsSuperclass-in k.Module m e = absurd (cc)
IsSuperclass-in (k.Class None) m e = absurd (cc)
IsSuperclass-in (k.Class (Some s)) m e = let z : Some s.0 ≡ Some m = e in cc z

module _ (ms : List Module) where
  pub included_way : (n m : ℕ) → is_among (includes_at ms n) m ≡ true → LeadsTo ms n m
  included_way n m e = by (slice_get ms n) refl e
    where
      by : (o : Option Module) → slice_get ms n ≡ o → is_among (option_map_or (λ (x : Module). numbers_of x.includes) o []) m ≡ true → LeadsTo ms n m
      by None at z = absurd (cc)
      by (Some x) at z = (x, at, inr (among_included x.includes m z))

  pub superclass_way : (n m : ℕ) → superclass_at ms n ≡ Some m → LeadsTo ms n m
  superclass_way n m e = by (slice_get ms n) refl e
    where
      by : (o : Option Module) → slice_get ms n ≡ o → bind o (λ (x : Module). superclass_in x.kind) ≡ Some m → LeadsTo ms n m
      by None at z = absurd (cc)
      by (Some x) at z = (x, at, inl (IsSuperclass-in x.kind m z))

-- ---- ways of one step or more

abbrev pub Leads : List Module → ℕ → ℕ → Type 0
Leads ms n m = (j : ℕ) × (ks : List ℕ) × LeadsTo ms n j × LeadsBy ms j ks m

module _ (ms : List Module) where
  by_more : (n : ℕ) (ks : List ℕ) (m o : ℕ) → LeadsBy ms n ks m → LeadsTo ms m o → (js : List ℕ) × LeadsBy ms n js o
  by_more n [] m o by step = (o ∷ [], (subst (λ x. LeadsTo ms x o) (sym by) step, refl))
  by_more n (j ∷ ks) m o by step = let later = by_more j ks m o by.1 step in (j ∷ later.0, (by.0, later.1))

  pub Leads-more : (n m o : ℕ) → Leads ms n m → LeadsTo ms m o → Leads ms n o
  Leads-more n m o way step = let more = by_more way.0 way.1 m o way.3 step in (way.0, more.0, way.2, more.1)

  pub Leads-one : (n m : ℕ) → LeadsTo ms n m → Leads ms n m
  Leads-one n m step = (m, [], step, refl)

-- ---- heaps

module _ (h : Held) (sound : IsSound h) where
  module_in : (n : ℕ) (m : Module) → slice_get h.modules n ≡ Some m → ModuleIn (sizes_of h) m
  module_in n m at = All-at (ModuleIn (sizes_of h)) h.modules n m sound.within.modules_in at

  super_within : (kd : ModuleKind) (s : ℕ) → KindIn (sizes_of h) kd → IsSuperclass kd s → s < length h.modules
  super_within k.Module s known e = absurd e
  super_within (k.Class None) s known e = absurd e
  super_within (k.Class (Some m)) s known e = subst (λ x. x < length h.modules) e known

  pub way_within : (n m : ℕ) → LeadsTo h.modules n m → m < length h.modules
  way_within n m way = by way.2
    where
      by : IsSuperclass way.0.kind m ⊎ IsIncluded way.0.includes m → m < length h.modules
      by (inl super) = super_within way.0.kind m (module_in n way.0 way.1).kind super
      by (inr inc) = subst (λ x. x < length h.modules) inc.3 (All-at (λ (j : ModuleId). j.0 < length h.modules) way.0.includes inc.0 inc.1 (module_in n way.0 way.1).includes inc.2)

  -- no module leads to itself
  pub Leads-none : (n : ℕ) → Leads h.modules n n → ⊥
  Leads-none n way = sound.acyclic n way.0 way.1 (way.2, way.3)

  few : (ps : List ℕ) → Differ ps → All (λ p. p < length h.modules) ps → length ps ≤ length h.modules
  few ps differ within = pigeonhole (length ps) (length h.modules) (λ i. get_or ps i 0) (λ i lt. within i 0 lt)
      (λ i j li lj e. differ i j (get_or ps i 0) (read i li) (read j lj ∙ ap Some (sym e)))
    where
      read : (i : ℕ) → i < length ps → slice_get ps i ≡ Some (get_or ps i 0)
      read i lt = slice_get_read ps (length ps) i (get_or ps i 0) refl lt (get_or_default ps i 0 (get_or ps i 0) lt)

  module _ (P : ℕ → ℕ → Type 0) (step : (k n : ℕ) → n < length h.modules → ((m : ℕ) → LeadsTo h.modules n m → P k m) → P (suc k) n) where
    -- the modules below n on the way are ps
    climbed : (k n : ℕ) (ps : List ℕ) → n < length h.modules → Differ ps → All (λ p. p < length h.modules) ps → All (λ p. Leads h.modules p n) ps → length h.modules < length ps + k → P k n
    climbed zero n ps lt differ within leads more = let le = few ps differ within in absurd (omega (arith, le, more))
    climbed (suc k) n ps lt differ within leads more = step k n lt (λ m way.
        climbed k m (ps ++ n ∷ []) (way_within n m way)
        (Differ-pushed ps n differ (λ i e. Leads-none n (All-at (λ p. Leads h.modules p n) ps i n leads e)))
        (All-pushed (λ p. p < length h.modules) ps n within lt)
        (All-pushed (λ p. Leads h.modules p m) ps n (λ i d below. Leads-more h.modules (get_or ps i d) n m (leads i d below) way) (Leads-one h.modules n m way))
        (let len = length-append ps (n ∷ []) in omega (arith, len, more)))

    -- what all that it leads to pass on, from a height that is greater than the number of modules
    pub climb : (k n : ℕ) → n < length h.modules → length h.modules < k → P k n
    climb k n lt small = climbed k n [] lt (λ i j x e. absurd (cc)) (All-nil (λ p. p < length h.modules)) (All-nil (λ p. Leads h.modules p n)) (omega (arith, small))

  -- ---- what is told by heights

  module _ {A : Type 0} (W : ℕ → ℕ → A) (next : (ℕ → A) → ℕ → A) (is_next : (k n : ℕ) → W (suc k) n ≡ next (W k) n)
      (looks : (up down : ℕ → A) (n : ℕ) → ((m : ℕ) → LeadsTo h.modules n m → up m ≡ down m) → next up n ≡ next down n) where
    Same : ℕ → ℕ → Type 0
    Same k n = (f g : ℕ) → k ≤ f → k ≤ g → W f n ≡ W g n

    same_step : (k n : ℕ) → n < length h.modules → ((m : ℕ) → LeadsTo h.modules n m → Same k m) → Same (suc k) n
    unfolding Same
    same_step k n lt later zero g lf lg = absurd (omega (arith, lf))
    same_step k n lt later (suc f) zero lf lg = absurd (omega (arith, lg))
    same_step k n lt later (suc f) (suc g) lf lg =
        is_next f n ∙ looks (W f) (W g) n (λ m way. later m way f g (omega (arith, lf)) (omega (arith, lg))) ∙ sym (is_next g n)

    -- from a height that is greater than the number of modules
    pub settled : (k n : ℕ) → n < length h.modules → length h.modules < k → W k n ≡ next (W k) n
    unfolding Same
    settled k n lt small = climb Same same_step k n lt small k (suc k) (omega arith) (omega arith) ∙ is_next k n
