-- What is listed while the modules that wait are visited: what they lead to is listed, above, or waits.
use Rattle.std.proofs.Common.{◌≡◌, true, false, ℕ, zero, suc, ◌+◌, ◌<◌, ◌^◌, ◌⊎◌, inl, inr, List, [], ◌∷◌, ◌++◌, cond, length, reverse, slice_get, Option, Some, None, refl, ap, sym, ◌∙◌, subst, arith}
use Rattle.std.specs.List.{flat_map}
use Rattle.std.specs.Option.{option_map, option_map_or}
use Rattle.std.proofs.lemmas.List.{append-nil, map-append, reverse-append, reverse-reverse}
use Rattle.zw_lemmas.proofs.ListLemmas.{reverse-map}
use Rattle.zw_def_world.specs.Ancestor.{max_height}
use Rattle.zw_heap.specs.declared.value.ModuleId.{ModuleId}
use Rattle.zw_heap.specs.ModuleRecord.{Module}
use Rattle.zw_heap.specs.Heap.{Held}
use Rattle.zw_heap.specs.Reach.{LeadsTo}
use Rattle.zw_heap.specs.Superclass.{superclass_at}
use Rattle.zw_heap.specs.Sound.{IsSound}
use Rattle.zw_consts.specs.Ancestor.{numbers_of, includes_at, is_among, listed_with, own_by, ancestors_of}
use Rattle.zw_consts.specs.Line.{HoldsIncludes}
use Rattle.zw_consts.proofs.ListLemmas.{or_left, or_right, or_cases, among_first, among_later, among_one, among_left, among_right, among_append, flat_map-append}
use Rattle.zw_consts.proofs.HeightLemmas.{Leads, Leads-more, Leads-one, Leads-none, included_way, way_within, settled}
use Rattle.zw_consts.proofs.ListedLemmas.{has, has-more, listed_with-append, listed_with-skip, listed_with-inner, listed_with-from}
use Rattle.zw_consts.proofs.AncestorLemmas.{included_plain, plain_ancestors}

-- ---- what is left to do

-- the first ones that wait, to all of which v leads, bring what v includes, where it is not there
pub record Opened (modules : List Module) (above own stack : List ℕ) (v : ℕ) : Type 0 where
  pub front : List ℕ
  pub rest : List ℕ
  pub parts : stack ≡ front ++ rest
  pub led : (s : ℕ) → is_among front s ≡ true → Leads modules v s
  pub covers : (x : ℕ) → is_among (flat_map (ancestors_of modules) (includes_at modules v)) x ≡ true
      → (has above own x ≡ true) ⊎ (is_among (flat_map (ancestors_of modules) front) x ≡ true)

pub record Goes (modules : List Module) (above : List ℕ) (n : ℕ) (own stack : List ℕ) : Type 0 where
  pub whole : listed_with above own (flat_map (ancestors_of modules) stack) ≡ own_by (ancestors_of modules) modules above n
  pub opened : (v : ℕ) → has above own v ≡ true → Opened modules above own stack v
  pub within : (s : ℕ) → is_among stack s ≡ true → s < length modules
  pub plain : (s : ℕ) → is_among stack s ≡ true → superclass_at modules s ≡ None

-- ---- weights

abbrev pub total : (ℕ → ℕ) → List ℕ → ℕ
total w [] = 0
total w (n ∷ ns) = w n + total w ns

abbrev pub weight_by : (ℕ → ℕ) → List Module → ℕ → ℕ
weight_by w modules n = suc (total w (includes_at modules n))

abbrev pub weight_within : List Module → ℕ → ℕ → ℕ
weight_within modules zero n = 0
weight_within modules (suc k) n = weight_by (weight_within modules k) modules n

-- how many ways lead from a module by includes
unfoldable pub weight : List Module → ℕ → ℕ
weight modules n = weight_within modules max_height n

total-same : (w v : ℕ → ℕ) (ns : List ℕ) → ((n : ℕ) → is_among ns n ≡ true → w n ≡ v n) → total w ns ≡ total v ns
total-same w v [] same = refl
total-same w v (n ∷ ns) same = λ i. same n (among_first n ns) i + total-same w v ns (λ m e. same m (among_later n m ns e)) i

total-append : (w : ℕ → ℕ) (ms ns : List ℕ) → total w (ms ++ ns) ≡ total w ms + total w ns
total-append w [] ns = omega arith
total-append w (m ∷ ms) ns = let later = total-append w ms ns in omega (arith, later)

-- ---- those that wait, the first one first

abbrev pub stack_of : List ModuleId → List ℕ
stack_of waiting = reverse (numbers_of waiting)

pub stack_of-popped : (old new : List ModuleId) (i : ModuleId) → old ≡ new ++ i ∷ [] → stack_of old ≡ i.0 ∷ stack_of new
stack_of-popped old new i e = ap stack_of e ∙ ap reverse (map-append (λ (i : ModuleId). i.0) new (i ∷ [])) ∙ reverse-append (numbers_of new) (i.0 ∷ [])

pub stack_of-put : (old new is : List ModuleId) → new ≡ old ++ reverse is → stack_of new ≡ numbers_of is ++ stack_of old
stack_of-put old new is e =
    ap stack_of e ∙ ap reverse (map-append (λ (i : ModuleId). i.0) old (reverse is)) ∙ reverse-append (numbers_of old) (numbers_of (reverse is))
    ∙ ap (λ l. l ++ stack_of old) (reverse-map (λ (i : ModuleId). i.0) (reverse is) ∙ ap numbers_of (reverse-reverse is))

pub includes_at-is : (modules : List Module) (n : ℕ) (is : List ModuleId) → option_map (λ (m : Module). m.includes) (slice_get modules n) ≡ Some is → includes_at modules n ≡ numbers_of is
includes_at-is modules n is e = by (slice_get modules n) e
  where
    by : (o : Option Module) → option_map (λ (m : Module). m.includes) o ≡ Some is → option_map_or (λ (m : Module). numbers_of m.includes) o [] ≡ numbers_of is
    by None z = absurd (cc)
    by (Some m) z = let same : m.includes ≡ is = cc in ap numbers_of same

pub stack_of-entered : (modules : List Module) (n : ℕ) (old new is : List ModuleId) → new ≡ old ++ reverse is → option_map (λ (m : Module). m.includes) (slice_get modules n) ≡ Some is → stack_of new ≡ includes_at modules n ++ stack_of old
stack_of-entered modules n old new is put read = stack_of-put old new is put ∙ ap (λ l. l ++ stack_of old) (sym (includes_at-is modules n is read))

pub stack_of-begun : (modules : List Module) (n : ℕ) (old new is : List ModuleId) → old ≡ [] → new ≡ old ++ reverse is → option_map (λ (m : Module). m.includes) (slice_get modules n) ≡ Some is → stack_of new ≡ includes_at modules n
stack_of-begun modules n old new is none put read = stack_of-entered modules n old new is put read ∙ ap (λ l. includes_at modules n ++ stack_of l) none ∙ append-nil (includes_at modules n)

-- ---- steps

module _ (h : Held) (sound : IsSound h) (small : length h.modules < 2 ^ 64) (above : List ℕ) (n : ℕ) where
  -- all in a module's line is the module, or comes from what it includes
  from_module : (s x : ℕ) → s < length h.modules → superclass_at h.modules s ≡ None → is_among (ancestors_of h.modules s) x ≡ true →
      (x ≡ s) ⊎ (is_among (flat_map (ancestors_of h.modules) (includes_at h.modules s)) x ≡ true)
  from_module s x lt plain e = by (listed_with-from [] (s ∷ []) (flat_map (ancestors_of h.modules) (includes_at h.modules s)) x (ap (λ l. is_among l x) (sym (plain_ancestors h sound small s lt plain)) ∙ e))
    where
      by : (is_among (s ∷ []) x ≡ true) ⊎ (is_among (flat_map (ancestors_of h.modules) (includes_at h.modules s)) x ≡ true) → (x ≡ s) ⊎ (is_among (flat_map (ancestors_of h.modules) (includes_at h.modules s)) x ≡ true)
      by (inl z) = inl (among_one s x z)
      by (inr z) = inr z

  pub goes_begun : HoldsIncludes h.modules above → Goes h.modules above n (n ∷ []) (includes_at h.modules n)
  goes_begun holds = record {
    whole = refl;
    opened = λ v e. by v (or_cases (is_among (n ∷ []) v) (is_among above v) e);
    within = λ s e. way_within h sound n s (included_way h.modules n s e);
    plain = λ s e. included_plain h sound small n s e;
  }
    where
      by : (v : ℕ) → (is_among (n ∷ []) v ≡ true) ⊎ (is_among above v ≡ true) → Opened h.modules above (n ∷ []) (includes_at h.modules n) v
      by v (inl z) = record {
        front = includes_at h.modules n;
        rest = [];
        parts = sym (append-nil (includes_at h.modules n));
        led = λ s e. subst (λ k. Leads h.modules k s) (sym (among_one n v z)) (Leads-one h.modules n s (included_way h.modules n s e));
        covers = λ x e. inr (ap (λ k. is_among (flat_map (ancestors_of h.modules) (includes_at h.modules k)) x) (sym (among_one n v z)) ∙ e);
      }
      by v (inr z) = record {
        front = [];
        rest = includes_at h.modules n;
        parts = refl;
        led = λ s e. absurd (cc);
        covers = λ x e. inl (or_right (is_among (n ∷ []) x) (is_among above x) (holds v x z e));
      }

  -- one that is listed or above is passed over
  pub goes_passed : (own stack : List ℕ) (s : ℕ) → Goes h.modules above n own (s ∷ stack) → has above own s ≡ true → Goes h.modules above n own stack
  goes_passed own stack s goes there = record {
    whole = ap (λ l. listed_with above l (flat_map (ancestors_of h.modules) stack)) (sym (listed_with-skip above own (ancestors_of h.modules s) (λ x e. covered x (from_module s x within plain e))))
        ∙ sym (listed_with-append above own (ancestors_of h.modules s) (flat_map (ancestors_of h.modules) stack)) ∙ goes.whole;
    opened = λ v e. by v (goes.opened v e);
    within = λ t e. goes.within t (among_later s t stack e);
    plain = λ t e. goes.plain t (among_later s t stack e);
  }
    where
      within : s < length h.modules
      within = goes.within s (among_first s stack)

      plain : superclass_at h.modules s ≡ None
      plain = goes.plain s (among_first s stack)

      -- it waits no more: nothing that it leads to is first
      closed : (front rest : List ℕ) → s ∷ stack ≡ front ++ rest → ((t : ℕ) → is_among front t ≡ true → Leads h.modules s t) → (x : ℕ) → (has above own x ≡ true) ⊎ (is_among (flat_map (ancestors_of h.modules) front) x ≡ true) → has above own x ≡ true
      closed [] rest parts led x (inl z) = z
      closed [] rest parts led x (inr z) = absurd (cc)
      closed (t ∷ front) rest parts led x c = let first : s ≡ t = cc in absurd (Leads-none h sound s (subst (Leads h.modules s) (sym first) (led t (among_first t front))))

      covered : (x : ℕ) → (x ≡ s) ⊎ (is_among (flat_map (ancestors_of h.modules) (includes_at h.modules s)) x ≡ true) → has above own x ≡ true
      covered x (inl z) = ap (has above own) z ∙ there
      covered x (inr z) = let o = goes.opened s there in closed o.front o.rest o.parts o.led x (o.covers x z)

      by : (v : ℕ) → Opened h.modules above own (s ∷ stack) v → Opened h.modules above own stack v
      by v o = at o.front o.rest o.parts o.led o.covers
        where
          at : (front rest : List ℕ) → s ∷ stack ≡ front ++ rest → ((t : ℕ) → is_among front t ≡ true → Leads h.modules v t) →
              ((x : ℕ) → is_among (flat_map (ancestors_of h.modules) (includes_at h.modules v)) x ≡ true → (has above own x ≡ true) ⊎ (is_among (flat_map (ancestors_of h.modules) front) x ≡ true)) → Opened h.modules above own stack v
          at [] rest parts led covers = record { front = []; rest = stack; parts = refl; led = λ t e. absurd (cc); covers = covers }
          at (t ∷ front) rest parts led covers = record {
            front = front;
            rest = rest;
            parts = cc;
            led = λ u e. led u (among_later t u front e);
            covers = λ x e. less x (covers x e);
          }
            where
              less : (x : ℕ) → (has above own x ≡ true) ⊎ (is_among (flat_map (ancestors_of h.modules) (t ∷ front)) x ≡ true) → (has above own x ≡ true) ⊎ (is_among (flat_map (ancestors_of h.modules) front) x ≡ true)
              less x (inl z) = inl z
              less x (inr z) = first (among_append (ancestors_of h.modules t) (flat_map (ancestors_of h.modules) front) x z)
                where
                  first : (is_among (ancestors_of h.modules t) x ≡ true) ⊎ (is_among (flat_map (ancestors_of h.modules) front) x ≡ true) → (has above own x ≡ true) ⊎ (is_among (flat_map (ancestors_of h.modules) front) x ≡ true)
                  first (inl y) = let same : s ≡ t = cc in inl (covered x (from_module s x within plain (ap (λ k. is_among (ancestors_of h.modules k) x) same ∙ y)))
                  first (inr y) = inr y

  -- one that is not there is listed, and what it includes waits
  pub goes_entered : (own stack : List ℕ) (s : ℕ) → Goes h.modules above n own (s ∷ stack) → has above own s ≡ false → Goes h.modules above n (own ++ s ∷ []) (includes_at h.modules s ++ stack)
  goes_entered own stack s goes absent = record {
    whole = ap (listed_with above (own ++ s ∷ [])) (flat_map-append (ancestors_of h.modules) (includes_at h.modules s) stack)
        ∙ listed_with-append above (own ++ s ∷ []) (flat_map (ancestors_of h.modules) (includes_at h.modules s)) (flat_map (ancestors_of h.modules) stack)
        ∙ ap (λ l. listed_with above l (flat_map (ancestors_of h.modules) stack)) (sym first)
        ∙ sym (listed_with-append above own (ancestors_of h.modules s) (flat_map (ancestors_of h.modules) stack)) ∙ goes.whole;
    opened = λ v e. by v (or_cases (is_among (own ++ s ∷ []) v) (is_among above v) e);
    within = λ t e. in_range t (among_append (includes_at h.modules s) stack t e);
    plain = λ t e. no_class t (among_append (includes_at h.modules s) stack t e);
  }
    where
      within : s < length h.modules
      within = goes.within s (among_first s stack)

      plain : superclass_at h.modules s ≡ None
      plain = goes.plain s (among_first s stack)

      in_range : (t : ℕ) → (is_among (includes_at h.modules s) t ≡ true) ⊎ (is_among stack t ≡ true) → t < length h.modules
      in_range t (inl z) = way_within h sound s t (included_way h.modules s t z)
      in_range t (inr z) = goes.within t (among_later s t stack z)

      no_class : (t : ℕ) → (is_among (includes_at h.modules s) t ≡ true) ⊎ (is_among stack t ≡ true) → superclass_at h.modules t ≡ None
      no_class t (inl z) = included_plain h sound small s t z
      no_class t (inr z) = goes.plain t (among_later s t stack z)

      first : listed_with above own (ancestors_of h.modules s) ≡ listed_with above (own ++ s ∷ []) (flat_map (ancestors_of h.modules) (includes_at h.modules s))
      first = ap (listed_with above own) (plain_ancestors h sound small s within plain)
          ∙ listed_with-inner above own (s ∷ []) (flat_map (ancestors_of h.modules) (includes_at h.modules s))
          ∙ ap (λ b. listed_with above (cond b own (own ++ s ∷ [])) (flat_map (ancestors_of h.modules) (includes_at h.modules s))) absent

      more : (x : ℕ) → has above own x ≡ true → has above (own ++ s ∷ []) x ≡ true
      more x e = has-more above own (own ++ s ∷ []) x (among_left own (s ∷ []) x) e

      itself : has above (own ++ s ∷ []) s ≡ true
      itself = or_left (is_among (own ++ s ∷ []) s) (is_among above s) (among_right own (s ∷ []) s (among_first s []))

      old : (v : ℕ) → Opened h.modules above own (s ∷ stack) v → Opened h.modules above (own ++ s ∷ []) (includes_at h.modules s ++ stack) v
      old v o = at o.front o.rest o.parts o.led o.covers
        where
          at : (front rest : List ℕ) → s ∷ stack ≡ front ++ rest → ((t : ℕ) → is_among front t ≡ true → Leads h.modules v t) →
              ((x : ℕ) → is_among (flat_map (ancestors_of h.modules) (includes_at h.modules v)) x ≡ true → (has above own x ≡ true) ⊎ (is_among (flat_map (ancestors_of h.modules) front) x ≡ true)) → Opened h.modules above (own ++ s ∷ []) (includes_at h.modules s ++ stack) v
          at [] rest parts led covers = record { front = []; rest = includes_at h.modules s ++ stack; parts = refl; led = λ t e. absurd (cc); covers = λ x e. kept x (covers x e) }
            where
              kept : (x : ℕ) → (has above own x ≡ true) ⊎ (false ≡ true) → (has above (own ++ s ∷ []) x ≡ true) ⊎ (false ≡ true)
              kept x (inl z) = inl (more x z)
              kept x (inr z) = inr z
          at (t ∷ front) rest parts led covers = record {
            front = includes_at h.modules s ++ front;
            rest = rest;
            parts = ap (λ l. includes_at h.modules s ++ l) behind ∙ assoc (includes_at h.modules s) front rest;
            led = λ u e. ways u (among_append (includes_at h.modules s) front u e);
            covers = λ x e. found x (covers x e);
          }
            where
              same : s ≡ t
              same = cc

              behind : stack ≡ front ++ rest
              behind = cc

              assoc : (xs ys zs : List ℕ) → xs ++ (ys ++ zs) ≡ (xs ++ ys) ++ zs
              assoc [] ys zs = refl
              assoc (x ∷ xs) ys zs = ap (λ l. x ∷ l) (assoc xs ys zs)

              to_it : Leads h.modules v s
              to_it = subst (Leads h.modules v) (sym same) (led t (among_first t front))

              ways : (u : ℕ) → (is_among (includes_at h.modules s) u ≡ true) ⊎ (is_among front u ≡ true) → Leads h.modules v u
              ways u (inl z) = Leads-more h.modules v s u to_it (included_way h.modules s u z)
              ways u (inr z) = led u (among_later t u front z)

              both : (x : ℕ) → (is_among (flat_map (ancestors_of h.modules) (includes_at h.modules s)) x ≡ true) ⊎ (is_among (flat_map (ancestors_of h.modules) front) x ≡ true) → is_among (flat_map (ancestors_of h.modules) (includes_at h.modules s ++ front)) x ≡ true
              both x (inl z) = ap (λ l. is_among l x) (flat_map-append (ancestors_of h.modules) (includes_at h.modules s) front) ∙ among_left (flat_map (ancestors_of h.modules) (includes_at h.modules s)) (flat_map (ancestors_of h.modules) front) x z
              both x (inr z) = ap (λ l. is_among l x) (flat_map-append (ancestors_of h.modules) (includes_at h.modules s) front) ∙ among_right (flat_map (ancestors_of h.modules) (includes_at h.modules s)) (flat_map (ancestors_of h.modules) front) x z

              of_it : (x : ℕ) → (x ≡ s) ⊎ (is_among (flat_map (ancestors_of h.modules) (includes_at h.modules s)) x ≡ true) → (has above (own ++ s ∷ []) x ≡ true) ⊎ (is_among (flat_map (ancestors_of h.modules) (includes_at h.modules s ++ front)) x ≡ true)
              of_it x (inl z) = inl (ap (has above (own ++ s ∷ [])) z ∙ itself)
              of_it x (inr z) = inr (both x (inl z))

              parted : (x : ℕ) → (is_among (ancestors_of h.modules t) x ≡ true) ⊎ (is_among (flat_map (ancestors_of h.modules) front) x ≡ true) → (has above (own ++ s ∷ []) x ≡ true) ⊎ (is_among (flat_map (ancestors_of h.modules) (includes_at h.modules s ++ front)) x ≡ true)
              parted x (inl z) = of_it x (from_module s x within plain (ap (λ k. is_among (ancestors_of h.modules k) x) same ∙ z))
              parted x (inr z) = inr (both x (inr z))

              found : (x : ℕ) → (has above own x ≡ true) ⊎ (is_among (flat_map (ancestors_of h.modules) (t ∷ front)) x ≡ true) → (has above (own ++ s ∷ []) x ≡ true) ⊎ (is_among (flat_map (ancestors_of h.modules) (includes_at h.modules s ++ front)) x ≡ true)
              found x (inl z) = inl (more x z)
              found x (inr z) = parted x (among_append (ancestors_of h.modules t) (flat_map (ancestors_of h.modules) front) x z)

      new : (v : ℕ) → v ≡ s → Opened h.modules above (own ++ s ∷ []) (includes_at h.modules s ++ stack) v
      new v e = record {
        front = includes_at h.modules s;
        rest = stack;
        parts = refl;
        led = λ t z. subst (λ k. Leads h.modules k t) (sym e) (Leads-one h.modules s t (included_way h.modules s t z));
        covers = λ x z. inr (ap (λ k. is_among (flat_map (ancestors_of h.modules) (includes_at h.modules k)) x) (sym e) ∙ z);
      }

      by : (v : ℕ) → (is_among (own ++ s ∷ []) v ≡ true) ⊎ (is_among above v ≡ true) → Opened h.modules above (own ++ s ∷ []) (includes_at h.modules s ++ stack) v
      by v (inr z) = old v (goes.opened v (or_right (is_among own v) (is_among above v) z))
      by v (inl z) = at (among_append own (s ∷ []) v z)
        where
          at : (is_among own v ≡ true) ⊎ (is_among (s ∷ []) v ≡ true) → Opened h.modules above (own ++ s ∷ []) (includes_at h.modules s ++ stack) v
          at (inl y) = old v (goes.opened v (or_left (is_among own v) (is_among above v) y))
          at (inr y) = new v (among_one s v y)

-- ---- each step has less to do

module _ (h : Held) (sound : IsSound h) (small : length h.modules < 2 ^ 64) where
  weight_looks : (up down : ℕ → ℕ) (n : ℕ) → ((m : ℕ) → LeadsTo h.modules n m → up m ≡ down m) → weight_by up h.modules n ≡ weight_by down h.modules n
  weight_looks up down n same = ap suc (total-same up down (includes_at h.modules n) (λ m e. same m (included_way h.modules n m e)))

  weight-step : (n : ℕ) → n < length h.modules → weight h.modules n ≡ weight_by (weight h.modules) h.modules n
  unfolding weight
  weight-step n lt = settled h sound (weight_within h.modules) (λ w n. weight_by w h.modules n) (λ k n. refl) weight_looks max_height n lt small

  pub less_passed : (stack : List ℕ) (s : ℕ) → s < length h.modules → total (weight h.modules) stack < total (weight h.modules) (s ∷ stack)
  less_passed stack s lt = let e = weight-step s lt in omega (arith, e)

  pub less_entered : (stack : List ℕ) (s : ℕ) → s < length h.modules → total (weight h.modules) (includes_at h.modules s ++ stack) < total (weight h.modules) (s ∷ stack)
  less_entered stack s lt =
      let e = weight-step s lt in
      let parts = total-append (weight h.modules) (includes_at h.modules s) stack in
      omega (arith, e, parts)
