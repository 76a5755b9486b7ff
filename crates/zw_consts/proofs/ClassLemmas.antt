-- The line of a class is made from its last superclass down.
use Rattle.std.proofs.Common.{◌≡◌, ◌||◌, Bool, true, false, ℕ, suc, ◌<◌, ◌^◌, ◌⊎◌, inl, inr, List, [], ◌∷◌, ◌++◌, length, reverse, slice_get, Option, Some, None, IfSome, Result, Ok, Err, IfOk, nat_eq, refl, ap, sym, ◌∙◌, subst, arith}
use Rattle.std.specs.List.{All, flat_map}
use Rattle.std.specs.Option.{option_map}
use Rattle.std.proofs.lemmas.List.{map-append, reverse-append, reverse-reverse}
use Rattle.std.proofs.lemmas.List.Elements.{All-nil, All-cons}
use Rattle.std.proofs.lemmas.List.Folds.{list_any-append}
use Rattle.zw_def_world.specs.Missing.{bind}
use Rattle.zw_heap.specs.declared.value.ModuleId.{ModuleId}
use Rattle.zw_heap.specs.ModuleRecord.{Module}
use Rattle.zw_heap.specs.Heap.{Held}
use Rattle.zw_heap.specs.Reach.{LeadsTo}
use Rattle.zw_heap.specs.Superclass.{superclass_in, superclass_at}
use Rattle.zw_heap.specs.Sound.{IsSound}
use Rattle.zw_consts.specs.Ancestor.{numbers_of, includes_at, is_among, above_of, own_by, ancestors_of, superclasses_of}
use Rattle.zw_consts.specs.Line.{HaveSameMembers, HoldsIncludes}
use Rattle.zw_consts.proofs.ListLemmas.{among_reverse, among_append, among_first, among_later, among_one, flat_among}
use Rattle.zw_consts.proofs.HeightLemmas.{included_way, superclass_way, way_within, climb}
use Rattle.zw_consts.proofs.ListedLemmas.{listed_with-above, listed_with-from}
use Rattle.zw_consts.proofs.AncestorLemmas.{ancestors_of-step, superclasses_of-step, ancestors-hold, HoldsIncludes-by}

-- the line of classes, each above the one before it, over a line that is made
abbrev pub line_from : List Module → List ℕ → List ℕ → List ℕ
line_from modules above [] = above
line_from modules above (n ∷ ns) =
    let later = line_from modules above ns in
    own_by (ancestors_of modules) modules later n ++ later

pub line_from-pushed : (modules : List Module) (above ns : List ℕ) (n : ℕ) → line_from modules above (ns ++ n ∷ []) ≡ line_from modules (own_by (ancestors_of modules) modules above n ++ above) ns
line_from-pushed modules above [] n = refl
line_from-pushed modules above (m ∷ ns) n = ap (λ later. own_by (ancestors_of modules) modules later m ++ later) (line_from-pushed modules above ns n)

-- what is above in another order
own_by-above : (modules : List Module) (above other : List ℕ) (n : ℕ) → HaveSameMembers above other → own_by (ancestors_of modules) modules above n ≡ own_by (ancestors_of modules) modules other n
own_by-above modules above other n same = listed_with-above above other (n ∷ []) (flat_map (ancestors_of modules) (includes_at modules n)) same

HoldsIncludes-same : (modules : List Module) (ns ms : List ℕ) → HaveSameMembers ns ms → HoldsIncludes modules ns → HoldsIncludes modules ms
HoldsIncludes-same modules ns ms same holds v x e inc = sym (same x) ∙ holds v x (same v ∙ e) inc

-- ---- one class more

-- the line, from its last one on, and with the own line of a class behind it
module _ (modules : List Module) (line own more : List ℕ) (n : ℕ) (is_own : own ≡ own_by (ancestors_of modules) modules line n) (is_more : more ≡ line ++ reverse own) where
  turned : reverse more ≡ own ++ reverse line
  turned = ap reverse is_more ∙ reverse-append line (reverse own) ∙ ap (λ l. l ++ reverse line) (reverse-reverse own)

  pub line_from-more : (ns : List ℕ) → line_from modules (reverse more) ns ≡ line_from modules (reverse line) (ns ++ n ∷ [])
  line_from-more ns =
      ap (λ l. line_from modules l ns) (turned ∙ ap (λ l. l ++ reverse line) (is_own ∙ own_by-above modules line (reverse line) n (λ x. sym (among_reverse line x))))
      ∙ sym (line_from-pushed modules (reverse line) ns n)

  members : HaveSameMembers (own ++ line) more
  members x =
      list_any-append (nat_eq x) own line ∙ swap (is_among own x) (is_among line x)
      ∙ ap (λ b. is_among line x || b) (sym (among_reverse own x)) ∙ sym (list_any-append (nat_eq x) line (reverse own)) ∙ ap (λ l. is_among l x) (sym is_more)
    where
      swap : (a b : Bool) → (a || b) ≡ (b || a)
      swap true true = refl
      swap true false = refl
      swap false true = refl
      swap false false = refl

module _ (h : Held) (sound : IsSound h) (small : length h.modules < 2 ^ 64) where
  pub holds_more : (line own more : List ℕ) (n : ℕ) → own ≡ own_by (ancestors_of h.modules) h.modules line n → more ≡ line ++ reverse own → HoldsIncludes h.modules line → HoldsIncludes h.modules more
  holds_more line own more n is_own is_more holds = HoldsIncludes-same h.modules (own ++ line) more (members h.modules line own more n is_own is_more)
      (subst (λ l. HoldsIncludes h.modules (l ++ line)) (sym is_own) (HoldsIncludes-by h sound small line n (λ m e. ancestors-hold h sound small m (way_within h sound n m (included_way h.modules n m e))) holds))

  -- ---- over all superclasses it is the line of ancestors

  Whole : ℕ → ℕ → Type 0
  Whole k n = line_from h.modules [] (superclasses_of h.modules n) ≡ ancestors_of h.modules n

  whole_above : (k : ℕ) (o : Option ℕ) → ((m : ℕ) → o ≡ Some m → Whole k m) → line_from h.modules [] (above_of (superclasses_of h.modules) o) ≡ above_of (ancestors_of h.modules) o
  unfolding Whole
  whole_above k None each = refl
  whole_above k (Some m) each = each m refl

  whole_step : (k n : ℕ) → n < length h.modules → ((m : ℕ) → LeadsTo h.modules n m → Whole k m) → Whole (suc k) n
  unfolding Whole
  whole_step k n lt each =
      ap (line_from h.modules []) (superclasses_of-step h sound small n lt)
      ∙ ap (λ later. own_by (ancestors_of h.modules) h.modules later n ++ later) (whole_above k (superclass_at h.modules n) (λ m e. each m (superclass_way h.modules n m e)))
      ∙ sym (ancestors_of-step h sound small n lt)

  pub line_from-superclasses : (n : ℕ) → n < length h.modules → line_from h.modules [] (superclasses_of h.modules n) ≡ ancestors_of h.modules n
  unfolding Whole
  line_from-superclasses n lt = climb h sound Whole whole_step (2 ^ 64) n lt small

  -- ---- all are in the heap

  Within : ℕ → ℕ → Type 0
  Within k n = (x : ℕ) → is_among (ancestors_of h.modules n) x ≡ true → x < length h.modules

  within_step : (k n : ℕ) → n < length h.modules → ((m : ℕ) → LeadsTo h.modules n m → Within k m) → Within (suc k) n
  unfolding Within
  within_step k n lt each x e =
      by (among_append (own_by (ancestors_of h.modules) h.modules (above_of (ancestors_of h.modules) (superclass_at h.modules n)) n) (above_of (ancestors_of h.modules) (superclass_at h.modules n)) x
      (ap (λ l. is_among l x) (sym (ancestors_of-step h sound small n lt)) ∙ e))
    where
      up : (o : Option ℕ) → superclass_at h.modules n ≡ o → is_among (above_of (ancestors_of h.modules) o) x ≡ true → x < length h.modules
      up None there z = absurd (cc)
      up (Some m) there z = each m (superclass_way h.modules n m there) x z

      own : (is_among (n ∷ []) x ≡ true) ⊎ (is_among (flat_map (ancestors_of h.modules) (includes_at h.modules n)) x ≡ true) → x < length h.modules
      own (inl z) = subst (λ k. k < length h.modules) (sym (among_one n x z)) lt
      own (inr z) = let found = flat_among (ancestors_of h.modules) (includes_at h.modules n) x z in each found.0 (included_way h.modules n found.0 found.1) x found.2

      by : (is_among (own_by (ancestors_of h.modules) h.modules (above_of (ancestors_of h.modules) (superclass_at h.modules n)) n) x ≡ true) ⊎ (is_among (above_of (ancestors_of h.modules) (superclass_at h.modules n)) x ≡ true) → x < length h.modules
      by (inl z) = own (listed_with-from (above_of (ancestors_of h.modules) (superclass_at h.modules n)) (n ∷ []) (flat_map (ancestors_of h.modules) (includes_at h.modules n)) x z)
      by (inr z) = up (superclass_at h.modules n) refl z

  pub ancestors-within : (n : ℕ) → n < length h.modules → (x : ℕ) → is_among (ancestors_of h.modules n) x ≡ true → x < length h.modules
  unfolding Within
  ancestors-within n lt = climb h sound Within within_step (2 ^ 64) n lt small

-- by their numbers
pub All-numbered : (is : List ModuleId) (b : ℕ) → ((x : ℕ) → is_among (numbers_of is) x ≡ true → x < b) → All (λ i. i.0 < b) is
All-numbered [] b each = All-nil (λ (i : ModuleId). i.0 < b)
All-numbered (i ∷ is) b each = All-cons (λ (i : ModuleId). i.0 < b) i is (each i.0 (among_first i.0 (numbers_of is))) (All-numbered is b (λ x e. each x (among_later i.0 x (numbers_of is) e)))

pub All-made : {V E : Type 0} (items : V → List ModuleId) (r : Result V E) (ns : List ℕ) (b : ℕ) → IfOk r (λ v. numbers_of (items v) ≡ ns) → ((x : ℕ) → is_among ns x ≡ true → x < b) → IfOk r (λ v. All (λ i. i.0 < b) (items v))
All-made items (Ok v) ns b e each = All-numbered (items v) b (λ x there. each x (ap (λ l. is_among l x) (sym e) ∙ there))
All-made items (Err z) ns b e each = tt

pub numbers_of-pushed : (is new : List ModuleId) (i : ModuleId) (rest : List ℕ) → new ≡ is ++ i ∷ [] → numbers_of new ++ rest ≡ numbers_of is ++ i.0 ∷ rest
numbers_of-pushed is new i rest e = ap (λ l. numbers_of l ++ rest) e ∙ by is
  where
    by : (is : List ModuleId) → numbers_of (is ++ i ∷ []) ++ rest ≡ numbers_of is ++ i.0 ∷ rest
    by [] = refl
    by (j ∷ js) = ap (λ l. j.0 ∷ l) (by js)

-- what was held before the last one was taken
pub numbers_of-popped : (old new : List ModuleId) (i : ModuleId) → old ≡ new ++ i ∷ [] → numbers_of new ++ i.0 ∷ [] ≡ numbers_of old
numbers_of-popped old new i e = sym (ap numbers_of e ∙ map-append (λ (i : ModuleId). i.0) new (i ∷ []))

pub IfSome-below : (o : Option ModuleId) (a b : ℕ) → IfSome o (λ m. m.0 < a) → a < b → IfSome o (λ m. m.0 < b)
IfSome-below None a b h lt = tt
IfSome-below (Some m) a b h lt = let below : m.0 < a = h in omega (arith, below, lt)

-- ---- a step upwards

module _ (h : Held) (sound : IsSound h) (small : length h.modules < 2 ^ 64) where
  pub superclasses-next : (n : ℕ) (s : Option ModuleId) → n < length h.modules → option_map (λ (m : Module). superclass_in m.kind) (slice_get h.modules n) ≡ Some (option_map (λ (m : ModuleId). m.0) s) →
      superclasses_of h.modules n ≡ n ∷ above_of (superclasses_of h.modules) (option_map (λ (m : ModuleId). m.0) s)
  superclasses-next n s lt e = superclasses_of-step h sound small n lt ∙ ap (λ o. n ∷ above_of (superclasses_of h.modules) o) (by (slice_get h.modules n) refl e)
    where
      by : (o : Option Module) → slice_get h.modules n ≡ o → option_map (λ (m : Module). superclass_in m.kind) o ≡ Some (option_map (λ (m : ModuleId). m.0) s) → superclass_at h.modules n ≡ option_map (λ (m : ModuleId). m.0) s
      by None there z = absurd (cc)
      by (Some x) there z = ap (λ o. bind o (λ (m : Module). superclass_in m.kind)) there ∙ cc

  -- ---- superclasses are in the heap

  AllHeld : ℕ → ℕ → Type 0
  AllHeld k n = All (λ m. m < length h.modules) (superclasses_of h.modules n)

  held_above : (k : ℕ) (o : Option ℕ) → ((m : ℕ) → o ≡ Some m → AllHeld k m) → All (λ m. m < length h.modules) (above_of (superclasses_of h.modules) o)
  unfolding AllHeld
  held_above k None each = All-nil (λ m. m < length h.modules)
  held_above k (Some m) each = each m refl

  held_step : (k n : ℕ) → n < length h.modules → ((m : ℕ) → LeadsTo h.modules n m → AllHeld k m) → AllHeld (suc k) n
  unfolding AllHeld
  held_step k n lt each = subst (All (λ m. m < length h.modules)) (sym (superclasses_of-step h sound small n lt))
      (All-cons (λ m. m < length h.modules) n (above_of (superclasses_of h.modules) (superclass_at h.modules n)) lt (held_above k (superclass_at h.modules n) (λ m e. each m (superclass_way h.modules n m e))))

  pub superclasses-held : (n : ℕ) → n < length h.modules → All (λ m. m < length h.modules) (superclasses_of h.modules n)
  unfolding AllHeld
  superclasses-held n lt = climb h sound AllHeld held_step (2 ^ 64) n lt small

  -- ---- and so are ancestors

  All-among : (P : ℕ → Type 0) (ns : List ℕ) → ((x : ℕ) → is_among ns x ≡ true → P x) → All P ns
  All-among P [] each = All-nil P
  All-among P (n ∷ ns) each = All-cons P n ns (each n (among_first n ns)) (All-among P ns (λ x e. each x (among_later n x ns e)))

  pub ancestors-held : (n : ℕ) → n < length h.modules → All (λ m. m < length h.modules) (ancestors_of h.modules n)
  ancestors-held n lt = All-among (λ m. m < length h.modules) (ancestors_of h.modules n) (ancestors-within h sound small n lt)
