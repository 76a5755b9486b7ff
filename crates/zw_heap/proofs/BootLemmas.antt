-- Places that are added, and what stands when boot's records are frozen and copied.
use Rattle.std.proofs.Common.{◌≡◌, true, ℕ, zero, suc, ◌+◌, ◌<◌, ◌≤◌, ◌⊎◌, inl, inr, List, [], ◌∷◌, ◌++◌, length, get_or, slice_get, Option, Some, None, refl, ap, sym, ◌∙◌, subst, arith, map, take}
use Rattle.std.specs.Option.{option_map, option_map_or}
use Rattle.std.specs.List.{All}
use Rattle.std.proofs.lemmas.Bool.{cases_lt}
use Rattle.std.proofs.lemmas.List.{length-append, length-map, map-append, length-take-le, take-map, take_all, take_at}
use Rattle.std.proofs.lemmas.List.Elements.{All-weaker, All-nil, All-cons, All-head, All-tail, All-take}
use Rattle.std.proofs.lemmas.Option.{slice_get_within, slice_get-map, slice_get-get_or, slice_get_past}
use Rattle.zw_lemmas.proofs.PlaceLemmas.{slice_get-front, slice_get-last}
use Rattle.zw_def.specs.Text.{Text}
use Rattle.zw_def_world.specs.CoreClass.{core_count}
use Rattle.zw_def_world.specs.Making.{max_nesting}
use Rattle.zw_heap.specs.declared.mark.Mark.{Mark}
use Rattle.zw_heap.specs.declared.mark.Sizes.{Sizes}
use Rattle.zw_heap.specs.Place.{Place, Made, key_of, count_at, at_boot, IsNewLoad}
use Rattle.zw_heap.specs.ModuleRecord.{Module, frozen_module}
use Rattle.zw_heap.specs.ObjectRecord.{Object, frozen_object}
use Rattle.zw_heap.specs.Heap.{Held, Row, sizes_of, with_setup, with_load, with_boot, boot_of}
use Rattle.zw_heap.specs.Sound.{Differ, IsCounted, AreMade, AreIn, AreBuilt, Grows, modules_made, objects_made, IsOfBoot, ModuleIn, ObjectIn, RowIn, Stands, BootStands, IsSound}
use Rattle.zw_heap.proofs.ChangeLemmas.{core_within, main_within}
use Rattle.zw_heap.proofs.ListLemmas.{All-at, All-pushed, slice_get-read, Differ-pushed, Differ-take, slice_get-some, slice_get-take}
use Rattle.zw_heap.specs.declared.value.ModuleId.{ModuleId}
use Rattle.zw_heap.specs.Reach.{IsIncluded}
use Rattle.zw_heap.proofs.FoundedLemmas.{IsFounded-mapped, IsFounded-taken}
use Rattle.zw_heap.proofs.ReachLemmas.{IsAcyclic-mapped, IsAcyclic-taken}
use Rattle.zw_heap.proofs.SoundLemmas.{Stands-kept, Stands-fronts, AreIn-grown}

-- ---- a place is added

count_front : (places : List Place) (p : Place) (n : ℕ) → count_at places n ≤ count_at (places ++ p ∷ []) n
count_front places p n = by (cases_lt n (length places))
  where
    by : (n < length places) ⊎ (length places ≤ n) → count_at places n ≤ count_at (places ++ p ∷ []) n
    by (inl lt) =
        let old = slice_get-get_or places n p lt in
        let new = slice_get-front places (p ∷ []) n (get_or places n p) old in
        let e : count_at (places ++ p ∷ []) n ≡ count_at places n = ap (λ o. option_map_or (λ (q : Place). q.count) o 0) (new ∙ sym old) in
        omega (arith, e)
    by (inr le) =
        let e : count_at places n ≡ 0 = ap (λ o. option_map_or (λ (q : Place). q.count) o 0) (slice_get_past places n le) in
        omega (arith, e)

pub AreMade-place : (ms os : List Made) (places : List Place) (here setups : ℕ) (p : Place) (here' setups' : ℕ) → AreMade ms os places here setups
    → p.count ≡ 0 → ((n : ℕ) → option_map key_of (slice_get places n) ≡ Some (key_of p) → ⊥) → setups ≤ setups' → setups' ≤ setups + 1 → p.setup ≤ setups'
    → option_map (λ q. q.setup) (slice_get (places ++ p ∷ []) here') ≡ Some setups' → AreMade ms os (places ++ p ∷ []) here' setups'
AreMade-place ms os places here setups p here' setups' a zero' new le few setup at =
    let len = length-append places (p ∷ []) in
    let counted : (xs : List Made) → All (IsCounted places) xs → All (IsCounted (places ++ p ∷ [])) xs =
    λ xs all. All-weaker (IsCounted places) (IsCounted (places ++ p ∷ [])) (λ x lt. let more = count_front places p x.place in omega (arith, lt, more)) xs all in
    let keys = map-append key_of places (p ∷ []) in
    record {
      modules_counted = counted ms a.modules_counted;
      objects_counted = counted os a.objects_counted;
      modules_differ = a.modules_differ;
      objects_differ = a.objects_differ;
      places_differ = subst Differ (sym keys) (Differ-pushed (map key_of places) (key_of p) a.places_differ (λ i e. new i (sym (slice_get-map key_of places i) ∙ e)));
      begun = All-pushed (λ (q : Place). q.setup ≤ setups') places p (All-weaker (λ (q : Place). q.setup ≤ setups) (λ (q : Place). q.setup ≤ setups') (λ q lt. omega (arith, lt, le)) places a.begun) setup;
      few = All-pushed (λ (q : Place). q.count ≤ length ms + length os) places p a.few (omega (arith, zero'));
      setups_few = let lt = a.setups_few in omega (arith, lt, len, few);
      here_now = at;
      core = a.core;
      main = a.main;
      boot_place = front_key 0 _ a.boot_place;
    }
  where
    front_key : (n : ℕ) (key : ℕ × Option (List ℕ)) → option_map key_of (slice_get places n) ≡ Some key → option_map key_of (slice_get (places ++ p ∷ []) n) ≡ Some key
    front_key n key e =
        let some = slice_get-some key_of (slice_get places n) key e in
        ap (option_map key_of) (slice_get-front places (p ∷ []) n some.0 some.1) ∙ ap Some some.2

AreMade-setup : (ms os : List Made) (places : List Place) (here setups : ℕ) → AreMade ms os places here setups
    → AreMade ms os (places ++ record { setup = setups + 1; load = None; count = 0 } ∷ []) (length places) (setups + 1)
AreMade-setup ms os places here setups a =
    let p : Place = record { setup = setups + 1; load = None; count = 0 } in
    AreMade-place ms os places here setups p (length places) (setups + 1) a refl
    (λ n e.
    let some = slice_get-some key_of (slice_get places n) (key_of p) e in
    let le = All-at (λ (q : Place). q.setup ≤ setups) places n some.0 a.begun some.1 in
    let same : some.0.setup ≡ setups + 1 = ap (λ k. k.0) some.2 in omega (arith, le, same))
    (omega arith) (omega arith) (omega arith) (ap (option_map (λ (q : Place). q.setup)) (slice_get-last places p))

AreMade-load : (ms os : List Made) (places : List Place) (here setups : ℕ) (key : List ℕ) → AreMade ms os places here setups → IsNewLoad places setups key
    → AreMade ms os (places ++ record { setup = setups; load = Some key; count = 0 } ∷ []) here setups
AreMade-load ms os places here setups key a new =
    let p : Place = record { setup = setups; load = Some key; count = 0 } in
    let some = slice_get-some (λ (q : Place). q.setup) (slice_get places here) setups a.here_now in
    AreMade-place ms os places here setups p here setups a refl new (omega arith) (omega arith) (omega arith)
    (ap (option_map (λ (q : Place). q.setup)) (slice_get-front places (p ∷ []) here some.0 some.1) ∙ ap Some some.2)

BootStands-same : (h g : Held) (boot : Option Mark) → Grows (sizes_of h) (sizes_of g) → g.modules ≡ h.modules → g.objects ≡ h.objects → g.arrays ≡ h.arrays → BootStands boot h → BootStands boot g
BootStands-same h g None grows ms os rs b = tt
BootStands-same h g (Some mark) grows ms os rs b =
    Stands-kept mark h g grows b (ap (take mark.sizes.modules) ms) (ap (take mark.sizes.objects) os) (ap (take mark.sizes.arrays) rs)

Grows-refl : (s : Sizes) → Grows s s
Grows-refl s = record { names = omega arith; modules = omega arith; objects = omega arith; texts = omega arith; arrays = omega arith }

pub IsSound-with_setup : (h : Held) → IsSound h → IsSound (with_setup h)
IsSound-with_setup h s = record {
  within = s.within;
  built = s.built;
  shallow = s.shallow;
  made = AreMade-setup (modules_made h) (objects_made h) h.places h.here h.setups s.made;
  acyclic = s.acyclic;
  founded = s.founded;
  boot = BootStands-same h (with_setup h) h.boot (Grows-refl (sizes_of h)) refl refl refl s.boot;
}

pub IsSound-with_load : (h : Held) (key : List ℕ) → IsSound h → IsNewLoad h.places h.setups key → IsSound (with_load key h)
IsSound-with_load h key s new = record {
  within = s.within;
  built = s.built;
  shallow = s.shallow;
  made = AreMade-load (modules_made h) (objects_made h) h.places h.here h.setups key s.made new;
  acyclic = s.acyclic;
  founded = s.founded;
  boot = BootStands-same h (with_load key h) h.boot (Grows-refl (sizes_of h)) refl refl refl s.boot;
}

pub IsSound-here : (h : Held) (here : ℕ) → IsSound h → option_map (λ p. p.setup) (slice_get h.places here) ≡ Some h.setups → IsSound (record h { here = here })
IsSound-here h here s at = record {
  within = s.within;
  built = s.built;
  shallow = s.shallow;
  made = record {
    modules_counted = s.made.modules_counted;
    objects_counted = s.made.objects_counted;
    modules_differ = s.made.modules_differ;
    objects_differ = s.made.objects_differ;
    places_differ = s.made.places_differ;
    begun = s.made.begun;
    few = s.made.few;
    setups_few = s.made.setups_few;
    here_now = at;
    core = s.made.core;
    main = s.made.main;
    boot_place = s.made.boot_place;
  };
  acyclic = s.acyclic;
  founded = s.founded;
  boot = BootStands-same h (record h { here = here }) h.boot (Grows-refl (sizes_of h)) refl refl refl s.boot;
}

pub IsSound-names : (h : Held) (n : ℕ) → IsSound h → h.names ≤ n → IsSound (record h { names = n })
IsSound-names h n s le =
    let g = record h { names = n } in
    let grows : Grows (sizes_of h) (sizes_of g) = record { names = le; modules = omega arith; objects = omega arith; texts = omega arith; arrays = omega arith } in
    record {
      within = AreIn-grown (sizes_of h) (sizes_of g) grows h.modules h.objects h.arrays s.within;
      built = s.built;
      shallow = s.shallow;
      made = s.made;
      acyclic = s.acyclic;
      founded = s.founded;
      boot = BootStands-same h g h.boot grows refl refl refl s.boot;
    }

-- ---- boot's records are frozen

ModuleIn-frozen : (s : Sizes) (m : Module) → ModuleIn s m → ModuleIn s (frozen_module m)
ModuleIn-frozen s m a = record { path = a.path; kind = a.kind; includes = a.includes; extensions = a.extensions; variables = a.variables; class_variables = a.class_variables }

ObjectIn-frozen : (s : Sizes) (o : Object) → ObjectIn s o → ObjectIn s (frozen_object o)
ObjectIn-frozen s o a = record { class = a.class; variables = a.variables }

All-map : {X Y : Type 0} (f : X → Y) (P : X → Type 0) (Q : Y → Type 0) → ((x : X) → P x → Q (f x)) → (xs : List X) → All P xs → All Q (map f xs)
All-map f P Q h [] all = All-nil Q
All-map f P Q h (x ∷ xs) all = All-cons Q (f x) (map f xs) (h x (All-head P x xs all)) (All-map f P Q h xs (All-tail P x xs all))

All-any : {X : Type 0} (P : X → Type 0) → ((x : X) → P x) → (xs : List X) → All P xs
All-any P h [] = All-nil P
All-any P h (x ∷ xs) = All-cons P x xs (h x) (All-any P h xs)

map-made : {X : Type 0} (f : X → X) (g : X → Made) → ((x : X) → g (f x) ≡ g x) → (xs : List X) → map g (map f xs) ≡ map g xs
map-made f g h [] = refl
map-made f g h (x ∷ xs) = λ i. h x i ∷ map-made f g h xs i

-- what is counted where there is one place was made at that
of_boot : (places : List Place) → length places ≡ 1 → (x : Made) → IsCounted places x → IsOfBoot (count_at places 0) x
of_boot places one x lt = by (cases_lt x.place 1)
  where
    by : (x.place < 1) ⊎ (1 ≤ x.place) → IsOfBoot (count_at places 0) x
    by (inl below) = let e : x.place ≡ 0 = omega (arith, below) in (e, subst (λ n. x.count < count_at places n) e lt)
    by (inr past) =
        let e : count_at places x.place ≡ 0 = ap (λ o. option_map_or (λ (q : Place). q.count) o 0) (slice_get_past places x.place (omega (arith, past, one))) in
        absurd (omega (arith, lt, e))

taken_all : {X : Type 0} (P : X → Type 0) (n : ℕ) (xs : List X) → All P xs → All P (take n xs)
taken_all P n xs all = All-take P n xs all

pub IsSound-with_boot : (h : Held) → IsSound h → length h.places ≡ 1 → IsSound (with_boot h)
IsSound-with_boot h s one =
    let g = with_boot h in
    let sizes : sizes_of g ≡ sizes_of h = (λ i. record (sizes_of h) { modules = length-map h.modules frozen_module i; objects = length-map h.objects frozen_object i }) in
    let ms : modules_made g ≡ modules_made h = map-made frozen_module (λ (m : Module). m.made) (λ m. refl) h.modules in
    let os : objects_made g ≡ objects_made h = map-made frozen_object (λ (o : Object). o.made) (λ o. refl) h.objects in
    let modules = All-map frozen_module (ModuleIn (sizes_of h)) (ModuleIn (sizes_of h)) (ModuleIn-frozen (sizes_of h)) h.modules s.within.modules_in in
    let objects = All-map frozen_object (ObjectIn (sizes_of h)) (ObjectIn (sizes_of h)) (ObjectIn-frozen (sizes_of h)) h.objects s.within.objects_in in
    let frozen_ms = All-map frozen_module (λ m. Unit {0}) (λ (m : Module). m.is_frozen ≡ true) (λ m u. refl) h.modules (All-any (λ m. Unit {0}) (λ m. tt) h.modules) in
    let frozen_os = All-map frozen_object (λ o. Unit {0}) (λ (o : Object). o.is_frozen ≡ true) (λ o u. refl) h.objects (All-any (λ o. Unit {0}) (λ o. tt) h.objects) in
    let count = count_at h.places 0 in
    let nm = length-map h.modules (λ (m : Module). m.made) in
    let no' = length-map h.objects (λ (o : Object). o.made) in
    record {
      within = subst (λ t. AreIn t (map frozen_module h.modules) (map frozen_object h.objects) h.arrays) (sym sizes) (record { modules_in = modules; objects_in = objects; rows_in = s.within.rows_in });
      built = s.built;
      shallow = s.shallow;
      made = subst (λ xs. AreMade xs (objects_made g) h.places h.here h.setups) (sym ms) (subst (λ xs. AreMade (modules_made h) xs h.places h.here h.setups) (sym os) s.made);
      acyclic = IsAcyclic-mapped frozen_module h.modules (λ m. (refl, refl)) s.acyclic;
      founded = IsFounded-mapped frozen_module h.modules (λ m. (refl, refl)) s.founded;
      boot = record {
        fits = subst (Grows (sizes_of h)) (sym sizes) (Grows-refl (sizes_of h));
        within = record {
          modules_in = taken_all (ModuleIn (sizes_of h)) (length h.modules) (map frozen_module h.modules) modules;
          objects_in = taken_all (ObjectIn (sizes_of h)) (length h.objects) (map frozen_object h.objects) objects;
          rows_in = taken_all (RowIn (sizes_of h)) (length h.arrays) h.arrays s.within.rows_in;
        };
        modules_frozen = taken_all (λ (m : Module). m.is_frozen ≡ true) (length h.modules) (map frozen_module h.modules) frozen_ms;
        objects_frozen = taken_all (λ (o : Object). o.is_frozen ≡ true) (length h.objects) (map frozen_object h.objects) frozen_os;
        modules_of_boot = taken_all (IsOfBoot count) (length h.modules) (modules_made g) (subst (All (IsOfBoot count)) (sym ms) (All-weaker (IsCounted h.places) (IsOfBoot count) (of_boot h.places one) (modules_made h) s.made.modules_counted));
        objects_of_boot = taken_all (IsOfBoot count) (length h.objects) (objects_made g) (subst (All (IsOfBoot count)) (sym os) (All-weaker (IsCounted h.places) (IsOfBoot count) (of_boot h.places one) (objects_made h) s.made.objects_counted));
        core = core_few;
        main = main_within h s;
        few = few_at_boot;
      };
    }
  where
    core_few : core_count ≤ length h.modules
    core_few = let last = core_within h s 29 (omega arith) in last

    few_at_boot : count_at h.places 0 ≤ length h.modules + length h.objects
    few_at_boot =
        let some = slice_get-some key_of (slice_get h.places 0) (0, None) s.made.boot_place in
        let le = All-at (λ (q : Place). q.count ≤ length (modules_made h) + length (objects_made h)) h.places 0 some.0 s.made.few some.1 in
        let e : count_at h.places 0 ≡ some.0.count = ap (λ o. option_map_or (λ (q : Place). q.count) o 0) some.1 in
        let nm = length-map h.modules (λ (m : Module). m.made) in
        let no' = length-map h.objects (λ (o : Object). o.made) in
        omega (arith, le, e, nm, no')

-- ---- boot's records are copied

AreBuilt-take : (n : ℕ) (front rows : List Row) → AreBuilt front rows → AreBuilt front (take n rows)
AreBuilt-take zero front rows b = tt
AreBuilt-take (suc n) front [] b = tt
AreBuilt-take (suc n) front (r ∷ rows) b = (b.0, b.1, AreBuilt-take n (front ++ r ∷ []) rows b.2)

counted_at_boot : (count : ℕ) (x : Made) → IsOfBoot count x → IsCounted (record { setup = 0; load = None; count = count } ∷ []) x
counted_at_boot count x a = subst (λ n. x.count < count_at (record { setup = 0; load = None; count = count } ∷ []) n) (sym a.0) a.1

pub Differ-one : {X : Type 0} (x : X) → Differ (x ∷ [])
Differ-one x i j y ei ej = let a = slice_get_within (x ∷ []) i y ei in let b = slice_get_within (x ∷ []) j y ej in omega (arith, a, b)

included_in : (t : Sizes) (x : Module) (m : ℕ) → ModuleIn t x → IsIncluded x.includes m → m < t.modules
included_in t x m a (i, y, read, same) = subst (λ k. k < t.modules) same (All-at (λ (j : ModuleId). j.0 < t.modules) x.includes i y a.includes read)

pub IsSound-boot_of : (h : Held) (mark : Mark) → IsSound h → Stands mark h → IsSound (boot_of mark h)
IsSound-boot_of h mark s b =
    let g = boot_of mark h in
    let lm : length (take mark.sizes.modules h.modules) ≡ mark.sizes.modules = length-take-le mark.sizes.modules h.modules b.fits.modules in
    let lo : length (take mark.sizes.objects h.objects) ≡ mark.sizes.objects = length-take-le mark.sizes.objects h.objects b.fits.objects in
    let lt : length (take mark.sizes.texts h.texts) ≡ mark.sizes.texts = length-take-le mark.sizes.texts h.texts b.fits.texts in
    let la : length (take mark.sizes.arrays h.arrays) ≡ mark.sizes.arrays = length-take-le mark.sizes.arrays h.arrays b.fits.arrays in
    let sizes : sizes_of g ≡ mark.sizes = (λ i. record mark.sizes { modules = lm i; objects = lo i; texts = lt i; arrays = la i }) in
    let ms : take mark.sizes.modules (modules_made h) ≡ modules_made g = take-map (λ (m : Module). m.made) mark.sizes.modules h.modules in
    let os : take mark.sizes.objects (objects_made h) ≡ objects_made g = take-map (λ (o : Object). o.made) mark.sizes.objects h.objects in
    let places : List Place = record { setup = 0; load = None; count = mark.count } ∷ [] in
    let nm = length-map (take mark.sizes.modules h.modules) (λ (m : Module). m.made) in
    let no' = length-map (take mark.sizes.objects h.objects) (λ (o : Object). o.made) in
    let few = b.few in
    record {
      within = subst (λ t. AreIn t g.modules g.objects g.arrays) (sym sizes) b.within;
      built = AreBuilt-take mark.sizes.arrays [] h.arrays s.built;
      shallow = All-take (λ (r : Row). r.nesting ≤ max_nesting) mark.sizes.arrays h.arrays s.shallow;
      made = record {
        modules_counted = subst (All (IsCounted places)) ms (All-weaker (IsOfBoot mark.count) (IsCounted places) (counted_at_boot mark.count) (take mark.sizes.modules (modules_made h)) b.modules_of_boot);
        objects_counted = subst (All (IsCounted places)) os (All-weaker (IsOfBoot mark.count) (IsCounted places) (counted_at_boot mark.count) (take mark.sizes.objects (objects_made h)) b.objects_of_boot);
        modules_differ = subst Differ ms (Differ-take mark.sizes.modules (modules_made h) s.made.modules_differ);
        objects_differ = subst Differ os (Differ-take mark.sizes.objects (objects_made h) s.made.objects_differ);
        places_differ = Differ-one (0, None);
        begun = All-cons (λ (q : Place). q.setup ≤ 0) (record { setup = 0; load = None; count = mark.count }) [] (omega arith) (All-nil (λ (q : Place). q.setup ≤ 0));
        few = All-cons (λ (q : Place). q.count ≤ length (modules_made g) + length (objects_made g)) (record { setup = 0; load = None; count = mark.count }) [] (omega (arith, few, lm, lo, nm, no')) (All-nil (λ (q : Place). q.count ≤ length (modules_made g) + length (objects_made g)));
        setups_few = omega arith;
        here_now = refl;
        core = λ n lt. subst (λ xs. slice_get xs n ≡ Some (at_boot n)) ms (slice_get-take mark.sizes.modules (modules_made h) n (at_boot n) (let le = b.core in omega (arith, lt, le)) (s.made.core n lt));
        main = subst (λ xs. slice_get xs 0 ≡ Some (at_boot core_count)) os (slice_get-take mark.sizes.objects (objects_made h) 0 (at_boot core_count) b.main s.made.main);
        boot_place = refl;
      };
      acyclic = IsAcyclic-taken mark.sizes.modules h.modules s.acyclic;
      founded = IsFounded-taken mark.sizes.modules h.modules b.core (λ i m x e inc. included_in mark.sizes x m (All-at (ModuleIn mark.sizes) (take mark.sizes.modules h.modules) i x b.within.modules_in e) inc) s.founded;
      boot = Stands-fronts mark h g (subst (Grows mark.sizes) (sym sizes) (Grows-refl mark.sizes)) b
          (take_all mark.sizes.modules (take mark.sizes.modules h.modules) (omega (arith, lm)))
          (take_all mark.sizes.objects (take mark.sizes.objects h.objects) (omega (arith, lo)))
          (take_all mark.sizes.arrays (take mark.sizes.arrays h.arrays) (omega (arith, la)));
    }

-- ---- the heaps that the code makes of it

refilled : {X : Type 0} (n : ℕ) (new rest want old : List X) → new ≡ want → length want ≡ length old → n ≡ length old → take n (new ++ rest) ≡ want
refilled n new rest want old e len fits = take_at new rest n (ap (λ xs. length xs) e ∙ len ∙ sym fits) ∙ e

pub with_boot-is : (h g : Held) → h ≡ g → (n : ℕ) (modules lent : List Module) (rest : List Module) → modules ≡ map frozen_module lent → lent ≡ h.modules → n ≡ length h.modules
    → (k : ℕ) (objects lent' rest' : List Object) → objects ≡ map frozen_object lent' → lent' ≡ h.objects → k ≡ length h.objects
    → (sizes : Sizes) → sizes ≡ sizes_of g → (count : ℕ) (p : Place) → count ≡ p.count → p ≡ get_or h.places 0 p → length g.places ≡ 1
    → record h { modules = take n (modules ++ rest); objects = take k (objects ++ rest'); boot = Some (record { sizes = sizes; count = count }) } ≡ with_boot h
with_boot-is h g view n modules lent rest a b c k objects lent' rest' d e f sizes s count p counts read one =
    let ms = refilled n modules rest (map frozen_module h.modules) h.modules (a ∙ ap (map frozen_module) b) (length-map h.modules frozen_module) c in
    let os = refilled k objects rest' (map frozen_object h.objects) h.objects (d ∙ ap (map frozen_object) e) (length-map h.objects frozen_object) f in
    let ss : sizes ≡ sizes_of h = s ∙ ap sizes_of (sym view) in
    let within = ap (λ (k : Held). length k.places) view in
    let cs : count ≡ count_at h.places 0 = counts ∙ sym (ap (λ o. option_map_or (λ (q : Place). q.count) o 0) (slice_get-read h.places 0 p (omega (arith, one, within)) read)) in
    (λ i. record h { modules = ms i; objects = os i; boot = Some (record { sizes = ss i; count = cs i }) })

pub boot_of-is : (h : Held) (mark : Mark) (modules lent : List Module) → modules ≡ take mark.sizes.modules lent → lent ≡ h.modules
    → (objects lent' : List Object) → objects ≡ take mark.sizes.objects lent' → lent' ≡ h.objects
    → (texts all : List Text) → texts ≡ take mark.sizes.texts all → all ≡ h.texts
    → (arrays rows : List Row) → arrays ≡ take mark.sizes.arrays rows → rows ≡ h.arrays
    → (places front : List Place) (p : Place) → places ≡ front ++ p ∷ [] → front ≡ [] → p ≡ record { setup = 0; load = None; count = mark.count }
    → record (boot_of mark h) { modules = modules; objects = objects; texts = texts; arrays = arrays; places = places } ≡ boot_of mark h
boot_of-is h mark modules lent a b objects lent' c d texts all e f arrays rows g k places front p l m n =
    (λ i. record (boot_of mark h) {
      modules = (a ∙ ap (take mark.sizes.modules) b) i;
      objects = (c ∙ ap (take mark.sizes.objects) d) i;
      texts = (e ∙ ap (take mark.sizes.texts) f) i;
      arrays = (g ∙ ap (take mark.sizes.arrays) k) i;
      places = (l ∙ ap (λ xs. xs ++ p ∷ []) m ∙ ap (λ q. q ∷ []) n) i;
    })

pub IsSound-copied : (h : Held) (mark : Mark) → IsSound h → h.boot ≡ Some mark → IsSound (boot_of mark h)
IsSound-copied h mark s e = IsSound-boot_of h mark s (subst (λ o. BootStands o h) e s.boot)

pub boot_of-told : (h g : Held) (mark : Mark) → h ≡ g → h.boot ≡ Some mark → option_map (λ m. boot_of m g) g.boot ≡ Some (boot_of mark h)
boot_of-told h g mark view e = ap (λ (k : Held). option_map (λ m. boot_of m k) k.boot) (sym view) ∙ ap (option_map (λ m. boot_of m h)) e
