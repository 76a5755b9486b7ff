-- What is made in a sound heap leaves it sound.
use Rattle.std.proofs.Common.{◌≡◌, append_assoc, true, ℕ, ◌<◌, ◌≤◌, inl, inr, List, [], ◌∷◌, ◌++◌, length, get_or, slice_get, Option, Some, None, refl, ap, sym, ◌∙◌, subst, arith, map, take}
use Rattle.std.specs.Option.{option_map_or}
use Rattle.std.specs.List.{All}
use Rattle.std.proofs.Math.ListN.{set}
use Rattle.std.proofs.lemmas.List.{length-append, map-append, take-append-le, append-nil, take-map}
use Rattle.std.proofs.lemmas.List.Elements.{All-weaker, All-nil}
use Rattle.zw_def_world.specs.Making.{max_nesting}
use Rattle.zw_heap.specs.declared.mark.Mark.{Mark}
use Rattle.zw_heap.specs.declared.mark.Sizes.{Sizes}
use Rattle.zw_heap.specs.declared.value.ModuleId.{ModuleId}
use Rattle.zw_heap.specs.declared.value.ModuleKind.{ModuleKind}
use Rattle.zw_heap.specs.declared.value.ModuleKind.TheVariants as k
use Rattle.zw_heap.specs.declared.value.Value.{Value}
use Rattle.zw_heap.specs.declared.value.Value.TheVariants as v
use Rattle.zw_heap.specs.Place.{Place, one_more}
use Rattle.zw_heap.specs.ModuleRecord.{Module, new_module}
use Rattle.zw_heap.specs.ObjectRecord.{Object, new_object}
use Rattle.zw_heap.specs.Heap.{Row, Held, sizes_of, with_object, with_module, with_array, changed_at, made_here, row, nesting_from, nesting_of}
use Rattle.zw_heap.specs.Sound.{IsIn, KindIn, EntryIn, ModuleIn, ObjectIn, RowIn, AreIn, Grows, AreMade, modules_made, objects_made, IsBelow, AreBuilt, IsOfBoot, Stands, BootStands, IsSound}
use Rattle.zw_heap.proofs.ListLemmas.{All-at, All-pushed, changed_at-set, slice_get-read}
use Rattle.zw_heap.specs.Reach.{IsSuperclass}
use Rattle.zw_heap.proofs.ReachLemmas.{LeadsBelow, IsAcyclic-pushed}
use Rattle.zw_heap.proofs.FoundedLemmas.{IsFounded-pushed}
use Rattle.zw_heap.proofs.PlaceLemmas.{fresh, AreMade-object, AreMade-module}

-- ---- what is in so many is in more

pub Grows-then : (s t u : Sizes) → Grows s t → Grows t u → Grows s u
Grows-then s t u a b = record {
  names = let x = a.names in let y = b.names in omega (arith, x, y);
  modules = let x = a.modules in let y = b.modules in omega (arith, x, y);
  objects = let x = a.objects in let y = b.objects in omega (arith, x, y);
  texts = let x = a.texts in let y = b.texts in omega (arith, x, y);
  arrays = let x = a.arrays in let y = b.arrays in omega (arith, x, y);
}

module _ (s t : Sizes) (g : Grows s t) where
  pub IsIn-grown : (x : Value) → IsIn s x → IsIn t x
  IsIn-grown v.Nil a = tt
  IsIn-grown v.True a = tt
  IsIn-grown v.False a = tt
  IsIn-grown (v.Int n) a = tt
  IsIn-grown (v.Text n) a = let le = g.texts in omega (arith, a, le)
  IsIn-grown (v.Sym n) a = let le = g.names in omega (arith, a, le)
  IsIn-grown (v.Array n) a = let le = g.arrays in omega (arith, a, le)
  IsIn-grown (v.Object n) a = let le = g.objects in omega (arith, a, le)
  IsIn-grown (v.Module n) a = let le = g.modules in omega (arith, a, le)

  pub KindIn-grown : (kind : ModuleKind) → KindIn s kind → KindIn t kind
  KindIn-grown k.Module a = tt
  KindIn-grown (k.Class None) a = tt
  KindIn-grown (k.Class (Some m)) a = let le = g.modules in omega (arith, a, le)

  entries_grown : (es : List (ℕ × Value)) → All (EntryIn s) es → All (EntryIn t) es
  entries_grown es all = All-weaker (EntryIn s) (EntryIn t) (λ e a. let le = g.names in (omega (arith, a.0, le), IsIn-grown e.1 a.1)) es all

  ids_grown : (is : List ModuleId) → All (λ (i : ModuleId). i.0 < s.modules) is → All (λ (i : ModuleId). i.0 < t.modules) is
  ids_grown is all = All-weaker (λ (i : ModuleId). i.0 < s.modules) (λ (i : ModuleId). i.0 < t.modules) (λ i a. let le = g.modules in omega (arith, a, le)) is all

  pub ModuleIn-grown : (m : Module) → ModuleIn s m → ModuleIn t m
  ModuleIn-grown m a = record {
    path = All-weaker (λ (n : ℕ). n < s.names) (λ (n : ℕ). n < t.names) (λ n lt. let le = g.names in omega (arith, lt, le)) m.path a.path;
    kind = KindIn-grown m.kind a.kind;
    includes = ids_grown m.includes a.includes;
    extensions = ids_grown m.extensions a.extensions;
    variables = entries_grown m.variables a.variables;
    class_variables = entries_grown m.class_variables a.class_variables;
  }

  pub ObjectIn-grown : (o : Object) → ObjectIn s o → ObjectIn t o
  ObjectIn-grown o a = record {
    class = let lt = a.class in let le = g.modules in omega (arith, lt, le);
    variables = entries_grown o.variables a.variables;
  }

  pub RowIn-grown : (r : Row) → RowIn s r → RowIn t r
  RowIn-grown r a = All-weaker (IsIn s) (IsIn t) IsIn-grown r.items a

  pub AreIn-grown : (ms : List Module) (os : List Object) (rs : List Row) → AreIn s ms os rs → AreIn t ms os rs
  AreIn-grown ms os rs a = record {
    modules_in = All-weaker (ModuleIn s) (ModuleIn t) ModuleIn-grown ms a.modules_in;
    objects_in = All-weaker (ObjectIn s) (ObjectIn t) ObjectIn-grown os a.objects_in;
    rows_in = All-weaker (RowIn s) (RowIn t) RowIn-grown rs a.rows_in;
  }

-- all that a record leads to is there
kind_below : (s : Sizes) (kind : ModuleKind) (n : ℕ) → KindIn s kind → IsSuperclass kind n → n < s.modules
kind_below s k.Module n a e = absurd e
kind_below s (k.Class None) n a e = absurd e
kind_below s (k.Class (Some m)) n a e = subst (λ x. x < s.modules) e a

pub ModuleIn-below : (s : Sizes) (m : Module) → KindIn s m.kind → All (λ (i : ModuleId). i.0 < s.modules) m.includes → LeadsBelow s.modules m
ModuleIn-below s m kind includes n (inl e) = kind_below s m.kind n kind e
ModuleIn-below s m kind includes n (inr (i, x, read, same)) = subst (λ y. y < s.modules) same (All-at (λ (i : ModuleId). i.0 < s.modules) m.includes i x includes read)

-- ---- boot's records stand where the fronts are the same

module _ (mark : Mark) (h g : Held) (fits : Grows mark.sizes (sizes_of g)) (b : Stands mark h)
    (ms : take mark.sizes.modules g.modules ≡ take mark.sizes.modules h.modules)
    (os : take mark.sizes.objects g.objects ≡ take mark.sizes.objects h.objects)
    (rs : take mark.sizes.arrays g.arrays ≡ take mark.sizes.arrays h.arrays) where
  module_fronts : take mark.sizes.modules (modules_made g) ≡ take mark.sizes.modules (modules_made h)
  module_fronts = take-map (λ (m : Module). m.made) mark.sizes.modules g.modules ∙ ap (map (λ (m : Module). m.made)) ms ∙ sym (take-map (λ (m : Module). m.made) mark.sizes.modules h.modules)

  object_fronts : take mark.sizes.objects (objects_made g) ≡ take mark.sizes.objects (objects_made h)
  object_fronts = take-map (λ (o : Object). o.made) mark.sizes.objects g.objects ∙ ap (map (λ (o : Object). o.made)) os ∙ sym (take-map (λ (o : Object). o.made) mark.sizes.objects h.objects)

  pub Stands-fronts : Stands mark g
  Stands-fronts = record {
    fits = fits;
    within = record {
      modules_in = subst (All (ModuleIn mark.sizes)) (sym ms) b.within.modules_in;
      objects_in = subst (All (ObjectIn mark.sizes)) (sym os) b.within.objects_in;
      rows_in = subst (All (RowIn mark.sizes)) (sym rs) b.within.rows_in;
    };
    modules_frozen = subst (All (λ m. m.is_frozen ≡ true)) (sym ms) b.modules_frozen;
    objects_frozen = subst (All (λ o. o.is_frozen ≡ true)) (sym os) b.objects_frozen;
    modules_of_boot = subst (All (IsOfBoot mark.count)) (sym module_fronts) b.modules_of_boot;
    objects_of_boot = subst (All (IsOfBoot mark.count)) (sym object_fronts) b.objects_of_boot;
    core = b.core;
    main = b.main;
    few = b.few;
  }

pub Stands-kept : (mark : Mark) (h g : Held) → Grows (sizes_of h) (sizes_of g) → Stands mark h
    → take mark.sizes.modules g.modules ≡ take mark.sizes.modules h.modules
    → take mark.sizes.objects g.objects ≡ take mark.sizes.objects h.objects
    → take mark.sizes.arrays g.arrays ≡ take mark.sizes.arrays h.arrays → Stands mark g
Stands-kept mark h g grows b = Stands-fronts mark h g (Grows-then mark.sizes (sizes_of h) (sizes_of g) b.fits grows) b

-- more at the ends of the lists
pub BootStands-pushed : (boot : Option Mark) (h g : Held) (ms : List Module) (os : List Object) (rs : List Row) → Grows (sizes_of h) (sizes_of g)
    → g.modules ≡ h.modules ++ ms → g.objects ≡ h.objects ++ os → g.arrays ≡ h.arrays ++ rs → BootStands boot h → BootStands boot g
BootStands-pushed None h g ms os rs grows a b c stands = tt
BootStands-pushed (Some mark) h g ms os rs grows a b c stands =
    Stands-kept mark h g grows stands
    (ap (take mark.sizes.modules) a ∙ take-append-le mark.sizes.modules h.modules ms stands.fits.modules)
    (ap (take mark.sizes.objects) b ∙ take-append-le mark.sizes.objects h.objects os stands.fits.objects)
    (ap (take mark.sizes.arrays) c ∙ take-append-le mark.sizes.arrays h.arrays rs stands.fits.arrays)

-- ---- what is made

module _ (h : Held) (p q : Place) (count : ℕ) (sound : IsSound h) (here : h.here < length h.places) (counts : count ≡ p.count)
    (read : p ≡ get_or h.places h.here p) (r : Place) (reads : r ≡ get_or h.places h.here r) (adds : q ≡ one_more r) where
  at : slice_get h.places h.here ≡ Some p
  at = slice_get-read h.places h.here p here read

  same : r ≡ p
  same = let e : Some r ≡ Some p = sym (slice_get-read h.places h.here r here reads) ∙ at in cc e

  place_is : q ≡ one_more p
  place_is = adds ∙ ap one_more same

  made_is : record { place = h.here; count = count } ≡ made_here h
  made_is = ap (λ n. record { place = h.here; count = n }) (counts ∙ sym (ap (λ o. option_map_or (λ (q : Place). q.count) o 0) at))

  places_are : set h.places h.here q ≡ changed_at h.here one_more h.places
  places_are = ap (set h.places h.here) place_is ∙ changed_at-set one_more h.places h.here p at

  made_fresh : made_here h ≡ fresh h.places h.here p at
  made_fresh = ap (λ n. record { place = h.here; count = n }) (ap (λ o. option_map_or (λ (q : Place). q.count) o 0) at)

  pub with_object-is : (class : ModuleId) (new : Object) (objects : List Object) → new ≡ new_object (record { place = h.here; count = count }) class → objects ≡ h.objects ++ new ∷ [] →
      record h { objects = objects; places = set h.places h.here q } ≡ with_object class h
  with_object-is class new objects n e =
      (λ i. record h { objects = (e ∙ ap (λ x. h.objects ++ x ∷ []) (n ∙ ap (λ m. new_object m class) made_is)) i; places = places_are i })

  pub with_module-is : (path : List ℕ) (kind : ModuleKind) (new : Module) (modules : List Module) → new ≡ new_module (record { place = h.here; count = count }) path kind → modules ≡ h.modules ++ new ∷ [] →
      record h { modules = modules; places = set h.places h.here q } ≡ with_module path kind h
  with_module-is path kind new modules n e =
      (λ i. record h { modules = (e ∙ ap (λ x. h.modules ++ x ∷ []) (n ∙ ap (λ m. new_module m path kind) made_is)) i; places = places_are i })

  -- the place with one more record is the changed one
  places_more : changed_at h.here one_more h.places ≡ set h.places h.here (one_more p)
  places_more = sym (changed_at-set one_more h.places h.here p at)

  pub IsSound-with_object : (class : ModuleId) → class.0 < length h.modules → IsSound (with_object class h)
  IsSound-with_object class known =
      let new = new_object (made_here h) class in
      let len = length-append h.objects (new ∷ []) in
      let grows : Grows (sizes_of h) (sizes_of (with_object class h)) = record { names = omega arith; modules = omega arith; objects = omega (arith, len); texts = omega arith; arrays = omega arith } in
      let s = sizes_of (with_object class h) in
      let old = AreIn-grown (sizes_of h) s grows h.modules h.objects h.arrays sound.within in
      let made = map-append (λ (o : Object). o.made) h.objects (new ∷ []) in
      record {
        within = record {
          modules_in = old.modules_in;
          objects_in = All-pushed (ObjectIn s) h.objects new old.objects_in (record { class = known; variables = All-nil (EntryIn s) });
          rows_in = old.rows_in;
        };
        built = sound.built;
        shallow = sound.shallow;
        made =
            subst (λ os. AreMade (modules_made h) os (changed_at h.here one_more h.places) h.here h.setups) (sym made)
            (subst (λ ps. AreMade (modules_made h) (objects_made h ++ made_here h ∷ []) ps h.here h.setups) (sym places_more)
            (subst (λ m. AreMade (modules_made h) (objects_made h ++ m ∷ []) (set h.places h.here (one_more p)) h.here h.setups) (sym made_fresh)
            (AreMade-object h.places h.here p at (modules_made h) (objects_made h) h.setups sound.made)));
        acyclic = sound.acyclic;
        founded = sound.founded;
        boot = BootStands-pushed h.boot h (with_object class h) [] (new ∷ []) [] grows (sym (append-nil h.modules)) refl (sym (append-nil h.arrays)) sound.boot;
      }

  pub IsSound-with_module : (path : List ℕ) (kind : ModuleKind) → All (λ n. n < h.names) path → KindIn (sizes_of h) kind → IsSound (with_module path kind h)
  IsSound-with_module path kind named known =
      let new = new_module (made_here h) path kind in
      let len = length-append h.modules (new ∷ []) in
      let grows : Grows (sizes_of h) (sizes_of (with_module path kind h)) = record { names = omega arith; modules = omega (arith, len); objects = omega arith; texts = omega arith; arrays = omega arith } in
      let s = sizes_of (with_module path kind h) in
      let old = AreIn-grown (sizes_of h) s grows h.modules h.objects h.arrays sound.within in
      let made = map-append (λ (m : Module). m.made) h.modules (new ∷ []) in
      record {
        within = record {
          modules_in = All-pushed (ModuleIn s) h.modules new old.modules_in (record {
            path = named;
            kind = KindIn-grown (sizes_of h) s grows kind known;
            includes = All-nil (λ (i : ModuleId). i.0 < s.modules);
            extensions = All-nil (λ (i : ModuleId). i.0 < s.modules);
            variables = All-nil (EntryIn s);
            class_variables = All-nil (EntryIn s);
          });
          objects_in = old.objects_in;
          rows_in = old.rows_in;
        };
        built = sound.built;
        shallow = sound.shallow;
        made =
            subst (λ ms. AreMade ms (objects_made h) (changed_at h.here one_more h.places) h.here h.setups) (sym made)
            (subst (λ ps. AreMade (modules_made h ++ made_here h ∷ []) (objects_made h) ps h.here h.setups) (sym places_more)
            (subst (λ m. AreMade (modules_made h ++ m ∷ []) (objects_made h) (set h.places h.here (one_more p)) h.here h.setups) (sym made_fresh)
            (AreMade-module h.places h.here p at (modules_made h) (objects_made h) h.setups sound.made)));
        acyclic = IsAcyclic-pushed h.modules new
            (All-weaker (ModuleIn (sizes_of h)) (LeadsBelow (length h.modules)) (λ m a. ModuleIn-below (sizes_of h) m a.kind a.includes) h.modules sound.within.modules_in)
            (ModuleIn-below (sizes_of h) new known (All-nil (λ (i : ModuleId). i.0 < length h.modules))) sound.acyclic;
        founded = IsFounded-pushed h.modules new (λ m e. kind_below (sizes_of h) kind m known e) refl sound.founded;
        boot = BootStands-pushed h.boot h (with_module path kind h) (new ∷ []) [] [] grows refl (sym (append-nil h.objects)) (sym (append-nil h.arrays)) sound.boot;
      }

-- ---- arrays

AreBuilt-pushed : (front rows : List Row) (r : Row) → AreBuilt front rows → r.nesting ≡ nesting_from (front ++ rows) 1 r.items
    → All (IsBelow (length (front ++ rows))) r.items → AreBuilt front (rows ++ r ∷ [])
AreBuilt-pushed front [] r built n below =
    (n ∙ ap (λ rs. nesting_from rs 1 r.items) (append-nil front), subst (λ rs. All (IsBelow (length rs)) r.items) (append-nil front) below, tt)
AreBuilt-pushed front (x ∷ rows) r built n below =
    let e : front ++ x ∷ rows ≡ (front ++ x ∷ []) ++ rows = sym (append_assoc front (x ∷ []) rows) in (
      built.0,
      built.1,
      AreBuilt-pushed (front ++ x ∷ []) rows r built.2 (n ∙ ap (λ rs. nesting_from rs 1 r.items) e)
          (subst (λ rs. All (IsBelow (length rs)) r.items) e below),
    )

IsBelow-in : (s : Sizes) (x : Value) → IsIn s x → IsBelow s.arrays x
IsBelow-in s v.Nil a = tt
IsBelow-in s v.True a = tt
IsBelow-in s v.False a = tt
IsBelow-in s (v.Int n) a = tt
IsBelow-in s (v.Text n) a = tt
IsBelow-in s (v.Sym n) a = tt
IsBelow-in s (v.Array n) a = a
IsBelow-in s (v.Object n) a = tt
IsBelow-in s (v.Module n) a = tt

pub IsSound-with_array : (h : Held) (items : List Value) → IsSound h → All (IsIn (sizes_of h)) items → nesting_of h items ≤ max_nesting → IsSound (with_array items h)
IsSound-with_array h items sound known few =
    let new = row items (nesting_of h items) in
    let len = length-append h.arrays (new ∷ []) in
    let grows : Grows (sizes_of h) (sizes_of (with_array items h)) = record { names = omega arith; modules = omega arith; objects = omega arith; texts = omega arith; arrays = omega (arith, len) } in
    let s = sizes_of (with_array items h) in
    let old = AreIn-grown (sizes_of h) s grows h.modules h.objects h.arrays sound.within in
    record {
      within = record {
        modules_in = old.modules_in;
        objects_in = old.objects_in;
        rows_in = All-pushed (RowIn s) h.arrays new old.rows_in (All-weaker (IsIn (sizes_of h)) (IsIn s) (IsIn-grown (sizes_of h) s grows) items known);
      };
      built = AreBuilt-pushed [] h.arrays new sound.built refl (All-weaker (IsIn (sizes_of h)) (IsBelow (length h.arrays)) (IsBelow-in (sizes_of h)) items known);
      shallow = All-pushed (λ (r : Row). r.nesting ≤ max_nesting) h.arrays new sound.shallow few;
      made = sound.made;
      acyclic = sound.acyclic;
      founded = sound.founded;
      boot = BootStands-pushed h.boot h (with_array items h) [] [] (new ∷ []) grows (sym (append-nil h.modules)) (sym (append-nil h.objects)) refl sound.boot;
    }

pub with_array-is : (h : Held) (items : List Value) (new : Row) (rows : List Row) (n : ℕ) → new ≡ row items n → n ≡ nesting_of h items → rows ≡ h.arrays ++ new ∷ [] →
    record h { arrays = rows } ≡ with_array items h
with_array-is h items new rows n made deep pushed =
    ap (λ rs. record h { arrays = rs }) (pushed ∙ ap (λ r. h.arrays ++ r ∷ []) (made ∙ ap (row items) deep))
