-- What is looked up in two worlds alike, in steps: there it is what it is here, renamed.
use Rattle.std.specs.Prelude.{◌≡◌, ℕ, nat_lt, Bool, true, false, List, [], ◌∷◌, ◌++◌, map, Option, Some, None, if◌then◌else◌}
use Rattle.std.specs.Option.{option_map}
use Rattle.std.proofs.Common.{refl, sym, ap, ◌∙◌, subst}
use Rattle.std.proofs.lemmas.List.{map-append}
use Rattle.zw_def.specs.Text.{Text}
use Rattle.zw_def.specs.ConstantPath.{ConstantPath}
use Rattle.zw_def_world.specs.Missing.{bind, joined, is_some_so}
use Rattle.zw_def_world.specs.Id.{Id, id_eq, boot_id}
use Rattle.zw_def_world.specs.CoreClass.{core_count, main_id}
use Rattle.zw_def_world.specs.Value.{Value}
use Rattle.zw_def_world.specs.Table.{Table}
use Rattle.zw_def_world.specs.Record.{Module, Object}
use Rattle.zw_def_world.specs.World.{World}
use Rattle.zw_fresh.specs.Renaming.{Names, lifted, lifted_object, ren_object, ren_table}
use Rattle.zw_fresh.specs.Alike.{Setting, Renamed, Found, Met, Modules, module_with, shows, Objects, Worlds}

-- ---- any look-ups

pub some_found : {A B : Type 0} {calm : Bool} {g : A → B} (x : A) {o : Option B} → o ≡ Some (g x)
    → Found calm g (Some x) o
some_found x e = record { so = e }

pub none_found : {A B : Type 0} {calm : Bool} {g : A → B} → Found calm g None None
none_found {A} {B} {calm} {g} = record { so = at calm }
  where
    at : (c : Bool) → Renamed c g None None
    at true = tt
    at false = refl

pub found_bind : {A B C D : Type 0} {calm : Bool} {g : A → B} {h : C → D} (k : A → Option C) (k' : B → Option D)
    {o : Option A} {o' : Option B} → Found calm g o o' → ((x : A) → Found calm h (k x) (k' (g x)))
    → Found calm h (bind o k) (bind o' k')
found_bind {A} {B} {C} {D} {calm} {g} {h} k k' {o} {o'} e f = record { so = at calm o e.so (λ x. (f x).so) }
  where
    at : (c : Bool) (o : Option A) → Renamed c g o o' → ((x : A) → Renamed c h (k x) (k' (g x)))
        → Renamed c h (bind o k) (bind o' k')
    at c (Some x) e f = subst (λ z. Renamed c h (k x) (bind z k')) (sym e) (f x)
    at true None e f = tt
    at false None e f = ap (λ z. bind z k') e

pub found_map : {A B C D : Type 0} {calm : Bool} {g : A → B} {h : C → D} (k : A → C) (k' : B → D)
    {o : Option A} {o' : Option B} → Found calm g o o' → ((x : A) → k' (g x) ≡ h (k x))
    → Found calm h (option_map k o) (option_map k' o')
found_map {A} {B} {C} {D} {calm} {g} {h} k k' {o} {o'} e f = record { so = at calm o e.so }
  where
    at : (c : Bool) (o : Option A) → Renamed c g o o' → Renamed c h (option_map k o) (option_map k' o')
    at c (Some x) e = ap (option_map k') e ∙ ap Some (f x)
    at true None e = tt
    at false None e = ap (option_map k') e

pub met_bind : {A B C D : Type 0} (calm : Bool) (R : A → B → Type 0) {h : C → D} (k : A → Option C) (k' : B → Option D)
    (o : Option A) (o' : Option B) → Met calm R o o' → ((x : A) (y : B) → R x y → Found calm h (k x) (k' y))
    → Found calm h (bind o k) (bind o' k')
met_bind calm R k k' (Some x) (Some y) m f = f x y m
met_bind calm R k k' (Some x) None m f = absurd m
met_bind true R k k' None o' m f = record { so = tt }
met_bind false R k k' None None m f = record { so = refl }
met_bind false R k k' None (Some y) m f = absurd m

pub met_map : {A B C D : Type 0} (calm : Bool) (R : A → B → Type 0) {h : C → D} (k : A → C) (k' : B → D)
    (o : Option A) (o' : Option B) → Met calm R o o' → ((x : A) (y : B) → R x y → k' y ≡ h (k x))
    → Found calm h (option_map k o) (option_map k' o')
met_map calm R k k' (Some x) (Some y) m f = record { so = ap Some (f x y m) }
met_map calm R k k' (Some x) None m f = absurd m
met_map true R k k' None o' m f = record { so = tt }
met_map false R k k' None None m f = record { so = refl }
met_map false R k k' None (Some y) m f = absurd m

-- one of two look-ups, by a test that is the same there
pub found_if : {A B : Type 0} {calm : Bool} {g : A → B} {b b' : Bool} {o q : Option A} {o' q' : Option B} → b' ≡ b
    → Found calm g o o' → Found calm g q q' → Found calm g (if b then o else q) (if b' then o' else q')
found_if {A} {B} {calm} {g} {b} {b'} {o} {q} {o'} {q'} e f h =
    subst (λ d. Found calm g (if b then o else q) (if d then o' else q')) (sym e) (at b)
  where
    at : (b : Bool) → Found calm g (if b then o else q) (if b then o' else q')
    at true = f
    at false = h

-- ---- lists

pub joined_found : {A B C D : Type 0} {calm : Bool} {g : A → B} {h : C → D} (up : A → Option (List C))
    (up' : B → Option (List D)) → ((x : A) → Found calm (map h) (up x) (up' (g x))) → (xs : List A)
    → Found calm (map h) (joined up xs) (joined up' (map g xs))
joined_found up up' f [] = some_found [] refl
joined_found {A} {B} {C} {D} {calm} {g} {h} up up' f (x ∷ xs) =
    found_bind _ _ (f x) (λ ys. found_bind _ _ (joined_found up up' f xs) (λ more. some_found (ys ++ more) (ap Some (sym (map-append h ys more)))))

pub is_some_so_found : {A B : Type 0} {calm : Bool} {g : A → B} (f : A → Option Bool) (f' : B → Option Bool)
    → ((x : A) → Found calm (λ b. b) (f x) (f' (g x))) → (xs : List A)
    → Found calm (λ b. b) (is_some_so f xs) (is_some_so f' (map g xs))
is_some_so_found f f' h [] = some_found false refl
is_some_so_found f f' h (x ∷ xs) =
    found_bind _ _ (h x) (λ b. found_if refl (some_found true refl) (is_some_so_found f f' h xs))

-- ---- names and records

module _ {calm : Bool} (S : Setting calm) where
  -- a core class, asked for there
  pub core_same : (i : Id) (n : ℕ) → nat_lt n core_count ≡ true → id_eq (lifted S.lift i) (boot_id n) ≡ id_eq i (boot_id n)
  core_same i n below = ap (λ j. id_eq (lifted S.lift i) j) (sym (S.core_stays n below)) ∙ S.apart i (boot_id n)

  pub core_same_back : (i : Id) (n : ℕ) → nat_lt n core_count ≡ true → id_eq (boot_id n) (lifted S.lift i) ≡ id_eq (boot_id n) i
  core_same_back i n below = ap (λ j. id_eq j (lifted S.lift i)) (sym (S.core_stays n below)) ∙ S.apart (boot_id n) i

  pub main_same : (i : Id) → id_eq (lifted_object S.lift i) main_id ≡ id_eq i main_id
  main_same i = ap (λ j. id_eq (lifted_object S.lift i) j) (sym S.main_stays) ∙ S.objects_apart i main_id

-- a module there is one here with constants of its own
pub module_like : (calm : Bool) (f : Names) (shown : Option ConstantPath → Text → Bool) (m m' : Module)
    → Modules calm f shown m m' → (c : Table Value) × (m' ≡ module_with f c m)
module_like true f shown m m' M = (m'.constants, M.others)
module_like false f shown m m' M = (ren_table f m.constants, M)

module _ {calm : Bool} {S : Setting calm} {w w' : World} (W : Worlds calm S w w') where
  -- what is found by a module's record, but for its constants
  pub module_bind : {C D : Type 0} {h : C → D} (k : Module → Option C) (k' : Module → Option D) (i : Id)
      → ((m : Module) (c : Table Value) → Found calm h (k m) (k' (module_with S.lift c m)))
      → Found calm h (bind (w.modules i) k) (bind (w'.modules (lifted S.lift i)) k')
  module_bind {C} {D} {h} k k' i f =
      met_bind calm (Modules calm S.lift (shows calm S w)) k k' (w.modules i) (w'.modules (lifted S.lift i)) (W.modules i) (λ m m' M.
      let like = module_like calm S.lift (shows calm S w) m m' M in
      subst (λ z. Found calm h (k m) (k' z)) (sym like.1) (f m like.0))

  pub module_map : {C D : Type 0} {h : C → D} (k : Module → C) (k' : Module → D) (i : Id)
      → ((m : Module) (c : Table Value) → k' (module_with S.lift c m) ≡ h (k m))
      → Found calm h (option_map k (w.modules i)) (option_map k' (w'.modules (lifted S.lift i)))
  module_map {C} {D} {h} k k' i f =
      met_map calm (Modules calm S.lift (shows calm S w)) k k' (w.modules i) (w'.modules (lifted S.lift i)) (W.modules i) (λ m m' M.
      let like = module_like calm S.lift (shows calm S w) m m' M in ap k' like.1 ∙ f m like.0)

  pub object_found : (i : Id) → Found calm (ren_object S.lift) (w.objects i) (w'.objects (lifted_object S.lift i))
  object_found i = record { so = at calm S (w.objects i) (w'.objects (lifted_object S.lift i)) (W.objects i) }
    where
      at : (c : Bool) (T : Setting c) (o o' : Option Object) → Met c (Objects T.lift) o o'
          → Renamed c (ren_object T.lift) o o'
      at c T (Some x) (Some y) m = ap Some m
      at c T (Some x) None m = absurd m
      at true T None o' m = tt
      at false T None None m = refl
      at false T None (Some y) m = absurd m

  pub object_bind : {C D : Type 0} {h : C → D} (k : Object → Option C) (k' : Object → Option D) (i : Id)
      → ((o : Object) → Found calm h (k o) (k' (ren_object S.lift o)))
      → Found calm h (bind (w.objects i) k) (bind (w'.objects (lifted_object S.lift i)) k')
  object_bind k k' i f = found_bind k k' (object_found i) f

  pub object_map : {C D : Type 0} {h : C → D} (k : Object → C) (k' : Object → D) (i : Id)
      → ((o : Object) → k' (ren_object S.lift o) ≡ h (k o))
      → Found calm h (option_map k (w.objects i)) (option_map k' (w'.objects (lifted_object S.lift i)))
  object_map k k' i f = found_map k k' (object_found i) f
