-- Changes of two worlds alike, which leave them alike in any setting: objects that are made and changed, variables of
-- modules, and meetings.
use Rattle.std.specs.Prelude.{◌≡◌, ◌+◌, Bool, true, false, [], Option, Some, None, if◌then◌else◌}
use Rattle.std.specs.Option.{option_map}
use Rattle.std.proofs.Common.{refl, sym, ap, ◌∙◌, subst}
use Rattle.zw_def.specs.Text.{Text}
use Rattle.zw_def.specs.ConstantPath.{ConstantPath}
use Rattle.zw_def_world.specs.Id.{Id, Records, id_eq, same_load, held_at, changed_at, with_record}
use Rattle.zw_def_world.specs.Value.{Value}
use Rattle.zw_def_world.specs.Table.{Table, at as at_name}
use Rattle.zw_def_world.specs.Record.{Module, Object}
use Rattle.zw_def_world.specs.World.{World, innermost_load, made_now, fresh, counted, with_object, with_module, at_object, at_module}
use Rattle.zw_def_world.specs.Meeting.{with_meeting}
use Rattle.zw_fresh.specs.Renaming.{lifted, lifted_object, ren_object, ren_table}
use Rattle.zw_fresh.specs.Alike.{IsThere, Setting, ChangesVariables, When, Met, Constant, Modules, module_with, shows, Objects, Worlds}

-- ---- records by their names

-- `name` says how each is named there
held_met : {A B : Type 0} (calm : Bool) (name : Id → Id) → ((i j : Id) → id_eq (name i) (name j) ≡ id_eq i j)
    → (R : A → B → Type 0) (i : Id) (x : Option A) (y : Option B) (records : Records A) (records' : Records B)
    → Met calm R x y → ((j : Id) → Met calm R (records j) (records' (name j)))
    → (j : Id) → Met calm R (held_at i x records j) (held_at (name i) y records' (name j))
held_met {A} {B} calm name apart R i x y records records' here all j =
    subst (λ b. Met calm R (if id_eq j i then x else records j) (if b then y else records' (name j)))
    (sym (apart j i)) (at (id_eq j i))
  where
    at : (b : Bool) → Met calm R (if b then x else records j) (if b then y else records' (name j))
    at true = here
    at false = all j

pub met_changed : {A B : Type 0} (calm : Bool) (R : A → B → Type 0) (g : A → A) (g' : B → B)
    → ((x : A) (y : B) → R x y → R (g x) (g' y)) → (o : Option A) (o' : Option B) → Met calm R o o'
    → Met calm R (option_map g o) (option_map g' o')
met_changed calm R g g' f (Some x) (Some y) m = f x y m
met_changed calm R g g' f (Some x) None m = absurd m
met_changed calm R g g' f None None m = tt
met_changed true R g g' f None (Some y) m = tt
met_changed false R g g' f None (Some y) m = absurd m

pub changed_met : {A B : Type 0} (calm : Bool) (name : Id → Id) → ((i j : Id) → id_eq (name i) (name j) ≡ id_eq i j)
    → (R : A → B → Type 0) (i : Id) (g : A → A) (g' : B → B) (records : Records A) (records' : Records B)
    → ((x : A) (y : B) → R x y → R (g x) (g' y)) → ((j : Id) → Met calm R (records j) (records' (name j)))
    → (j : Id) → Met calm R (changed_at i g records j) (changed_at (name i) g' records' (name j))
changed_met {A} {B} calm name apart R i g g' records records' f all j =
    held_met calm name apart R i _ _ records records' (met_changed calm R g g' f (records i) (records' (name i)) (all i)) all j

pub made_met : {A B : Type 0} (calm : Bool) (name : Id → Id) → ((i j : Id) → id_eq (name i) (name j) ≡ id_eq i j)
    → (R : A → B → Type 0) (i : Id) (x : A) (y : B) (records : Records A) (records' : Records B) → R x y
    → ((j : Id) → Met calm R (records j) (records' (name j)))
    → (j : Id) → Met calm R (with_record i x records j) (with_record (name i) y records' (name j))
made_met calm name apart R i x y records records' here all j = held_met calm name apart R i (Some x) (Some y) records records' here all j

-- ---- changes of variables

constants_stay : (g : Module → Module) → ChangesVariables g → (m : Module) → (g m).constants ≡ m.constants
constants_stay g l m = ap (λ k. k.constants) (l.rest m)

home_stays : (g : Module → Module) → ChangesVariables g → (m : Module) → (g m).home ≡ m.home
home_stays g l m = ap (λ k. k.home) (l.rest m)

-- ---- what is made next

module _ {calm : Bool} {S : Setting calm} {w w' : World} (W : Worlds calm S w w') where
  count_same : w'.counts (made_now w') ≡ w.counts (made_now w)
  count_same =
      ap (λ l. w'.counts (innermost_load l)) W.loads ∙ by calm W.calm_loads (W.counts (made_now w))
    where
      by : (c : Bool) → When c (w.loads ≡ []) (Unit {0})
          → When c (made_now w ≡ None → w'.counts (made_now w) ≡ w.counts (made_now w))
          (w'.counts (made_now w) ≡ w.counts (made_now w))
          → w'.counts (made_now w) ≡ w.counts (made_now w)
      by true o h = h (ap innermost_load o)
      by false o h = h

  fresh_there : fresh w' ≡ record (fresh w) { setup = S.setup_there w.setups }
  fresh_there = λ i. record { setup = W.setups i; load = innermost_load (W.loads i); count = count_same i }

  pub fresh_object : fresh w' ≡ lifted_object S.lift (fresh w)
  fresh_object = fresh_there ∙ S.object_named w

  -- a module that is made
  pub fresh_module : (i : Id) (n : Text) (made : Module) → S.within (with_module i n made w)
      → fresh w' ≡ lifted S.lift (fresh w)
  fresh_module i n made inside = fresh_there ∙ S.module_named w i n made inside

  pub counts_same : (l : Option ConstantPath)
      → When calm (l ≡ None → (counted w').counts l ≡ (counted w).counts l) ((counted w').counts l ≡ (counted w).counts l)
  counts_same l = by calm (W.counts l)
    where
      one : w'.counts l ≡ w.counts l → (counted w').counts l ≡ (counted w).counts l
      one e = λ i. if same_load l (innermost_load (W.loads i)) then count_same i + 1 else e i

      by : (c : Bool) → When c (l ≡ None → w'.counts l ≡ w.counts l) (w'.counts l ≡ w.counts l)
          → When c (l ≡ None → (counted w').counts l ≡ (counted w).counts l) ((counted w').counts l ≡ (counted w).counts l)
      by true h = λ e. one (h e)
      by false h = one h

  -- ---- objects

  pub made_same : (o : Object) → Worlds calm S (with_object o w) (with_object (ren_object S.lift o) w')
  made_same o = record {
    setups = W.setups;
    loads = W.loads;
    calm_loads = W.calm_loads;
    counts = counts_same;
    tree = W.tree;
    map = W.map;
    setting = W.setting;
    states = W.states;
    order = W.order;
    modules = W.modules;
    objects = λ j. subst
        (λ i. Met calm (Objects S.lift) (with_record (fresh w) o w.objects j)
        (with_record i (ren_object S.lift o) w'.objects (lifted_object S.lift j)))
        (sym fresh_object) (made_met calm S.lift.of_object S.objects_apart (Objects S.lift) (fresh w) o (ren_object S.lift o) w.objects w'.objects refl W.objects j);
    due = due calm S W.due;
  }
    where
      due : (c : Bool) (T : Setting c) → When c (T.due w w') (Unit {0})
          → When c (T.due (with_object o w) (with_object (ren_object S.lift o) w')) (Unit {0})
      due true T d = T.still_made w w' o (ren_object S.lift o) d
      due false T d = tt

  pub object_same : (i : Id) (g g' : Object → Object) → ((o : Object) → g' (ren_object S.lift o) ≡ ren_object S.lift (g o))
      → Worlds calm S (at_object i g w) (at_object (lifted_object S.lift i) g' w')
  object_same i g g' f = record {
    setups = W.setups;
    loads = W.loads;
    calm_loads = W.calm_loads;
    counts = W.counts;
    tree = W.tree;
    map = W.map;
    setting = W.setting;
    states = W.states;
    order = W.order;
    modules = W.modules;
    objects = changed_met calm S.lift.of_object S.objects_apart (Objects S.lift) i g g' w.objects w'.objects (λ x y e. ap g' e ∙ f x) W.objects;
    due = due calm S W.due;
  }
    where
      due : (c : Bool) (T : Setting c) → When c (T.due w w') (Unit {0})
          → When c (T.due (at_object i g w) (at_object (lifted_object T.lift i) g' w')) (Unit {0})
      due true T d = T.still_object w w' i g g' d
      due false T d = tt

  -- ---- modules

  -- a change of variables alone, of a module that is there
  pub variable_same : (i : Id) (g g' : Module → Module) → ChangesVariables g → ChangesVariables g'
      → ((m : Module) (c : Table Value) → g' (module_with S.lift c m) ≡ module_with S.lift c (g m))
      → IsThere (w.modules i) → Worlds calm S (at_module i g w) (at_module (lifted S.lift i) g' w')
  variable_same i g g' l l' f there = record {
    setups = W.setups;
    loads = W.loads;
    calm_loads = W.calm_loads;
    counts = W.counts;
    tree = W.tree;
    map = W.map;
    setting = W.setting;
    states = W.states;
    order = W.order;
    modules = changed_met calm S.lift.of_module S.apart (Modules calm S.lift (shows calm S w)) i g g' w.modules w'.modules
        (at calm (shows calm S w)) W.modules;
    objects = W.objects;
    due = due calm S W.due;
  }
    where
      at : (c : Bool) (shown : Option ConstantPath → Text → Bool) (m m' : Module) → Modules c S.lift shown m m'
          → Modules c S.lift shown (g m) (g' m')
      at true shown m m' M =
          let there = ap g' M.others ∙ f m m'.constants in
          record {
            others = there ∙ ap (λ c. module_with S.lift c (g m)) (sym (constants_stay g' l' m'));
            constants = λ n. subst (λ c. Constant (shown (g m).home n) S.lift (at_name n (g m).constants) (at_name n c)) (sym (constants_stay g' l' m'))
                (subst (λ c. Constant (shown (g m).home n) S.lift (at_name n c) (at_name n m'.constants)) (sym (constants_stay g l m))
                (subst (λ h. Constant (shown h n) S.lift (at_name n m.constants) (at_name n m'.constants)) (sym (home_stays g l m))
                (M.constants n)));
          }
      at false shown m m' M =
          ap g' M ∙ (f m _ ∙ ap (λ c. module_with S.lift c (g m)) (ap (ren_table S.lift) (sym (constants_stay g l m))))

      due : (c : Bool) (T : Setting c) → When c (T.due w w') (Unit {0})
          → When c (T.due (at_module i g w) (at_module (lifted T.lift i) g' w')) (Unit {0})
      due true T d = T.still_module w w' i g g' l l' there d
      due false T d = tt

  -- ---- meetings

  pub met_same : (h : Option ConstantPath) (n : Text) → Worlds calm S (with_meeting h n w) (with_meeting h n w')
  met_same h n = record {
    setups = W.setups;
    loads = W.loads;
    calm_loads = W.calm_loads;
    counts = W.counts;
    tree = W.tree;
    map = W.map;
    setting = W.setting;
    states = W.states;
    order = W.order;
    modules = W.modules;
    objects = W.objects;
    due = due calm S W.due;
  }
    where
      due : (c : Bool) (T : Setting c) → When c (T.due w w') (Unit {0})
          → When c (T.due (with_meeting h n w) (with_meeting h n w')) (Unit {0})
      due true T d = T.still_met w w' h n d
      due false T d = tt
