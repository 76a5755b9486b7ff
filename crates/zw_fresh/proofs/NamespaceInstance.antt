-- Two points that are alike in the setting of one namespace: before its load, over the core classes, and after it. So
-- the law for calm settings speaks of a load that is owed.
use Rattle.std.specs.Prelude.{◌≡◌, ◌⊎◌, ℕ, ◌&&◌, Bool, true, false, [], ◌∷◌, Option, Some, None, if◌then◌else◌}
use Rattle.std.specs.Option.{option_map_or}
use Rattle.std.specs.Str.{bytes_eq}
use Rattle.std.proofs.Common.{refl, sym, ap, ◌∙◌, subst, inl, inr}
use Rattle.std.proofs.lemmas.Slice.Eq.{bytes_eq-Decides}
use Rattle.zw_def.specs.Text.{Text}
use Rattle.zw_def.specs.Nesting.{same_names}
use Rattle.zw_def.specs.Map.{key_at}
use Rattle.zw_def.specs.Wrong.{wrong_below}
use Rattle.zw_def_world.specs.Id.{Id, id_eq, changed_at}
use Rattle.zw_def_world.specs.CoreClass.{Object_class, main_id}
use Rattle.zw_def_world.specs.Value.{Value, module_at}
use Rattle.zw_def_world.specs.Table.{at, assigned}
use Rattle.zw_def_world.specs.Record.{Module, Object, new_object, with_constant, with_home}
use Rattle.zw_def_world.specs.World.{World, Setting as WorldSetting, idle, done, key_of}
use Rattle.zw_def_world.specs.CoreWorld.{object_class, records_of}
use Rattle.zw_def_world.specs.LookUp.{if_idle}
use Rattle.zw_def_world.specs.Frame.{top_frame}
use Rattle.zw_fresh.specs.CalmCode.{PlainMethods, PlainWorld}
use Rattle.zw_fresh.specs.Alike.{IsThere, Met, Constant, Modules, Objects, state_there, shows, Worlds, Points}
use Rattle.zw_fresh.specs.Naming.{no_old}
use Rattle.zw_fresh.proofs.NameLemmas.{id_eq_is}
use Rattle.zw_fresh.proofs.TableLemmas.{at-assigned}
use Rattle.zw_fresh.proofs.FrameLaws.{top_frames}
use Rattle.zw_fresh.proofs.OptionLemmas.{some_same}
use Rattle.zw_fresh.proofs.CalmInstance.{name, path, key, namespace, namespace_id, Due, as_named, one_namespace}
use Rattle.zw_fresh.proofs.CorePlainLaws.{core, core_so, core_methods, core_singleton, core_homeless}
use Rattle.zw_fresh.proofs.OwedModuleLaws.{made_in, after}
use Rattle.zw_fresh.proofs.SelfLemmas.{value_self, module_self, object_self}

-- ---- the world before the load

-- over a setting that has no callbacks, writes no log and tells of no wrong name
module _ (setting : WorldSetting) (logs : setting.logs ≡ false) (callbacks : setting.callbacks ≡ [])
    (names : wrong_below setting.layout [] path ≡ None) where
  abbrev object_here : Module
  object_here = with_home [] object_class

  abbrev before : World
  before = record {
    modules = changed_at Object_class (with_home []) core;
    objects = records_of ((main_id, new_object Object_class) ∷ []);
    setups = 1;
    loads = [];
    counts = λ load. 0;
    tree = [];
    map = key ∷ [];
    states = λ p. idle;
    load_order = [];
    meeting = None;
    setting = setting;
  }

  module_before : (j : Id) (m : Module) → before.modules j ≡ Some m
      → ((j ≡ Object_class) × (object_here ≡ m)) ⊎ (core j ≡ Some m)
  module_before j m e = by (id_eq j Object_class) refl e
    where
      by : (b : Bool) → id_eq j Object_class ≡ b → (if b then Some object_here else core j) ≡ Some m
          → ((j ≡ Object_class) × (object_here ≡ m)) ⊎ (core j ≡ Some m)
      by true f g = inl (id_eq_is j Object_class f, some_same g)
      by false f g = inr g

  plain_before : PlainWorld true before
  plain_before = record {
    methods = λ j m e. methods m (module_before j m e);
    singleton = λ j m e. singleton m (module_before j m e);
  }
    where
      methods : {j : Id} (m : Module) → ((j ≡ Object_class) × (object_here ≡ m)) ⊎ (core j ≡ Some m) → PlainMethods true m.methods
      methods {j} m (inl o) = subst (λ k. PlainMethods true k.methods) o.1 (core_methods object_class refl)
      methods {j} m (inr e) = core_methods m (core_so j m e)

      singleton : {j : Id} (m : Module) → ((j ≡ Object_class) × (object_here ≡ m)) ⊎ (core j ≡ Some m) → PlainMethods true m.singleton
      singleton {j} m (inl o) = subst (λ k. PlainMethods true k.singleton) o.1 (core_singleton object_class refl)
      singleton {j} m (inr e) = core_singleton m (core_so j m e)

  -- the key of Object's one name
  key_there : (n : Text) → IsThere (key_at (key ∷ []) (n ∷ [])) → n ≡ name
  key_there n t = by (bytes_eq name n) refl t
    where
      by : (b : Bool) → bytes_eq name n ≡ b → IsThere (if b && true then Some key else None) → n ≡ name
      by true f g = sym ((bytes_eq-Decides name n).0 f)
      by false f g = absurd g

  due_before : Due before (after before)
  due_before = record {
    map = refl;
    logs = logs;
    callbacks = callbacks;
    names = names;
    loads = refl;
    plain = plain_before;
    homes = λ j m n e t. homes n t (module_before j m e);
    owes = λ e. record { uncounted = refl; absent = refl; made = refl; set = λ m f. set m f };
  }
    where
      homes : {j : Id} {m : Module} (n : Text) → IsThere (key_of before m.home n)
          → ((j ≡ Object_class) × (object_here ≡ m)) ⊎ (core j ≡ Some m) → (j ≡ Object_class) × (n ≡ name)
      homes {j} {m} n t (inl o) = (o.0, key_there n (subst (λ k. IsThere (key_of before k.home n)) (sym o.1) t))
      homes {j} {m} n t (inr e) =
          absurd (subst (λ h. IsThere (key_of before h n)) (core_homeless m (core_so j m e)) t)

      set : (m : Module) → (after before).modules Object_class ≡ Some m → at name m.constants ≡ Some (module_at (namespace_id 1))
      set m f = ap (λ k. at name k.constants) (sym (some_same f))
          ∙ at-assigned name (module_at (made_in before)) object_here.constants name

  -- ---- the worlds

  same_constant : (o : Option Value) → Constant false as_named o o
  same_constant None = refl
  same_constant (Some v) = ap Some (sym (value_self v))

  object_met : Modules true as_named (shows true one_namespace before) object_here (with_constant name (module_at (made_in before)) object_here)
  object_met = record {
    others = ap {B = Module} (λ (m : Module). record m { constants = assigned name (module_at (made_in before)) object_here.constants }) (sym (module_self object_here));
    constants = λ x. subst (Constant (shows true one_namespace before (Some []) x) as_named (at x object_here.constants))
        (sym (at-assigned name (module_at (made_in before)) object_here.constants x)) (one x (bytes_eq name x) refl);
  }
    where
      one : (x : Text) (b : Bool) → bytes_eq name x ≡ b
          → Constant (shows true one_namespace before (Some []) x) as_named (at x object_here.constants)
          (if b then Some (module_at (made_in before)) else at x object_here.constants)
      one x true f = subst (λ y. Constant (shows true one_namespace before (Some []) y) as_named (at y object_here.constants)
          (Some (module_at (made_in before)))) ((bytes_eq-Decides name x).0 f) (module_at (made_in before), refl)
      one x false f = subst (λ b. Constant b as_named (at x object_here.constants) (at x object_here.constants))
          (sym (ap (λ b. option_map_or (λ k. same_names k.path path) (if_idle before (if b && true then Some key else None)) false) f))
          (same_constant (at x object_here.constants))

  core_met : (j : Id) (o : Option Module) → core j ≡ o → Met true (Modules true as_named (shows true one_namespace before)) o o
  core_met j None e = tt
  core_met j (Some m) e = record {
    others = ap {B = Module} (λ (k : Module). record k { constants = m.constants }) (sym (module_self m));
    constants = λ x. subst (λ h. Constant (shows true one_namespace before h x) as_named (at x m.constants) (at x m.constants))
        (sym (core_homeless m (core_so j m e))) (same_constant (at x m.constants));
  }

  modules_met : (j : Id) → Met true (Modules true as_named (shows true one_namespace before)) (before.modules j) ((after before).modules j)
  modules_met j = by (id_eq j Object_class) refl
    where
      other : (c : Bool) → id_eq j (made_in before) ≡ c
          → Met true (Modules true as_named (shows true one_namespace before)) (core j) (if c then Some namespace else core j)
      other true f = subst (λ i. Met true (Modules true as_named (shows true one_namespace before)) (core i) (Some namespace))
          (sym (id_eq_is j (made_in before) f)) tt
      other false f = core_met j (core j) refl

      by : (b : Bool) → id_eq j Object_class ≡ b
          → Met true (Modules true as_named (shows true one_namespace before)) (if b then Some object_here else core j)
          (if b then Some (with_constant name (module_at (made_in before)) object_here)
          else (if id_eq j (made_in before) then Some namespace else (if b then Some object_here else core j)))
      by true f = object_met
      by false f = other (id_eq j (made_in before)) refl

  objects_met : (o : Option Object) → Met true (Objects as_named) o o
  objects_met None = tt
  objects_met (Some o) = sym (object_self o)

  worlds_alike : Worlds true one_namespace before (after before)
  worlds_alike = record {
    setups = refl;
    loads = refl;
    calm_loads = refl;
    counts = λ l e. subst (λ k. (after before).counts k ≡ 0) (sym e) refl;
    tree = refl;
    map = refl;
    setting = refl;
    states = λ p. state (same_names p path);
    order = tt;
    modules = modules_met;
    objects = λ i. objects_met (before.objects i);
    due = due_before;
  }
    where
      state : (b : Bool) → (if b then done else idle) ≡ state_there b idle
      state true = refl
      state false = refl

  -- with the same budget here and there, one step is owed
  pub namespace_points : (budget : ℕ) → Points true one_namespace no_old
      (record { world = before; frame = top_frame []; left = budget; out = [] })
      (record { world = after before; frame = top_frame []; left = budget; out = [] })
  namespace_points budget = record {
    world = worlds_alike;
    frame = top_frames one_namespace [];
    plain = tt;
    left = refl;
    out = ([], refl, refl);
  }
