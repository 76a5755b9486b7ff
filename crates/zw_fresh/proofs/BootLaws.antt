-- The world before boot is alike to itself, and so is what boot leaves.
use Rattle.std.specs.Prelude.{◌≡◌, ℕ, nat_lt, Bool, true, false, List, [], ◌∷◌, codes, map, Some, None}
use Rattle.std.proofs.Common.{refl, sym, ap, subst}
use Rattle.zw_def.specs.Text.{Text}
use Rattle.zw_def.specs.ConstantPath.{ConstantPath}
use Rattle.zw_def_syntax.specs.Token.{Fault}
use Rattle.zw_def_syntax.specs.Program.{Parsed}
use Rattle.zw_def_world.specs.Id.{Id, boot_id, id_eq, with_record}
use Rattle.zw_def_world.specs.CoreClass.{core_count}
use Rattle.zw_def_world.specs.Value.{Value, module_at}
use Rattle.zw_def_world.specs.Table.{Table}
use Rattle.zw_def_world.specs.Record.{new_module, new_object, frozen_module, frozen_object}
use Rattle.zw_def_world.specs.Primitive.{Primitive, primitives_of}
use Rattle.zw_def_world.specs.CoreWorld.{method_of_primitive, zeitwerk_constants, object_constants, core_module, object_class, zeitwerk_module, core_modules, records_of, core_world}
use Rattle.zw_def_world.specs.World.{World, Setting as WorldSetting, all_frozen}
use Rattle.zw_def_world.specs.Act.{Act, Point, End}
use Rattle.zw_def_world.specs.Frame.{top_frame}
use Rattle.zw_def_world.specs.Load.{runs}
use Rattle.zw_def_world.specs.Evaluation.{run}
use Rattle.zw_fresh.specs.Renaming.{Names, lifted, lifted_object, ren, ren_methods, ren_table, ren_module}
use Rattle.zw_fresh.specs.Alike.{Setting, Met, Objects, Worlds, Points}
use Rattle.zw_fresh.specs.Naming.{no_old}
use Rattle.zw_fresh.proofs.ActLaws.{Alike}
use Rattle.zw_fresh.proofs.WorldLaws.{made_met, met_changed}
use Rattle.zw_fresh.proofs.SessionLaws.{ends_meet}

-- where boot ends
abbrev pub boot_end : WorldSetting → ℕ → (Fault → Text) → Parsed → End
boot_end setting budget fault_text parsed =
    runs (run budget 0) fault_text parsed
    (record { world = core_world setting; frame = top_frame []; left = budget; out = [] })

-- ---- records that a renaming leaves

methods_stay : (f : Names) (ps : List Primitive) → map method_of_primitive ps ≡ ren_methods f (map method_of_primitive ps)
methods_stay f [] = refl
methods_stay f (p ∷ ps) = ap (λ l. method_of_primitive p ∷ l) (methods_stay f ps)

module _ (S : Setting false) where
  class_stays : (is_class : Bool) (path : ConstantPath) (i : Id) (above : ℕ) (core : nat_lt above core_count ≡ true)
      → core_module i (new_module is_class path (Some (boot_id above)) None)
      ≡ ren_module S.lift (core_module i (new_module is_class path (Some (boot_id above)) None))
  class_stays is_class path i above core = λ k. record {
    is_class = is_class;
    path = path;
    superclass = Some (sym (S.core_stays above core) k);
    constants = [];
    methods = methods_stay S.lift (primitives_of i) k;
    singleton = [];
    includes = [];
    extensions = [];
    variables = [];
    class_variables = [];
    is_frozen = true;
    home = None;
  }

  base_stays : (is_class : Bool) (path : ConstantPath) (i : Id)
      → core_module i (new_module is_class path None None) ≡ ren_module S.lift (core_module i (new_module is_class path None None))
  base_stays is_class path i =
      ap (λ t. record (new_module is_class path None None) { methods = t; is_frozen = true }) (methods_stay S.lift (primitives_of i))

  abbrev Stay : Table Value → Type 0
  Stay [] = Unit {0}
  Stay (e ∷ es) = (e.1 ≡ ren S.lift e.1) × Stay es

  table_stays : (t : Table Value) → Stay t → t ≡ ren_table S.lift t
  table_stays [] h = refl
  table_stays (e ∷ es) h = λ k. (e.0, h.0 k) ∷ table_stays es h.1 k

  at_boot : (n : ℕ) → nat_lt n core_count ≡ true → module_at (boot_id n) ≡ module_at (lifted S.lift (boot_id n))
  at_boot n core = ap module_at (sym (S.core_stays n core))

  object_stays : object_class ≡ ren_module S.lift object_class
  object_stays = λ k. record {
    is_class = true;
    path = [];
    superclass = None;
    constants = table_stays object_constants (at_boot 0 refl, (at_boot 1 refl, (at_boot 2 refl, (at_boot 3 refl, (at_boot 4 refl, (at_boot 5 refl, (at_boot 6 refl, (at_boot 7 refl, (at_boot 8 refl, (at_boot 9 refl, (at_boot 10 refl, (at_boot 11 refl, (at_boot 12 refl, (at_boot 13 refl, (at_boot 14 refl, (at_boot 15 refl, (at_boot 16 refl, (at_boot 17 refl, (at_boot 18 refl, (at_boot 19 refl, (at_boot 20 refl, (at_boot 21 refl, (at_boot 22 refl, (at_boot 23 refl, (at_boot 24 refl, (at_boot 25 refl, tt)))))))))))))))))))))))))) k;
    methods = methods_stay S.lift (primitives_of (boot_id 0)) k;
    singleton = [];
    includes = sym (S.core_stays 1 refl) k ∷ [];
    extensions = [];
    variables = [];
    class_variables = [];
    is_frozen = true;
    home = None;
  }

  zeitwerk_stays : zeitwerk_module ≡ ren_module S.lift zeitwerk_module
  zeitwerk_stays = λ k. record {
    is_class = false;
    path = codes "Zeitwerk" ∷ [];
    superclass = None;
    constants = table_stays zeitwerk_constants (at_boot 26 refl, (at_boot 27 refl, (at_boot 28 refl, (at_boot 29 refl, tt)))) k;
    methods = methods_stay S.lift (primitives_of (boot_id 12)) k;
    singleton = [];
    includes = [];
    extensions = [];
    variables = [];
    class_variables = [];
    is_frozen = true;
    home = None;
  }

  abbrev AllStay : {A : Type 0} → (Id → Id) → (A → A → Type 0) → List (Id × A) → Type 0
  AllStay name R [] = Unit {0}
  AllStay name R (r ∷ rs) = (name r.0 ≡ r.0) × R r.1 r.1 × AllStay name R rs

  records_stay : {A : Type 0} (name : Id → Id) → ((i j : Id) → id_eq (name i) (name j) ≡ id_eq i j)
      → (R : A → A → Type 0) (rs : List (Id × A)) → AllStay name R rs → (j : Id)
      → Met false R (records_of rs j) (records_of rs (name j))
  records_stay name apart R [] h j = tt
  records_stay name apart R (r ∷ rs) h j =
      subst (λ i. Met false R (with_record r.0 r.1 (records_of rs) j) (with_record i r.1 (records_of rs) (name j)))
      h.0 (made_met false name apart R r.0 r.1 r.1 (records_of rs) (records_of rs) h.1 (records_stay name apart R rs h.2) j)

  core_stays : (j : Id) → Met false (λ m m'. m' ≡ ren_module S.lift m) (records_of core_modules j)
      (records_of core_modules (lifted S.lift j))
  core_stays = records_stay S.lift.of_module S.apart (λ m m'. m' ≡ ren_module S.lift m) core_modules (
    S.core_stays 0 refl,
    object_stays,
    (
      S.core_stays 1 refl,
      base_stays false (codes "Kernel" ∷ []) (boot_id 1),
      (
        S.core_stays 2 refl,
        class_stays true (codes "Module" ∷ []) (boot_id 2) 0 refl,
        (
          S.core_stays 3 refl,
          class_stays true (codes "Class" ∷ []) (boot_id 3) 2 refl,
          (
            S.core_stays 4 refl,
            class_stays true (codes "NilClass" ∷ []) (boot_id 4) 0 refl,
            (
              S.core_stays 5 refl,
              class_stays true (codes "TrueClass" ∷ []) (boot_id 5) 0 refl,
              (
                S.core_stays 6 refl,
                class_stays true (codes "FalseClass" ∷ []) (boot_id 6) 0 refl,
                (
                  S.core_stays 7 refl,
                  class_stays true (codes "Integer" ∷ []) (boot_id 7) 0 refl,
                  (
                    S.core_stays 8 refl,
                    class_stays true (codes "String" ∷ []) (boot_id 8) 0 refl,
                    (
                      S.core_stays 9 refl,
                      class_stays true (codes "Symbol" ∷ []) (boot_id 9) 0 refl,
                      (
                        S.core_stays 10 refl,
                        class_stays true (codes "Array" ∷ []) (boot_id 10) 0 refl,
                        (
                          S.core_stays 11 refl,
                          class_stays true (codes "Exception" ∷ []) (boot_id 11) 0 refl,
                          (
                            S.core_stays 12 refl,
                            zeitwerk_stays,
                            (
                              S.core_stays 13 refl,
                              class_stays true (codes "ScriptError" ∷ []) (boot_id 13) 11 refl,
                              (
                                S.core_stays 14 refl,
                                class_stays true (codes "StandardError" ∷ []) (boot_id 14) 11 refl,
                                (
                                  S.core_stays 15 refl,
                                  class_stays true (codes "SyntaxError" ∷ []) (boot_id 15) 13 refl,
                                  (
                                    S.core_stays 16 refl,
                                    class_stays true (codes "LoadError" ∷ []) (boot_id 16) 13 refl,
                                    (
                                      S.core_stays 17 refl,
                                      class_stays true (codes "ArgumentError" ∷ []) (boot_id 17) 14 refl,
                                      (
                                        S.core_stays 18 refl,
                                        class_stays true (codes "IndexError" ∷ []) (boot_id 18) 14 refl,
                                        (
                                          S.core_stays 19 refl,
                                          class_stays true (codes "NameError" ∷ []) (boot_id 19) 14 refl,
                                          (
                                            S.core_stays 20 refl,
                                            class_stays true (codes "RangeError" ∷ []) (boot_id 20) 14 refl,
                                            (
                                              S.core_stays 21 refl,
                                              class_stays true (codes "RuntimeError" ∷ []) (boot_id 21) 14 refl,
                                              (
                                                S.core_stays 22 refl,
                                                class_stays true (codes "TypeError" ∷ []) (boot_id 22) 14 refl,
                                                (
                                                  S.core_stays 23 refl,
                                                  class_stays true (codes "ZeroDivisionError" ∷ []) (boot_id 23) 14 refl,
                                                  (
                                                    S.core_stays 24 refl,
                                                    class_stays true (codes "NoMethodError" ∷ []) (boot_id 24) 19 refl,
                                                    (
                                                      S.core_stays 25 refl,
                                                      class_stays true (codes "FrozenError" ∷ []) (boot_id 25) 21 refl,
                                                      (
                                                        S.core_stays 26 refl,
                                                        class_stays true (codes "Zeitwerk" ∷ codes "Error" ∷ []) (boot_id 26) 14 refl,
                                                        (
                                                          S.core_stays 27 refl,
                                                          class_stays true (codes "Zeitwerk" ∷ codes "ReloadingDisabledError" ∷ []) (boot_id 27) 26 refl,
                                                          (
                                                            S.core_stays 28 refl,
                                                            class_stays true (codes "Zeitwerk" ∷ codes "SetupRequired" ∷ []) (boot_id 28) 26 refl,
                                                            (S.core_stays 29 refl, class_stays true (codes "Zeitwerk" ∷ codes "NameError" ∷ []) (boot_id 29) 19 refl, tt),
                                                          ),
                                                        ),
                                                      ),
                                                    ),
                                                  ),
                                                ),
                                              ),
                                            ),
                                          ),
                                        ),
                                      ),
                                    ),
                                  ),
                                ),
                              ),
                            ),
                          ),
                        ),
                      ),
                    ),
                  ),
                ),
              ),
            ),
          ),
        ),
      ),
    ),
  )

  -- ---- before boot, and after it

  pub core_alike : (setting : WorldSetting) → Worlds false S (core_world setting) (core_world setting)
  unfolding core_world
  core_alike setting = record {
    setups = sym S.zero_stays;
    loads = refl;
    calm_loads = tt;
    counts = λ l. refl;
    tree = refl;
    map = refl;
    setting = refl;
    states = λ p. refl;
    order = refl;
    modules = core_stays;
    objects = records_stay S.lift.of_object S.objects_apart (Objects S.lift) ((boot_id 30, new_object (boot_id 0)) ∷ [])
        (S.main_stays, ap new_object (sym (S.core_stays 0 refl)), tt);
    due = tt;
  }

  pub frozen_alike : {w w' : World} → Worlds false S w w' → Worlds false S (all_frozen w) (all_frozen w')
  frozen_alike {w} {w'} W = record {
    setups = W.setups;
    loads = W.loads;
    calm_loads = tt;
    counts = W.counts;
    tree = W.tree;
    map = W.map;
    setting = W.setting;
    states = W.states;
    order = W.order;
    modules = λ j. met_changed false (λ m m'. m' ≡ ren_module S.lift m) frozen_module frozen_module
        (λ x y e. ap frozen_module e) (w.modules j) (w'.modules (lifted S.lift j)) (W.modules j);
    objects = λ j. met_changed false (Objects S.lift) frozen_object frozen_object
        (λ x y e. ap frozen_object e) (w.objects j) (w'.objects (lifted_object S.lift j)) (W.objects j);
    due = tt;
  }

  -- an act that keeps points alike leaves a world that is alike to itself, where it begins in one
  pub self_alike : {m : Act} → Alike S no_old m m → (p : Point) → Points false S no_old p p → S.within (m p).at.world
      → Worlds false S (m p).at.world (m p).at.world
  self_alike {m} a p P inside = (ends_meet (m p) (m p) inside (a.acts p p P)).at.world
