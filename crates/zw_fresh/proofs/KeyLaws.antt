-- Changes of keys, of loads and of modules, where no key is stated.
use Rattle.std.specs.Prelude.{◌≡◌, ◌+◌, Bool, true, false, not, List, [], ◌∷◌, ◌++◌, map, filter, Option, Some, None, if◌then◌else◌}
use Rattle.std.specs.Option.{option_map_or}
use Rattle.std.proofs.Common.{refl, sym, ap, ◌∙◌, subst, le_refl}
use Rattle.std.proofs.lemmas.List.{map-append}
use Rattle.zw_def.specs.Text.{Text}
use Rattle.zw_def.specs.ConstantPath.{ConstantPath}
use Rattle.zw_def.specs.Nesting.{same_names, is_within, child}
use Rattle.zw_def.specs.Map.{Key, key_at}
use Rattle.zw_def_world.specs.Id.{Id, with_record}
use Rattle.zw_def_world.specs.Value.{Value, module_at}
use Rattle.zw_def_world.specs.Record.{Module, with_constant, homeless}
use Rattle.zw_def_world.specs.World.{World, State, Load, idle, loading, done, with_state, entered, left_load, rest_of, begun, settled, without_home, taken_back, fresh, counted, at_module, with_module, key_of, is_idle}
use Rattle.zw_def_world.specs.Table.{assigned}
use Rattle.zw_def_world.specs.LookUp.{if_idle, loadable}
use Rattle.zw_def_world.specs.Act.{Act, gave, changing, changing_module, in_module}
use Rattle.zw_def_world.proofs.EvolutionLaws.{in_module_keeps}
use Rattle.zw_fresh.specs.Renaming.{lifted, ren, ren_table, ren_module, ren_load}
use Rattle.zw_fresh.specs.Alike.{NoneLost, Setting, Met, Worlds, Ends}
use Rattle.zw_fresh.proofs.GrowingLaws.{changed_there}
use Rattle.zw_fresh.proofs.EndLaws.{Spends, ends_at}
use Rattle.zw_fresh.proofs.ActLaws.{Alike}
use Rattle.zw_fresh.proofs.TableLemmas.{assigned-made}
use Rattle.zw_fresh.proofs.WorldLaws.{counts_same, changed_met, made_met, met_changed}
use Rattle.zw_fresh.proofs.ChangeLaws.{read_met}

pub key_of_same : {calm : Bool} {S : Setting calm} {w w' : World} → Worlds calm S w w' → (h : Option ConstantPath)
    (n : Text) → key_of w' h n ≡ key_of w h n
key_of_same W None n = refl
key_of_same W (Some p) n = ap (λ m. key_at m (child p n)) W.map

-- ---- two worlds, where no key is stated

module _ {S : Setting false} {w w' : World} (W : Worlds false S w w') where
  pub state_same : (q : ConstantPath) (s : State) → Worlds false S (with_state q s w) (with_state q s w')
  state_same q s = record {
    setups = W.setups;
    loads = W.loads;
    calm_loads = tt;
    counts = W.counts;
    tree = W.tree;
    map = W.map;
    setting = W.setting;
    states = λ p k. if same_names p q then s else W.states p k;
    order = W.order;
    modules = W.modules;
    objects = W.objects;
    due = tt;
  }

  pub entered_same : (q : ConstantPath) → Worlds false S (entered q w) (entered q w')
  entered_same q = record {
    setups = W.setups;
    loads = ap (λ l. q ∷ l) W.loads;
    calm_loads = tt;
    counts = W.counts;
    tree = W.tree;
    map = W.map;
    setting = W.setting;
    states = W.states;
    order = W.order;
    modules = W.modules;
    objects = W.objects;
    due = tt;
  }

  pub left_same : Worlds false S (left_load w) (left_load w')
  left_same = record {
    setups = W.setups;
    loads = ap rest_of W.loads;
    calm_loads = tt;
    counts = W.counts;
    tree = W.tree;
    map = W.map;
    setting = W.setting;
    states = W.states;
    order = W.order;
    modules = W.modules;
    objects = W.objects;
    due = tt;
  }

  pub module_same : (i : Id) (g g' : Module → Module)
      → ((m : Module) → g' (ren_module S.lift m) ≡ ren_module S.lift (g m))
      → Worlds false S (at_module i g w) (at_module (lifted S.lift i) g' w')
  module_same i g g' f = record {
    setups = W.setups;
    loads = W.loads;
    calm_loads = tt;
    counts = W.counts;
    tree = W.tree;
    map = W.map;
    setting = W.setting;
    states = W.states;
    order = W.order;
    modules = changed_met false S.lift.of_module S.apart (λ m m'. m' ≡ ren_module S.lift m) i g g' w.modules w'.modules (λ x y e. ap g' e ∙ f x) W.modules;
    objects = W.objects;
    due = tt;
  }

  pub order_same : (os : List Load) (os' : List Load) → os' ≡ map (ren_load S.lift) os
      → Worlds false S (record w { load_order = os }) (record w' { load_order = os' })
  order_same os os' e = record {
    setups = W.setups;
    loads = W.loads;
    calm_loads = tt;
    counts = W.counts;
    tree = W.tree;
    map = W.map;
    setting = W.setting;
    states = W.states;
    order = e;
    modules = W.modules;
    objects = W.objects;
    due = tt;
  }

  counted_module_same : (made : Module) → fresh w' ≡ lifted S.lift (fresh w)
      → Worlds false S (record (counted w) { modules = with_record (fresh w) made w.modules })
      (record (counted w') { modules = with_record (fresh w') (ren_module S.lift made) w'.modules })
  counted_module_same made named = record {
    setups = W.setups;
    loads = W.loads;
    calm_loads = tt;
    counts = counts_same W;
    tree = W.tree;
    map = W.map;
    setting = W.setting;
    states = W.states;
    order = W.order;
    modules = λ j. subst
        (λ i. Met false (λ m m'. m' ≡ ren_module S.lift m) (with_record (fresh w) made w.modules j)
        (with_record i (ren_module S.lift made) w'.modules (lifted S.lift j)))
        (sym named) (made_met false S.lift.of_module S.apart (λ m m'. m' ≡ ren_module S.lift m) (fresh w) made (ren_module S.lift made) w.modules w'.modules refl W.modules j);
    objects = W.objects;
    due = tt;
  }

  homeless_same : (q : ConstantPath) (m : Module)
      → without_home q (ren_module S.lift m) ≡ ren_module S.lift (without_home q m)
  homeless_same q m = one (option_map_or (is_within q) m.home false)
    where
      one : (b : Bool) → (if b then homeless (ren_module S.lift m) else ren_module S.lift m)
          ≡ ren_module S.lift (if b then homeless m else m)
      one true = refl
      one false = refl

  kept_order : (q : ConstantPath) (os : List Load)
      → filter (λ l. not (is_within q l.key)) (map (ren_load S.lift) os)
      ≡ map (ren_load S.lift) (filter (λ l. not (is_within q l.key)) os)
  kept_order q [] = refl
  kept_order q (o ∷ os) = one (not (is_within q o.key)) (kept_order q os)
    where
      one : (b : Bool) → filter (λ l. not (is_within q l.key)) (map (ren_load S.lift) os)
          ≡ map (ren_load S.lift) (filter (λ l. not (is_within q l.key)) os)
          → (if b then ren_load S.lift o ∷ filter (λ l. not (is_within q l.key)) (map (ren_load S.lift) os)
          else filter (λ l. not (is_within q l.key)) (map (ren_load S.lift) os))
          ≡ map (ren_load S.lift) (if b then o ∷ filter (λ l. not (is_within q l.key)) os
          else filter (λ l. not (is_within q l.key)) os)
      one true e = ap (λ l. ren_load S.lift o ∷ l) e
      one false e = e

  pub taken_back_same : (q : ConstantPath) → Worlds false S (taken_back q w) (taken_back q w')
  taken_back_same q = record {
    setups = W.setups;
    loads = W.loads;
    calm_loads = tt;
    counts = W.counts;
    tree = W.tree;
    map = W.map;
    setting = W.setting;
    states = λ p k. if is_within q p then idle else W.states p k;
    order = ap (filter (λ l. not (is_within q l.key))) W.order ∙ kept_order q w.load_order;
    modules = λ j. met_changed false (λ m m'. m' ≡ ren_module S.lift m) (without_home q) (without_home q)
        (λ x y e. ap (without_home q) e ∙ homeless_same q x) (w.modules j) (w'.modules (lifted S.lift j)) (W.modules j);
    objects = W.objects;
    due = tt;
  }

  -- ---- keys

  if_idle_same : (o : Option Key) → if_idle w' o ≡ if_idle w o
  if_idle_same None = refl
  if_idle_same (Some k) = λ i. if is_idle (W.states k.path i) then Some k else None

  pub loadable_same : (h : Option ConstantPath) (n : Text) → loadable w' h n ≡ loadable w h n
  loadable_same h n = ap (if_idle w') (key_of_same W h n) ∙ if_idle_same (key_of w h n)

module _ {S : Setting false} {w w' : World} (W : Worlds false S w w') where
  pub begun_same : (q : ConstantPath) → Worlds false S (begun q w) (begun q w')
  begun_same q = entered_same (state_same W q loading) q

  pub settled_same : (q : ConstantPath) (i : Id) → Worlds false S (settled q i w) (settled q (lifted S.lift i) w')
  settled_same q i = order_same (state_same W q done) _ _
      (ap (λ l. l ++ record { key = q; parent = lifted S.lift i } ∷ []) W.order
      ∙ sym (map-append (ren_load S.lift) w.load_order (record { key = q; parent = i } ∷ [])))

  pub with_module_same : (i : Id) (n : Text) (made : Module) → fresh w' ≡ lifted S.lift (fresh w)
      → Worlds false S (with_module i n made w) (with_module (lifted S.lift i) n (ren_module S.lift made) w')
  with_module_same i n made named = module_same (counted_module_same W made named) i
      (with_constant n (module_at (fresh w))) (with_constant n (module_at (fresh w'))) (λ m.
      ap (λ t. record (ren_module S.lift m) { constants = t })
      (ap (λ j. assigned n (module_at j) (ren_table S.lift m.constants)) named
      ∙ assigned-made (ren S.lift) n (module_at (fresh w)) m.constants))

-- ---- acts

module _ {S : Setting false} {old : Text → Bool} where
  pub changes_alike : (g g' : World → World) → ((w w' : World) → Worlds false S w w' → Worlds false S (g w) (g' w'))
      → ((w : World) → NoneLost w (g w)) → (v : Value) → Alike S old (changing g v) (changing g' (ren S.lift v))
  changes_alike g g' same stays v = record {
    acts = λ p p' P. ends_at false S old (gave v) (record p { world = g p.world }) (record p' { world = g' p'.world })
        (record {
          world = same p.world p'.world P.world;
          frame = P.frame;
          plain = tt;
          left = ap (λ n. p'.left + n) (S.exact refl (g p.world).states ∙ sym (S.exact refl p.world.states)) ∙ P.left;
          out = P.out;
        });
    grows = record { kept = λ p. stays p.world };
    spends = record { kept = λ p. le_refl p.left };
  }

  -- a module's record
  pub in_record_alike : (i : Id) (k k' : Module → Act)
      → ((m : Module) → Alike S old (k m) (k' (ren_module S.lift m))) → ((m : Module) → Spends (k' m))
      → Alike S old (in_module i k) (in_module (lifted S.lift i) k')
  in_record_alike i k k' b l = record {
    acts = λ p p' P. read_met false S old (λ m m'. m' ≡ ren_module S.lift m) k k' p p' P (p.world.modules i)
        (p'.world.modules (lifted S.lift i)) (λ m m' at e.
        subst (λ z. Ends false S old (k m p) (k' z p')) (sym e) ((b m).acts p p' P)) (P.world.modules i);
    grows = in_module_keeps i (λ m. (b m).grows);
    spends = in_module_keeps (lifted S.lift i) l;
  }

  pub changing_module_alike : (i : Id) (g g' : Module → Module)
      → ((m : Module) → g' (ren_module S.lift m) ≡ ren_module S.lift (g m)) → (v : Value)
      → Alike S old (changing_module i g v) (changing_module (lifted S.lift i) g' (ren S.lift v))
  changing_module_alike i g g' f v = in_record_alike i _ _
      (λ m. changes_alike (at_module i g) (at_module (lifted S.lift i) g') (λ w w' W. module_same W i g g' f)
      (λ w. changed_there i g w.modules) v)
      (λ m. record { kept = λ p. le_refl p.left })
