-- In the setting of one namespace its load is owed, so what is handed in of a calm setting can be had.
use Rattle.std.specs.Prelude.{◌≡◌, ◌+◌, ◌-◌, Bool, true, false, [], ◌∷◌, ◌++◌, codes, filter, find, nat_lt, Option, Some, None, if◌then◌else◌}
use Rattle.std.specs.Option.{option_map}
use Rattle.std.proofs.Common.{refl, sym, ap, ◌∙◌, subst, inr, arith, ltb-true, ltb-false}
use Rattle.zw_def.specs.Text.{Text}
use Rattle.zw_def.specs.ConstantPath.{ConstantPath}
use Rattle.zw_def.specs.Nesting.{same_names, child}
use Rattle.zw_def.specs.Map.{Key, directory, key_at}
use Rattle.zw_def_syntax.specs.Tree.{Tree}
use Rattle.zw_def_world.specs.Id.{Id, id_eq}
use Rattle.zw_def_world.specs.CoreClass.{Object_class}
use Rattle.zw_def_world.specs.Value.{Value, nil, module_at}
use Rattle.zw_def_world.specs.Table.{at}
use Rattle.zw_def_world.specs.Record.{Module, with_constant}
use Rattle.zw_def_world.specs.World.{World, State, idle, loading, done, gone, is_idle, key_of, fresh, entered, settled, with_module}
use Rattle.zw_def_world.specs.LookUp.{if_idle}
use Rattle.zw_def_world.specs.Callback.{on_load, callbacks_for}
use Rattle.zw_def_world.specs.Log.{is_child_of, logs_each, opens, loaded_text}
use Rattle.zw_def_world.specs.Load.{wrong_or_act, loads_kind, makes_namespace, runs_callbacks, after_loading, is_done, leaves_load, loads}
use Rattle.zw_def_world.specs.Act.{Act, Point, gave, out_of_steps, ends, gives, continued, go_on, read, in_world, changing, spending, writes, ◌>>◌}
use Rattle.zw_def_world.specs.Evaluation.{run}
use Rattle.zw_fresh.specs.Alike.{IsThere, state_there, Worlds, Points}
use Rattle.zw_fresh.specs.CalmCode.{PlainMethods}
use Rattle.zw_fresh.specs.Calm.{IsOwed, LoadsAreOwed, Handed}
use Rattle.zw_fresh.proofs.NameLemmas.{apart, names_decide, id_eq_is}
use Rattle.zw_fresh.proofs.TableLemmas.{at-assigned}
use Rattle.zw_fresh.proofs.OptionLemmas.{none_some, some_same}
use Rattle.zw_fresh.proofs.CalmInstance.{name, path, key, namespace, Due, one_if, one_namespace}
use Rattle.zw_fresh.proofs.OwedModuleLaws.{made_in, after, with_namespace, not_object, modules_after}

-- ---- what is due after the load

-- a module after the load is the namespace, or has the methods and the home of one before
data Was (w : World) (j : Id) (m : Module) : Type 0 where
  the_namespace : m.methods ≡ [] → m.singleton ≡ [] → m.home ≡ Some path → Was w j m
  one_before : (m₀ : Module) → w.modules j ≡ Some m₀ → m.methods ≡ m₀.methods → m.singleton ≡ m₀.singleton
      → m.home ≡ m₀.home → Was w j m

was : (w : World) (j : Id) (m : Module) → (after w).modules j ≡ Some m → Was w j m
was w j m e = by (id_eq j Object_class) refl e
  where
    object_was : j ≡ Object_class → (o : Option Module) → w.modules Object_class ≡ o
        → option_map (with_constant name (module_at (made_in w))) o ≡ Some m → Was w j m
    object_was same None f g = none_some g
    object_was same (Some m₀) f g =
        let is = sym (some_same g) in
        one_before m₀ (ap w.modules same ∙ f) (ap (λ k. k.methods) is) (ap (λ k. k.singleton) is) (ap (λ k. k.home) is)

    other_was : (b : Bool) → (if b then Some namespace else w.modules j) ≡ Some m → Was w j m
    other_was true g =
        let is = sym (some_same g) in
        the_namespace (ap (λ k. k.methods) is) (ap (λ k. k.singleton) is) (ap (λ k. k.home) is)
    other_was false g = one_before m g refl refl refl

    by : (b : Bool) → id_eq j Object_class ≡ b
        → (if b then option_map (with_constant name (module_at (made_in w))) (with_namespace w Object_class) else with_namespace w j) ≡ Some m
        → Was w j m
    by true same g = object_was (id_eq_is j Object_class same) (w.modules Object_class) refl
        (sym (ap (λ b. option_map (with_constant name (module_at (made_in w))) (if b then Some namespace else w.modules Object_class))
        (not_object w Object_class refl)) ∙ g)
    by false same g = other_was (id_eq j (made_in w)) g

due_after : (w w' : World) → Due w w' → Due (after w) w'
due_after w w' D = record {
  map = D.map;
  logs = D.logs;
  callbacks = D.callbacks;
  names = D.names;
  loads = D.loads;
  plain = record { methods = λ j m e. methods j m (was w j m e); singleton = λ j m e. singleton j m (was w j m e) };
  homes = λ j m n e t. homes j m n t (was w j m e);
  owes = λ e. absurd (apart (sym (ap is_idle e)));
}
  where
    methods : (j : Id) (m : Module) → Was w j m → PlainMethods true m.methods
    methods j m (the_namespace a b c) = λ x method f. none_some (ap (at x) (sym a) ∙ f)
    methods j m (one_before m₀ e a b c) = λ x method f. D.plain.methods j m₀ e x method (ap (at x) (sym a) ∙ f)

    singleton : (j : Id) (m : Module) → Was w j m → PlainMethods true m.singleton
    singleton j m (the_namespace a b c) = λ x method f. none_some (ap (at x) (sym b) ∙ f)
    singleton j m (one_before m₀ e a b c) = λ x method f. D.plain.singleton j m₀ e x method (ap (at x) (sym b) ∙ f)

    homes : (j : Id) (m : Module) (n : Text) → IsThere (key_of w m.home n) → Was w j m → (j ≡ Object_class) × (n ≡ name)
    homes j m n t (the_namespace a b c) = absurd (subst (λ keys. IsThere (key_at keys (child path n))) D.map
        (subst (λ h. IsThere (key_of w h n)) c t))
    homes j m n t (one_before m₀ e a b c) = D.homes j m₀ n e (subst (λ h. IsThere (key_of w h n)) c t)

worlds_after : (w w' : World) → Worlds true one_namespace w w' → (m : Module) → w.modules Object_class ≡ Some m
    → w.states path ≡ idle → Worlds true one_namespace (after w) w'
worlds_after w w' W m e i = record {
  setups = W.setups;
  loads = W.loads;
  calm_loads = W.calm_loads;
  counts = λ l f. subst (λ k. w'.counts k ≡ (after w).counts k) (sym f) (W.counts None refl);
  tree = W.tree;
  map = W.map;
  setting = W.setting;
  states = λ p. state p (same_names p path) refl (W.states p);
  order = tt;
  modules = modules_after w w' W.due (W.due.owes i) m e W.modules;
  objects = W.objects;
  due = due_after w w' W.due;
}
  where
    state : (p : ConstantPath) (b : Bool) → same_names p path ≡ b → w'.states p ≡ state_there b (w.states p)
        → w'.states p ≡ state_there b (if b then done else w.states p)
    state p true f g = g ∙ ap (state_there true) (ap w.states ((names_decide p path).0 f) ∙ i)
    state p false f g = g

-- ---- the load

-- what it does behind its step
loaded : (go : Tree → Act) (q : Point) (w' : World) → Due q.world w' → (m : Module) → q.world.modules Object_class ≡ Some m
    → loads_kind go key Object_class name directory q ≡ gives nil (record q { world = after q.world })
loaded go q w' D m e =
    ap (λ o. wrong_or_act (makes_namespace go key Object_class name) o q) D.names
    ∙ (ap (λ o. continued leaves_load (read o (λ k. in_world fresh makes) (record q { world = entered path q.world }))) e
    ∙ (ap (λ ks. continued leaves_load (continued (go_on (λ u. is_done go key Object_class name)) (logs_each (filter (is_child_of path) ks) made))) D.map
    ∙ (ap (λ b. continued leaves_load (continued (go_on (λ u. after_loading go key Object_class name)) ((if b then writes (codes ". " ++ loaded_text path key.kind) else gives nil) there))) D.logs
    ∙ ap (λ cs. continued leaves_load (runs_callbacks go key Object_class name (callbacks_for on_load path cs) there)) D.callbacks)))
  where
    makes : Id → Act
    makes j = changing (with_module Object_class name namespace) nil >> (opens path >> is_done go key Object_class name)

    made : Point
    made = record q { world = with_module Object_class name namespace (entered path q.world) }

    there : Point
    there = record made { world = settled path Object_class made.world }

owed_here : (go : Tree → Act) (old : Text → Bool) (p p' : Point) → Points true one_namespace old p p' → (m : Module)
    → p.world.modules Object_class ≡ Some m → p.world.states path ≡ idle
    → IsOwed one_namespace old Object_class name (loads go key Object_class name p) p'
owed_here go old p p' P m e i = by (nat_lt p.left 1) refl
  where
    owed : p'.left + 1 ≡ p.left + 1
    owed = ap (λ s. p'.left + one_if (is_idle s)) (sym i) ∙ P.left

    over : {v : Value} {A : Type 0} → out_of_steps ≡ gave v → A
    over {v} {A} g = absurd (let never : ⊥ = cc in never)

    stands : (v : Value) (m₁ : Module) → (after p.world).modules Object_class ≡ Some m₁ → IsThere (at name m₁.constants)
    stands v m₁ h =
        let is = ap (λ b. option_map (with_constant name (module_at (made_in p.world))) (if b then Some namespace else p.world.modules Object_class))
        (sym (not_object p.world Object_class refl)) ∙ h in
        let same = some_same (ap (option_map (with_constant name (module_at (made_in p.world)))) (sym e) ∙ is) in
        subst (λ k. IsThere (at name k.constants)) same
        (subst IsThere (sym (at-assigned name (module_at (made_in p.world)) m.constants name)) tt)

    by : (b : Bool) → nat_lt p.left 1 ≡ b → IsOwed one_namespace old Object_class name
        ((if b then ends out_of_steps else spending 1 (loads_kind go key Object_class name directory)) p) p'
    by true f =
        let short = ltb-true p.left 1 f in
        let left = owed in
        record { ends = λ inside. inr (omega (arith, short, left)); there = λ v g. over g }
    by false f =
        let enough = ltb-false p.left 1 f in
        let due = owed in
        let left : p'.left + 0 ≡ (p.left - 1) + 1 = omega (arith, enough, due) in
        subst (λ end. IsOwed one_namespace old Object_class name end p')
        (sym (loaded go (record p { left = p.left - 1 }) p'.world P.world.due m e)) (record {
          ends = λ inside. record {
            flow = refl;
            at = record {
              world = worlds_after p.world p'.world P.world m e i;
              frame = P.frame;
              plain = P.plain;
              left = left;
              out = P.out;
            };
          };
          there = λ v g m₁ h. stands v m₁ h;
        })

-- ---- the key that would be loaded

loadable_was : (w : World) (o : Option Key) (k : Key) → if_idle w o ≡ Some k → (o ≡ Some k) × (w.states k.path ≡ idle)
loadable_was w None k e = none_some e
loadable_was w (Some k₀) k e = by (w.states k₀.path) refl e
  where
    by : (s : State) → w.states k₀.path ≡ s → (if is_idle s then Some k₀ else None) ≡ Some k
        → (Some k₀ ≡ Some k) × (w.states k.path ≡ idle)
    by idle f g = (g, ap (λ x. w.states x.path) (sym (some_same g)) ∙ f)
    by loading f g = none_some g
    by done f g = none_some g
    by gone f g = none_some g

found_one : (test : Key → Bool) (k₀ k : Key) → find test (k₀ ∷ []) ≡ Some k → k ≡ k₀
found_one test k₀ k e = by (test k₀) e
  where
    by : (b : Bool) → (if b then Some k₀ else None) ≡ Some k → k ≡ k₀
    by true f = sym (some_same f)
    by false f = none_some f

only_key : (w w' : World) → Due w w' → (h : Option ConstantPath) (n : Text) (k : Key) → key_of w h n ≡ Some k → k ≡ key
only_key w w' D None n k e = none_some e
only_key w w' D (Some p) n k e =
    found_one (λ x. same_names x.path (child p n)) key k (ap (λ keys. key_at keys (child p n)) (sym D.map) ∙ e)

all_owed : (go : Tree → Act) → LoadsAreOwed one_namespace go
all_owed go old p p' P i m n k e f g =
    let D = P.world.due in
    let known = loadable_was p.world (key_of p.world m.home n) k g in
    let only = only_key p.world p'.world D m.home n k known.0 in
    let home = D.homes i m n e (subst IsThere (sym known.0) tt) in
    subst (λ x. (same_names x.path path ≡ true) × IsOwed one_namespace old i n (loads go x i n p) p') (sym only)
    (subst (λ x. (same_names path path ≡ true) × IsOwed one_namespace old i x (loads go key i x p) p') (sym home.1)
    (subst (λ x. (same_names path path ≡ true) × IsOwed one_namespace old x name (loads go key x name p) p') (sym home.0)
    (refl, owed_here go old p p' P m (ap p.world.modules (sym home.0) ∙ e) (ap (λ x. p.world.states x.path) (sym only) ∙ known.1))))

pub namespace_handed : Handed one_namespace
namespace_handed = record { plain = λ w w' W. W.due.plain; loads = λ n level alike. all_owed (run n level) }
