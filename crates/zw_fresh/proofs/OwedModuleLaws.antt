-- In the setting of one namespace modules are alike after its load, where they were before.
use Rattle.std.specs.Prelude.{◌≡◌, Bool, true, false, Option, Some, None, if◌then◌else◌}
use Rattle.std.specs.Str.{bytes_eq}
use Rattle.std.specs.Option.{option_map, option_map_or}
use Rattle.std.proofs.Common.{refl, sym, ap, ◌∙◌, subst}
use Rattle.std.proofs.lemmas.Slice.Eq.{bytes_eq-Decides}
use Rattle.zw_def.specs.Text.{Text}
use Rattle.zw_def.specs.ConstantPath.{ConstantPath}
use Rattle.zw_def.specs.Nesting.{same_names}
use Rattle.zw_def.specs.Map.{Key}
use Rattle.zw_def_world.specs.Id.{Id, Records, id_eq, with_record}
use Rattle.zw_def_world.specs.CoreClass.{Object_class}
use Rattle.zw_def_world.specs.Value.{module_at}
use Rattle.zw_def_world.specs.Table.{at, assigned}
use Rattle.zw_def_world.specs.Record.{Module, with_constant}
use Rattle.zw_def_world.specs.World.{World, done, is_idle, key_of, fresh, entered, left_load, settled, with_module}
use Rattle.zw_def_world.specs.LookUp.{if_idle}
use Rattle.zw_fresh.specs.Alike.{IsThere, Met, Constant, Modules, shows}
use Rattle.zw_fresh.proofs.NameLemmas.{apart, id_eq_is}
use Rattle.zw_fresh.proofs.TableLemmas.{at-assigned}
use Rattle.zw_fresh.proofs.OptionLemmas.{none_some}
use Rattle.zw_fresh.proofs.CalmInstance.{name, path, namespace, namespace_id, Owes, Due, one_namespace}

-- ---- what stands after the load

abbrev pub made_in : World → Id
made_in w = fresh (entered path w)

abbrev pub after : World → World
after w = left_load (settled path Object_class (with_module Object_class name namespace (entered path w)))

-- the records, before the constant is set
abbrev pub with_namespace : World → Records Module
with_namespace w = with_record (made_in w) namespace w.modules

named_so : (w w' : World) → Owes w w' → made_in w ≡ namespace_id w.setups
named_so w w' O = λ k. record { setup = w.setups; load = Some path; count = O.uncounted k }

-- Object is no module that a load made
pub not_object : (w : World) (j : Id) → j ≡ Object_class → id_eq j (made_in w) ≡ false
not_object w j e = by (id_eq j (made_in w)) refl
  where
    by : (b : Bool) → id_eq j (made_in w) ≡ b → b ≡ false
    by true f = none_some (ap (λ i. i.load) (sym e ∙ id_eq_is j (made_in w) f))
    by false f = refl

-- ---- no constant is owed any more

not_shown_after : (w : World) (h : Option ConstantPath) (n : Text) → shows true one_namespace (after w) h n ≡ false
not_shown_after w h n = at (key_of w h n)
  where
    by : (k : Key) (b c : Bool) → same_names k.path path ≡ b → (b ≡ true → c ≡ false)
        → option_map_or (λ x. same_names x.path path) (if c then Some k else None) false ≡ false
    by k true true e f = absurd (apart (f refl))
    by k true false e f = refl
    by k false true e f = e
    by k false false e f = refl

    settled_state : (k : Key) (b : Bool) → b ≡ true → is_idle (if b then done else w.states k.path) ≡ false
    settled_state k b e = ap (λ c. is_idle (if c then done else w.states k.path)) e

    at : (o : Option Key) → option_map_or (λ k. same_names k.path path) (if_idle (after w) o) false ≡ false
    at None = refl
    at (Some k) = by k (same_names k.path path) (is_idle (if same_names k.path path then done else w.states k.path)) refl
        (settled_state k (same_names k.path path))

-- before, the constant of Object alone is
not_shown_before : (w : World) (h : Option ConstantPath) (n : Text) → (IsThere (key_of w h n) → ⊥)
    → shows true one_namespace w h n ≡ false
not_shown_before w h n none = at (key_of w h n) none
  where
    at : (o : Option Key) → (IsThere o → ⊥) → option_map_or (λ k. same_names k.path path) (if_idle w o) false ≡ false
    at None f = refl
    at (Some k) f = absurd (f tt)

-- ---- the modules are alike after it

module _ (w w' : World) (D : Due w w') (O : Owes w w') where
  -- a module that is left
  module_left : (j : Id) → (j ≡ Object_class → ⊥) → (o o' : Option Module) → w.modules j ≡ o
      → Met true (Modules true one_namespace.lift (shows true one_namespace w)) o o'
      → Met true (Modules true one_namespace.lift (shows true one_namespace (after w))) o o'
  module_left j other None None e M = tt
  module_left j other None (Some m') e M = tt
  module_left j other (Some m) None e M = M
  module_left j other (Some m) (Some m') e M = record {
    others = M.others;
    constants = λ x. subst (λ b. Constant b one_namespace.lift (at x m.constants) (at x m'.constants))
        (sym (not_shown_after w m.home x))
        (subst (λ b. Constant b one_namespace.lift (at x m.constants) (at x m'.constants))
        (not_shown_before w m.home x (λ t. other (D.homes j m x e t).0)) (M.constants x));
  }

  -- Object, which got the constant
  object_set : (m : Module) → w.modules Object_class ≡ Some m → (o' : Option Module) → w'.modules Object_class ≡ o'
      → Met true (Modules true one_namespace.lift (shows true one_namespace w)) (Some m) o'
      → Met true (Modules true one_namespace.lift (shows true one_namespace (after w)))
      (Some (with_constant name (module_at (made_in w)) m)) o'
  object_set m e None e' M = M
  object_set m e (Some m') e' M = record {
    others = M.others;
    constants = λ x. subst (λ b. Constant b one_namespace.lift (at x (assigned name (module_at (made_in w)) m.constants)) (at x m'.constants))
        (sym (not_shown_after w m.home x))
        (subst (λ o. Constant false one_namespace.lift o (at x m'.constants))
        (sym (at-assigned name (module_at (made_in w)) m.constants x)) (one x (bytes_eq name x) refl));
  }
    where
      one : (x : Text) (b : Bool) → bytes_eq name x ≡ b
          → Constant false one_namespace.lift (if b then Some (module_at (made_in w)) else at x m.constants) (at x m'.constants)
      one x true f = ap (λ y. at y m'.constants) (sym ((bytes_eq-Decides name x).0 f))
          ∙ (O.set m' e' ∙ ap (λ i. Some (module_at i)) (sym (named_so w w' O)))
      one x false f = subst (λ b. Constant b one_namespace.lift (at x m.constants) (at x m'.constants))
          (not_shown_before w m.home x (λ t. apart (sym ((bytes_eq-Decides name x).1 (sym (D.homes Object_class m x e t).1)) ∙ f)))
          (M.constants x)

  -- the namespace
  namespace_met : (j : Id) → j ≡ made_in w → (o' : Option Module) → w'.modules j ≡ o'
      → Met true (Modules true one_namespace.lift (shows true one_namespace (after w))) (Some namespace) o'
  namespace_met j e o' e' =
      subst (Met true (Modules true one_namespace.lift (shows true one_namespace (after w))) (Some namespace))
      (sym O.made ∙ (ap w'.modules (sym (e ∙ named_so w w' O)) ∙ e')) (record {
        others = refl;
        constants = λ x. subst (λ b. Constant b one_namespace.lift None None) (sym (not_shown_after w (Some path) x)) refl;
      })

  -- what is no module of Object's
  other_met : (j : Id) → (j ≡ Object_class → ⊥) → Met true (Modules true one_namespace.lift (shows true one_namespace w)) (w.modules j) (w'.modules j)
      → (b : Bool) → id_eq j (made_in w) ≡ b
      → Met true (Modules true one_namespace.lift (shows true one_namespace (after w))) (if b then Some namespace else w.modules j) (w'.modules j)
  other_met j other M true e = namespace_met j (id_eq_is j (made_in w) e) (w'.modules j) refl
  other_met j other M false e = module_left j other (w.modules j) (w'.modules j) refl M

  object_met : (m : Module) → w.modules Object_class ≡ Some m
      → Met true (Modules true one_namespace.lift (shows true one_namespace w)) (w.modules Object_class) (w'.modules Object_class)
      → Met true (Modules true one_namespace.lift (shows true one_namespace (after w)))
      (option_map (with_constant name (module_at (made_in w))) (with_namespace w Object_class)) (w'.modules Object_class)
  object_met m e M =
      let is = ap (λ b. if b then Some namespace else w.modules Object_class) (not_object w Object_class refl) ∙ e in
      subst (λ o. Met true (Modules true one_namespace.lift (shows true one_namespace (after w)))
      (option_map (with_constant name (module_at (made_in w))) o) (w'.modules Object_class)) (sym is)
      (object_set m e (w'.modules Object_class) refl
      (subst (λ o. Met true (Modules true one_namespace.lift (shows true one_namespace w)) o (w'.modules Object_class)) e M))

  pub modules_after : (m : Module) → w.modules Object_class ≡ Some m
      → ((j : Id) → Met true (Modules true one_namespace.lift (shows true one_namespace w)) (w.modules j) (w'.modules j))
      → (j : Id)
      → Met true (Modules true one_namespace.lift (shows true one_namespace (after w))) ((after w).modules j) (w'.modules j)
  modules_after m e M j = by (id_eq j Object_class) refl
    where
      by : (b : Bool) → id_eq j Object_class ≡ b
          → Met true (Modules true one_namespace.lift (shows true one_namespace (after w)))
          (if b then option_map (with_constant name (module_at (made_in w))) (with_namespace w Object_class) else with_namespace w j)
          (w'.modules j)
      by true f = subst (λ k. Met true (Modules true one_namespace.lift (shows true one_namespace (after w)))
          (option_map (with_constant name (module_at (made_in w))) (with_namespace w Object_class)) (w'.modules k))
          (sym (id_eq_is j Object_class f)) (object_met m e (M Object_class))
      by false f = other_met j (λ same. apart (sym (ap (λ k. id_eq k Object_class) same) ∙ f)) (M j) (id_eq j (made_in w)) refl
