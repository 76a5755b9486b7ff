-- A calm setting in which a load is owed: one namespace is to be loaded into Object. What is due of it, and that what
-- plain programs change leaves it.
use Rattle.std.specs.Prelude.{◌≡◌, ℕ, ◌+◌, ◌≤◌, Bool, true, false, [], ◌∷◌, codes, Option, Some, None, if◌then◌else◌}
use Rattle.std.specs.Option.{option_map}
use Rattle.std.proofs.Common.{refl, sym, ap, ◌∙◌, subst, arith}
use Rattle.zw_def.specs.Text.{Text}
use Rattle.zw_def.specs.ConstantPath.{ConstantPath}
use Rattle.zw_def.specs.Nesting.{same_names}
use Rattle.zw_def.specs.Map.{Key, directory}
use Rattle.zw_def.specs.Wrong.{wrong_below}
use Rattle.zw_def_world.specs.Id.{Id, Records, id_eq, same_load, changed_at}
use Rattle.zw_def_world.specs.CoreClass.{Object_class}
use Rattle.zw_def_world.specs.Value.{module_at}
use Rattle.zw_def_world.specs.Table.{at}
use Rattle.zw_def_world.specs.Record.{Module, Object, new_module}
use Rattle.zw_def_world.specs.World.{World, idle, is_idle, key_of, innermost_load, with_object, at_object, at_module}
use Rattle.zw_def_world.specs.Meeting.{with_meeting}
use Rattle.zw_fresh.specs.CalmCode.{PlainWorld}
use Rattle.zw_fresh.specs.Renaming.{Names}
use Rattle.zw_fresh.specs.Alike.{IsThere, ChangesVariables, Setting}
use Rattle.zw_fresh.proofs.OptionLemmas.{some_same, none_some}
use Rattle.zw_fresh.proofs.NameLemmas.{apart, id_eq_is}

-- ---- the namespace, and its module

abbrev pub name : Text
name = codes "A"

abbrev pub path : ConstantPath
path = name ∷ []

abbrev pub key : Key
key = record { path = path; kind = directory; directories = [] }

abbrev pub namespace : Module
namespace = new_module false path None (Some path)

-- how its module is named, after so many setups
abbrev pub namespace_id : ℕ → Id
namespace_id setups = record { setup = setups; load = Some path; count = 0 }

-- ---- what is due

-- the namespace is not loaded here, and stands in Object there
pub record Owes (w w' : World) : Type 0 where
  pub uncounted : w.counts (Some path) ≡ 0
  pub absent : w.modules (namespace_id w.setups) ≡ None
  pub made : w'.modules (namespace_id w.setups) ≡ Some namespace
  pub set : (m : Module) → w'.modules Object_class ≡ Some m → at name m.constants ≡ Some (module_at (namespace_id w.setups))

-- its key is the only one, and nothing is seen of its load but its constant
pub record Due (w w' : World) : Type 0 where
  pub map : w.map ≡ key ∷ []
  pub logs : w.setting.logs ≡ false
  pub callbacks : w.setting.callbacks ≡ []
  pub names : wrong_below w.setting.layout w.tree path ≡ None
  pub loads : w.loads ≡ []
  pub plain : PlainWorld true w
  pub homes : (i : Id) (m : Module) (n : Text) → w.modules i ≡ Some m → IsThere (key_of w m.home n)
      → (i ≡ Object_class) × (n ≡ name)
  pub owes : w.states path ≡ idle → Owes w w'

-- ---- what plain programs change, leaves it

pub still_made : (w w' : World) (o o' : Object) → Due w w' → Due (with_object o w) (with_object o' w')
still_made w w' o o' D = record {
  map = D.map;
  logs = D.logs;
  callbacks = D.callbacks;
  names = D.names;
  loads = D.loads;
  plain = record { methods = D.plain.methods; singleton = D.plain.singleton };
  homes = D.homes;
  owes = λ e. let O = D.owes e in record {
    uncounted = ap (λ b. if b then w.counts (innermost_load w.loads) + 1 else w.counts (Some path))
        (ap (λ l. same_load (Some path) (innermost_load l)) D.loads) ∙ O.uncounted;
    absent = O.absent;
    made = O.made;
    set = O.set;
  };
}

pub still_object : (w w' : World) (i : Id) (g g' : Object → Object) → Due w w' → Due (at_object i g w) (at_object i g' w')
still_object w w' i g g' D = record {
  map = D.map;
  logs = D.logs;
  callbacks = D.callbacks;
  names = D.names;
  loads = D.loads;
  plain = record { methods = D.plain.methods; singleton = D.plain.singleton };
  homes = D.homes;
  owes = λ e. let O = D.owes e in record { uncounted = O.uncounted; absent = O.absent; made = O.made; set = O.set };
}

pub still_met : (w w' : World) (h : Option ConstantPath) (n : Text) → Due w w' → Due (with_meeting h n w) (with_meeting h n w')
still_met w w' h n D = record {
  map = D.map;
  logs = D.logs;
  callbacks = D.callbacks;
  names = D.names;
  loads = D.loads;
  plain = record { methods = D.plain.methods; singleton = D.plain.singleton };
  homes = D.homes;
  owes = λ e. let O = D.owes e in record { uncounted = O.uncounted; absent = O.absent; made = O.made; set = O.set };
}

-- the record before a change of variables
pub record Before (m₀ m : Module) : Type 0 where
  pub constants : m.constants ≡ m₀.constants
  pub methods : m.methods ≡ m₀.methods
  pub singleton : m.singleton ≡ m₀.singleton
  pub home : m.home ≡ m₀.home

was_before : (i : Id) (g : Module → Module) → ChangesVariables g → (records : Records Module) (j : Id) (m : Module)
    → changed_at i g records j ≡ Some m → (m₀ : Module) × (records j ≡ Some m₀) × Before m₀ m
was_before i g l records j m e = by (id_eq j i) refl e
  where
    changed : (o : Option Module) → records i ≡ o → j ≡ i → option_map g o ≡ Some m
        → (m₀ : Module) × (records j ≡ Some m₀) × Before m₀ m
    changed None f same e = none_some e
    changed (Some m₀) f same e =
        let is = some_same e in (
          m₀,
          ap records same ∙ f,
          record {
            constants = ap (λ k. k.constants) (sym is ∙ l.rest m₀);
            methods = ap (λ k. k.methods) (sym is ∙ l.rest m₀);
            singleton = ap (λ k. k.singleton) (sym is ∙ l.rest m₀);
            home = ap (λ k. k.home) (sym is ∙ l.rest m₀);
          },
        )

    by : (b : Bool) → id_eq j i ≡ b → (if b then option_map g (records i) else records j) ≡ Some m
        → (m₀ : Module) × (records j ≡ Some m₀) × Before m₀ m
    by true same e = changed (records i) refl (id_eq_is j i same) e
    by false same e = (m, e, record { constants = refl; methods = refl; singleton = refl; home = refl })

still_none : (i : Id) (g : Module → Module) (records : Records Module) (j : Id) → records j ≡ None
    → changed_at i g records j ≡ None
still_none i g records j e = by (id_eq j i) refl
  where
    by : (b : Bool) → id_eq j i ≡ b → (if b then option_map g (records i) else records j) ≡ None
    by true same = ap (option_map g) (ap records (sym (id_eq_is j i same)) ∙ e)
    by false same = e

-- one that is not changed
still_other : (i : Id) (g : Module → Module) (records : Records Module) (j : Id) → (j ≡ i → ⊥)
    → changed_at i g records j ≡ records j
still_other i g records j other = by (id_eq j i) refl
  where
    by : (b : Bool) → id_eq j i ≡ b → (if b then option_map g (records i) else records j) ≡ records j
    by true same = absurd (other (id_eq_is j i same))
    by false same = refl

pub still_module : (w w' : World) (i : Id) (g g' : Module → Module) → ChangesVariables g → ChangesVariables g'
    → IsThere (w.modules i) → Due w w' → Due (at_module i g w) (at_module i g' w')
still_module w w' i g g' l l' there D = record {
  map = D.map;
  logs = D.logs;
  callbacks = D.callbacks;
  names = D.names;
  loads = D.loads;
  plain = record {
    methods = λ j m e x method f. let b = was_before i g l w.modules j m e in
        D.plain.methods j b.0 b.1 x method (ap (at x) (sym b.2.methods) ∙ f);
    singleton = λ j m e x method f. let b = was_before i g l w.modules j m e in
        D.plain.singleton j b.0 b.1 x method (ap (at x) (sym b.2.singleton) ∙ f);
  };
  homes = λ j m n e t. let b = was_before i g l w.modules j m e in
      D.homes j b.0 n b.1 (subst (λ h. IsThere (key_of w h n)) b.2.home t);
  owes = λ e. let O = D.owes e in record {
    uncounted = O.uncounted;
    absent = still_none i g w.modules (namespace_id w.setups) O.absent;
    made = still_other i g' w'.modules (namespace_id w.setups)
        (λ same. subst IsThere (ap w.modules (sym same) ∙ O.absent) there) ∙ O.made;
    set = λ m f. let b = was_before i g' l' w'.modules Object_class m f in ap (at name) b.2.constants ∙ O.set b.0 b.1;
  };
}

-- ---- the setting

-- all names stay
abbrev pub as_named : Names
as_named = record { of_module = λ i. i; of_object = λ i. i }

abbrev pub one_if : Bool → ℕ
one_if b = if b then 1 else 0

pub one_bounded : (b : Bool) → one_if b ≤ 1
one_bounded true = omega arith
one_bounded false = omega arith

-- the load of the namespace takes one step
abbrev pub one_namespace : Setting true
one_namespace = record {
  lift = as_named;
  apart = λ i j. refl;
  objects_apart = λ i j. refl;
  core_stays = λ n core. refl;
  main_stays = refl;
  setup_there = λ n. n;
  zero_stays = refl;
  within = λ w. Unit {0};
  within_before = λ w w' kept inside. tt;
  object_named = λ w. refl;
  module_named = λ w i n made inside. refl;
  stated = λ p. same_names p path;
  owed = λ states. one_if (is_idle (states path));
  total = 1;
  bounded = λ states. one_bounded (is_idle (states path));
  exact = λ e states. absurd (apart e);
  due = Due;
  still_made = still_made;
  still_object = still_object;
  still_module = still_module;
  still_met = still_met;
  front = [];
  front' = [];
}
