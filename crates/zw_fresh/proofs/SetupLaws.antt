-- Evaluation leaves the number of setups as it is, and makes no record of a coming setup.
use Rattle.std.specs.Prelude.{ℕ, ◌≡◌, Bool, true, false, Option, Some, None, if◌then◌else◌}
use Rattle.std.specs.Option.{option_map}
use Rattle.std.proofs.Common.{refl, sym, ap, ◌∙◌, arith}
use Rattle.zw_def_syntax.specs.Tree.{Tree}
use Rattle.zw_def_world.specs.Id.{Id, Records, id_eq, changed_at, with_record}
use Rattle.zw_def_world.specs.World.{World, fresh, without_home}
use Rattle.zw_def_world.specs.Act.{Act, Point}
use Rattle.zw_def_world.specs.Evaluation.{run}
use Rattle.zw_def_world.proofs.EvolutionLaws.{Evolution, Keeps}
use Rattle.zw_def_world.proofs.EvaluationLaws.{run_keeps}
use Rattle.zw_fresh.specs.Setups.{NoneComing, Past}
use Rattle.zw_fresh.proofs.NameLemmas.{id_eq_is}

-- ---- the number of setups

abbrev pub HasSetups : Point → Point → Type 0
HasSetups p q = q.world.setups ≡ p.world.setups

abbrev pub setups_evolve : Evolution
setups_evolve = record {
  relation = HasSetups;
  none = λ p. refl;
  both = λ p q r a b. b ∙ a;
  module_changed = λ p i g. refl;
  object_changed = λ p i g. refl;
  object_made = λ p o. refl;
  module_made = λ p i n m. refl;
  state_set = λ p q s. refl;
  load_begun = λ p q. refl;
  load_entered = λ p q. refl;
  load_left = λ p. refl;
  load_settled = λ p q i. refl;
  load_taken_back = λ p q. refl;
  met = λ p h n. refl;
  in_other_frame = λ p f. refl;
  spent = λ p n. refl;
  written = λ p t. refl;
}

pub run_keeps_setups : (n level : ℕ) (node : Tree) (p : Point) → (run n level node p).at.world.setups ≡ p.world.setups
run_keeps_setups n level node p =
    let keeps : Keeps setups_evolve (run n level node) = run_keeps n level node in
    keeps.kept p

-- ---- records of coming setups

pub held_none : {A : Type 0} (b : Bool) (o q : Option A) → (b ≡ true → o ≡ None) → q ≡ None → (if b then o else q) ≡ None
held_none true o q here there = here refl
held_none false o q here there = there

pub changed_none : {A : Type 0} (g : A → A) (o : Option A) → o ≡ None → option_map g o ≡ None
changed_none g o e = ap (option_map g) e

changed_coming : {A : Type 0} (n : ℕ) (i : Id) (g : A → A) (records : Records A) → NoneComing n records
    → NoneComing n (changed_at i g records)
changed_coming n i g records none j later =
    held_none (id_eq j i) (option_map g (records i)) (records j)
    (λ e. changed_none g (records i) (ap records (sym (id_eq_is j i e)) ∙ none j later)) (none j later)

made_coming : {A : Type 0} (w : World) (x : A) (records : Records A) → NoneComing w.setups records
    → NoneComing w.setups (with_record (fresh w) x records)
made_coming w x records none j later =
    held_none (id_eq j (fresh w)) (Some x) (records j)
    (λ e. let same = ap (λ i. i.setup) (id_eq_is j (fresh w) e) in absurd (omega (arith, same, later))) (none j later)

each_coming : {A : Type 0} (n : ℕ) (g : A → A) (records : Records A) → NoneComing n records
    → NoneComing n (λ j. option_map g (records j))
each_coming n g records none j later = changed_none g (records j) (none j later)

abbrev pub StaysPast : Point → Point → Type 0
StaysPast p q = Past p.world → Past q.world

abbrev past_evolves : Evolution
past_evolves = record {
  relation = StaysPast;
  none = λ p a. a;
  both = λ p q r f g a. g (f a);
  module_changed = λ p i g a. record { modules = changed_coming _ i g p.world.modules a.modules; objects = a.objects };
  object_changed = λ p i g a. record { modules = a.modules; objects = changed_coming _ i g p.world.objects a.objects };
  object_made = λ p o a. record { modules = a.modules; objects = made_coming p.world o p.world.objects a.objects };
  module_made = λ p i n m a. record {
    modules = changed_coming _ i _ _ (made_coming p.world m p.world.modules a.modules);
    objects = a.objects;
  };
  state_set = λ p q s a. record { modules = a.modules; objects = a.objects };
  load_begun = λ p q a. record { modules = a.modules; objects = a.objects };
  load_entered = λ p q a. record { modules = a.modules; objects = a.objects };
  load_left = λ p a. record { modules = a.modules; objects = a.objects };
  load_settled = λ p q i a. record { modules = a.modules; objects = a.objects };
  load_taken_back = λ p q a. record {
    modules = each_coming _ (without_home q) p.world.modules a.modules;
    objects = a.objects;
  };
  met = λ p h n a. record { modules = a.modules; objects = a.objects };
  in_other_frame = λ p f a. a;
  spent = λ p n a. a;
  written = λ p t a. a;
}

pub run_stays_past : (n level : ℕ) (node : Tree) (p : Point) → Past p.world → Past (run n level node p).at.world
run_stays_past n level node p =
    let keeps : Keeps past_evolves (run n level node) = run_keeps n level node in
    keeps.kept p

-- ---- acts that keep what each change keeps

pub acts_stay_past : (m : Act) → ((E : Evolution) → Keeps E m) → (p : Point) → Past p.world → Past (m p).at.world
acts_stay_past m keeps p = (keeps past_evolves).kept p

pub acts_keep_setups : (m : Act) → ((E : Evolution) → Keeps E m) → (p : Point) → (m p).at.world.setups ≡ p.world.setups
acts_keep_setups m keeps p = (keeps setups_evolve).kept p
