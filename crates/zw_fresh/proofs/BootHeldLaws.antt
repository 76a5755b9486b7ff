-- Each module that a constant holds when boot has ended, is there.
--
-- Boot is alike to itself in a setting of its own: modules that are there in the end keep their names, and other names
-- are of another setup. So what is held keeps its name, and is there.
use Rattle.std.specs.Prelude.{◌≡◌, ℕ, zero, suc, ◌+◌, ◌<◌, nat_lt, Bool, true, false, [], is_some, Option, Some, None, if◌then◌else◌}
use Rattle.std.specs.Option.{option_map}
use Rattle.std.proofs.Common.{refl, sym, ap, ◌∙◌, subst, arith, le_refl}
use Rattle.std.proofs.lemmas.Option.{none-some}
use Rattle.zw_def.specs.Text.{Text}
use Rattle.zw_def_syntax.specs.Token.{Fault}
use Rattle.zw_def_syntax.specs.Program.{Parsed}
use Rattle.zw_def_world.specs.Id.{Id, id_eq, boot_id, with_record}
use Rattle.zw_def_world.specs.CoreClass.{core_count, Object_class}
use Rattle.zw_def_world.specs.Value.{module_at, as_module}
use Rattle.zw_def_world.specs.Table.{at}
use Rattle.zw_def_world.specs.Record.{Module, with_constant, frozen_module}
use Rattle.zw_def_world.specs.World.{World, Setting as WorldSetting, fresh, with_module, all_frozen}
use Rattle.zw_def_world.specs.CoreWorld.{core_world}
use Rattle.zw_def_world.specs.Act.{Point}
use Rattle.zw_def_world.specs.Frame.{top_frame}
use Rattle.zw_def_world.specs.Evaluation.{run}
use Rattle.zw_def_world.specs.Load.{runs}
use Rattle.zw_def_world.proofs.EvolutionLaws.{Evolution, Keeps}
use Rattle.zw_def_world.proofs.LoadLaws.{runs_keeps}
use Rattle.zw_def_world.proofs.EvaluationLaws.{run_keeps}
use Rattle.zw_fresh.specs.Renaming.{lifted, ren, ren_module}
use Rattle.zw_fresh.specs.Alike.{IsThere, NoneLost, Setting, Met, Worlds, Points}
use Rattle.zw_fresh.specs.Naming.{no_old}
use Rattle.zw_fresh.specs.Setups.{Past}
use Rattle.zw_fresh.proofs.OptionLemmas.{some_same}
use Rattle.zw_fresh.proofs.NameLemmas.{id_eq_self, ids_decide, apart}
use Rattle.zw_fresh.proofs.SetupLaws.{acts_stay_past, acts_keep_setups}
use Rattle.zw_fresh.proofs.TableLemmas.{at-made}
use Rattle.zw_fresh.proofs.GrowingLaws.{map_there, growing, changed_there}
use Rattle.zw_fresh.proofs.MethodLaws.{as_module_same}
use Rattle.zw_fresh.proofs.FrameLaws.{top_frames}
use Rattle.zw_fresh.proofs.LoadLaws.{runs_alike}
use Rattle.zw_fresh.proofs.NamingLaws.{parsed_free}
use Rattle.zw_fresh.proofs.EvaluationLaws.{evaluates_plainly}
use Rattle.zw_fresh.proofs.FreshLaws.{same_test}
use Rattle.zw_fresh.proofs.BootLaws.{boot_end, core_alike, self_alike}
use Rattle.zw_fresh.proofs.CoreLaws.{first_setups, world_past, core_there}
use Rattle.zw_fresh.proofs.HeldLaws.{HoldsThere, TablesHold}

-- ---- names of modules that are there

abbrev other_name : Bool → Id → Id
other_name true i = i
other_name false i = record i { setup = i.setup + 1 }

abbrev kept_name : World → Id → Id
kept_name w i = other_name (is_some (w.modules i)) i

some_so : {A : Type 0} (o : Option A) → IsThere o → is_some o ≡ true
some_so None h = absurd h
some_so (Some x) h = refl

there_stays : (w : World) (i : Id) → IsThere (w.modules i) → kept_name w i ≡ i
there_stays w i h = ap (λ b. other_name b i) (some_so (w.modules i) h)

-- a name that stays is there
stays_there : (w : World) (i : Id) → i ≡ kept_name w i → IsThere (w.modules i)
stays_there w i e = by (w.modules i) e
  where
    by : (o : Option Module) → i ≡ other_name (is_some o) i → IsThere o
    by None e = let n = ap (λ j. j.setup) e in absurd (omega (arith, n))
    by (Some m) e = tt

-- where all modules are of boot, no two names meet
module _ (w : World) (of_boot : (i : Id) → IsThere (w.modules i) → i.setup ≡ 0) where
  names_apart : (i j : Id) → kept_name w i ≡ kept_name w j → i ≡ j
  names_apart i j e = by (w.modules i) (w.modules j) (of_boot i) (of_boot j) e
    where
      by : (o q : Option Module) → (IsThere o → i.setup ≡ 0) → (IsThere q → j.setup ≡ 0)
          → other_name (is_some o) i ≡ other_name (is_some q) j → i ≡ j
      by (Some m) (Some n) f g e = e
      by (Some m) None f g e =
          let z = f tt in let s = ap (λ k. k.setup) e in absurd (omega (arith, z, s))
      by None (Some n) f g e =
          let z = g tt in let s = ap (λ k. k.setup) e in absurd (omega (arith, z, s))
      by None None f g e =
          let s : i.setup + 1 ≡ j.setup + 1 = ap (λ k. k.setup) e in
          let t : i.setup ≡ j.setup = omega (arith, s) in
          λ k. record { setup = t k; load = ap (λ x. x.load) e k; count = ap (λ x. x.count) e k }

  kept_apart : (i j : Id) → id_eq (kept_name w i) (kept_name w j) ≡ id_eq i j
  kept_apart i j = same_test (id_eq (kept_name w i) (kept_name w j)) (id_eq i j)
      (λ e. (ids_decide i j).1 (names_apart i j ((ids_decide (kept_name w i) (kept_name w j)).0 e)))
      (λ e. (ids_decide (kept_name w i) (kept_name w j)).1 (ap (kept_name w) ((ids_decide i j).0 e)))

-- ---- the setting

made_is_there : (v : World) (i : Id) (n : Text) (made : Module) → IsThere ((with_module i n made v).modules (fresh v))
made_is_there v i n made = changed_there i (with_constant n (module_at (fresh v)))
    (with_record (fresh v) made v.modules) (fresh v) (by (id_eq (fresh v) (fresh v)) (id_eq_self (fresh v)))
  where
    by : (b : Bool) → b ≡ true → IsThere (if b then Some made else v.modules (fresh v))
    by true e = tt
    by false e = absurd (apart (sym e))

-- worlds are within bounds as long as no module is there that is not there in the end
abbrev kept_setting : (w : World) → ((i : Id) → IsThere (w.modules i) → i.setup ≡ 0)
    → ((n : ℕ) → nat_lt n core_count ≡ true → IsThere (w.modules (boot_id n))) → Setting false
kept_setting w of_boot core = record {
  lift = record { of_module = kept_name w; of_object = λ i. i };
  apart = kept_apart w of_boot;
  objects_apart = λ i j. refl;
  core_stays = λ n below. there_stays w (boot_id n) (core n below);
  main_stays = refl;
  setup_there = λ n. n;
  zero_stays = refl;
  within = λ v. NoneLost v w;
  within_before = λ v v' kept inside i h. inside i (kept i h);
  object_named = λ v. refl;
  module_named = λ v i n made inside. sym (there_stays w (fresh v) (inside (fresh v) (made_is_there v i n made)));
  stated = λ p. false;
  owed = λ states. 0;
  total = 0;
  bounded = λ states. le_refl 0;
  exact = λ e states. refl;
  due = λ v v'. Unit {0};
  still_made = λ v v' o o' d. tt;
  still_object = λ v v' i g g' d. tt;
  still_module = λ v v' i g g' l l' there d. tt;
  still_met = λ v v' h n d. tt;
  front = [];
  front' = [];
}

-- ---- what a world holds that is alike to itself there

module _ (w : World) (of_boot : (i : Id) → IsThere (w.modules i) → i.setup ≡ 0)
    (core : (n : ℕ) → nat_lt n core_count ≡ true → IsThere (w.modules (boot_id n))) where
  kept_module : Worlds false (kept_setting w of_boot core) w w → (i : Id) (m : Module) → w.modules i ≡ Some m
      → m ≡ ren_module (kept_setting w of_boot core).lift m
  kept_module W i m e =
      let there = subst IsThere (sym e) tt in
      by (w.modules i) e (subst (λ j. Met false Same (w.modules i) (w.modules j)) (there_stays w i there) (W.modules i))
    where
      Same : Module → Module → Type 0
      Same a b = b ≡ ren_module (kept_setting w of_boot core).lift a

      by : (o : Option Module) → o ≡ Some m → Met false Same o o → Same m m
      by None e h = absurd (none-some m e)
      by (Some a) e h = subst (λ z. Same z z) (some_same e) h

  held_there : Worlds false (kept_setting w of_boot core) w w → (i : Id) (m : Module) → w.modules i ≡ Some m
      → HoldsThere w.modules m.constants
  held_there W i m e n v j f g =
      let f' = (kept_setting w of_boot core).lift in
      let same = some_same (sym f ∙ ap (at n) (ap (λ z. z.constants) (kept_module W i m e))
      ∙ at-made (ren f') n m.constants ∙ ap (option_map (ren f')) f) in
      stays_there w j (some_same (sym g ∙ ap as_module same ∙ as_module_same (kept_setting w of_boot core) v
      ∙ ap (option_map (lifted f')) g))

  tables_hold : Worlds false (kept_setting w of_boot core) w w → TablesHold w
  tables_hold W = record { object = core 0 refl; constants = held_there W }

-- ---- frozen

frozen_from : (o : Option Module) (m : Module) → option_map frozen_module o ≡ Some m
    → (z : Module) × (o ≡ Some z) × (z.constants ≡ m.constants)
frozen_from None m e = absurd (none-some m e)
frozen_from (Some z) m e = (z, refl, ap (λ x. x.constants) (some_same e))

frozen_hold : (w : World) → TablesHold w → TablesHold (all_frozen w)
frozen_hold w T = record {
  object = map_there frozen_module (w.modules Object_class) T.object;
  constants = λ i m e n v j f g.
      let found = frozen_from (w.modules i) m e in
      map_there frozen_module (w.modules j) (T.constants i found.0 found.1 n v j (ap (at n) found.2 ∙ f) g);
}

-- ---- boot

no_setup : (n : ℕ) → (0 < n → ⊥) → n ≡ 0
no_setup zero h = refl
no_setup (suc n) h = absurd (h (omega arith))

past_of_boot : (w : World) → w.setups ≡ 0 → Past w → (i : Id) → IsThere (w.modules i) → i.setup ≡ 0
past_of_boot w first past i h = no_setup i.setup (λ later.
    subst IsThere (past.modules i (subst (λ n. n < i.setup) (sym first) later)) h)

pub boot_tables : (setting : WorldSetting) (budget : ℕ) (fault_text : Fault → Text) (parsed : Parsed)
    → TablesHold (all_frozen (boot_end setting budget fault_text parsed).at.world)
boot_tables setting budget fault_text parsed =
    let p : Point = record { world = core_world setting; frame = top_frame []; left = budget; out = [] } in
    let act = runs (run budget 0) fault_text parsed in
    let w = (boot_end setting budget fault_text parsed).at.world in
    let keeps : (E : Evolution) → Keeps E act = λ E. runs_keeps (run_keeps {E = E} budget 0) fault_text parsed in
    let past = acts_stay_past act keeps p (world_past setting) in
    let first = acts_keep_setups act keeps p ∙ first_setups setting in
    let grows : NoneLost (core_world setting) w = (keeps growing).kept p in
    let of_boot = past_of_boot w first past in
    let core : (n : ℕ) → nat_lt n core_count ≡ true → IsThere (w.modules (boot_id n))
    = λ n below. grows (boot_id n) (core_there setting n below) in
    let S = kept_setting w of_boot core in
    let P : Points false S no_old p p = record {
      world = core_alike S setting;
      frame = top_frames S [];
      plain = tt;
      left = refl;
      out = ([], refl, refl);
    } in
    frozen_hold w (tables_hold w of_boot core
    (self_alike S (runs_alike (evaluates_plainly S budget 0) no_old fault_text parsed (parsed_free parsed)) p P (λ i h. h)))
