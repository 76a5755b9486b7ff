-- What a reload mounts and what a fresh process mounts are alike.
use Rattle.std.specs.Prelude.{◌≡◌, ℕ, zero, suc, ◌+◌, ◌<◌, ◌==◌, ◌&&◌, Bool, true, false, List, Option, Some, None, if◌then◌else◌}
use Rattle.std.specs.Option.{option_map}
use Rattle.std.proofs.Common.{refl, sym, ap, ◌∙◌, subst, arith, le_refl}
use Rattle.std.proofs.lemmas.Bool.Decides.{Decides-eqb}
use Rattle.zw_def.specs.Text.{Text}
use Rattle.zw_def.specs.Tree.{Tree}
use Rattle.zw_def.specs.Map.{Key}
use Rattle.zw_def_world.specs.Id.{Id, Records, id_eq, same_load, is_of_boot}
use Rattle.zw_def_world.specs.Record.{homeless}
use Rattle.zw_def_world.specs.World.{World, restored, mounted}
use Rattle.zw_fresh.specs.Renaming.{lifted, ren_module}
use Rattle.zw_fresh.specs.Alike.{Setting, Met, Objects, Worlds}
use Rattle.zw_fresh.specs.Fresh.{raised_by, later_name, raised}
use Rattle.zw_fresh.specs.Sessions.{IsPlain}
use Rattle.zw_fresh.specs.Setups.{NoneComing, Past}
use Rattle.zw_fresh.proofs.NameLemmas.{apart}

-- ---- the numbers of setups

pub same_test : (b c : Bool) → (b ≡ true → c ≡ true) → (c ≡ true → b ≡ true) → b ≡ c
same_test true c f g = sym (f refl)
same_test false true f g = absurd (apart (sym (g refl)))
same_test false false f g = refl

pub raised_zero : (d : ℕ) → raised_by d 0 ≡ 0
raised_zero d = refl

pub raised_later : (d n : ℕ) → 0 < n → raised_by d n ≡ n + d
raised_later d n later = at (n == 0) refl
  where
    at : (b : Bool) → (n == 0) ≡ b → (if b then 0 else n + d) ≡ n + d
    at true e = let z = (Decides-eqb n 0).0 e in absurd (omega (arith, z, later))
    at false e = refl

pub raised_apart : (d a b : ℕ) → (raised_by d a == raised_by d b) ≡ (a == b)
raised_apart d a b = same_test (raised_by d a == raised_by d b) (a == b)
    (λ e. (Decides-eqb a b).1 (same a b ((Decides-eqb (raised_by d a) (raised_by d b)).0 e)))
    (λ e. (Decides-eqb (raised_by d a) (raised_by d b)).1 (ap (raised_by d) ((Decides-eqb a b).0 e)))
  where
    same : (a b : ℕ) → raised_by d a ≡ raised_by d b → a ≡ b
    same zero zero e = refl
    same zero (suc b) e = let r = raised_later d (suc b) (omega arith) in absurd (omega (arith, e, r))
    same (suc a) zero e = let r = raised_later d (suc a) (omega arith) in absurd (omega (arith, e, r))
    same (suc a) (suc b) e =
        let r = raised_later d (suc a) (omega arith) in
        let q = raised_later d (suc b) (omega arith) in
        omega (arith, e, r, q)

pub later_apart : (d : ℕ) (i j : Id) → id_eq (later_name d i) (later_name d j) ≡ id_eq i j
later_apart d i j = ap (λ b. i.count == j.count && b && same_load i.load j.load) (raised_apart d i.setup j.setup)

-- no key is stated, nothing is owed, and every world is within bounds
abbrev pub fresh_setting : ℕ → Text → Text → Setting false
fresh_setting d front front' = record {
  lift = raised d;
  apart = later_apart d;
  objects_apart = later_apart d;
  core_stays = λ n core. refl;
  main_stays = refl;
  setup_there = raised_by d;
  zero_stays = raised_zero d;
  within = λ w. Unit {0};
  within_before = λ w w' kept inside. tt;
  object_named = λ w. refl;
  module_named = λ w i n made inside. refl;
  stated = λ p. false;
  owed = λ states. 0;
  total = 0;
  bounded = λ states. le_refl 0;
  exact = λ e states. refl;
  due = λ w w'. Unit {0};
  still_made = λ w w' o o' d. tt;
  still_object = λ w w' i g g' d. tt;
  still_module = λ w w' i g g' l l' there d. tt;
  still_met = λ w w' h n d. tt;
  front = front;
  front' = front';
}

pub fresh_plain : (d : ℕ) (front front' : Text) → IsPlain (fresh_setting d front front')
fresh_plain d front front' = record {
  all_within = λ w. tt;
  modules = λ i. refl;
  objects = λ i. refl;
  of_boot = λ n. raised_apart d n 0;
}

-- ---- what is mounted

some_none : {A : Type 0} (x : A) → Some x ≡ None → ⊥
some_none x e = cc

missing_met : {A : Type 0} (R : A → A → Type 0) (g : A → A) (o o' : Option A) → o ≡ None → o' ≡ None
    → Met false R o (option_map g o')
missing_met R g None None e f = tt
missing_met R g None (Some y) e f = absurd (some_none y f)
missing_met R g (Some x) o' e f = absurd (some_none x e)

-- records of names whose setups are raised
restored_met : {A : Type 0} (d : ℕ) (R : A → A → Type 0) (g : A → A) (boot records : Records A)
    → NoneComing 0 boot → NoneComing d records → ((i : Id) → Met false R (boot i) (boot (later_name d i))) → (i : Id)
    → Met false R (boot i) (if is_of_boot (later_name d i) then boot (later_name d i) else option_map g (records (later_name d i)))
restored_met d R g boot records none later all i =
    subst (λ b. Met false R (boot i) (if b then boot (later_name d i) else option_map g (records (later_name d i))))
    (sym (raised_apart d i.setup 0)) (at (i.setup == 0) refl)
  where
    more : (n : ℕ) → 0 < n → d < n + d
    more n h = omega (arith, h)

    positive : (n : ℕ) → (n == 0) ≡ false → 0 < n
    positive zero e = absurd (apart e)
    positive (suc n) e = omega arith

    at : (b : Bool) → (i.setup == 0) ≡ b
        → Met false R (boot i) (if b then boot (later_name d i) else option_map g (records (later_name d i)))
    at true e = all i
    at false e =
        let later_setup = positive i.setup e in
        missing_met R g (boot i) (records (later_name d i)) (none i later_setup)
        (later (later_name d i) (subst (λ m. d < m) (sym (raised_later d i.setup later_setup)) (more i.setup later_setup)))

-- the records that are restored are boot's, alike to themselves
pub restored_modules : (image w : World) (front front' : Text) → image.setups ≡ 0 → Past image
    → Worlds false (fresh_setting w.setups front front') image image → Past w
    → (i : Id) → Met false (λ m m'. m' ≡ ren_module (raised w.setups) m) (image.modules i)
    ((restored image w).modules (lifted (raised w.setups) i))
restored_modules image w front front' first none self later =
    restored_met w.setups (λ m m'. m' ≡ ren_module (raised w.setups) m) homeless image.modules w.modules
    (λ i h. none.modules i (subst (λ n. n < i.setup) (sym first) h)) later.modules self.modules

-- The image of boot is alike to itself, as far as names of boot reach. A session came from it: it has set up some
-- times, and no record of a coming setup is made.
pub reloaded_alike : (image w : World) (front front' : Text) (tree : Tree) (keys : List Key) → image.setups ≡ 0 → Past image
    → Worlds false (fresh_setting w.setups front front') image image → Past w → w.setting ≡ image.setting
    → Worlds false (fresh_setting w.setups front front') (mounted tree keys image) (mounted tree keys (restored image w))
reloaded_alike image w front front' tree keys first none self later setting = record {
  setups = sym (ap (λ n. raised_by w.setups (n + 1)) first ∙ (raised_later w.setups 1 (omega arith) ∙ one w.setups));
  loads = refl;
  calm_loads = tt;
  counts = λ l. refl;
  tree = refl;
  map = refl;
  setting = setting;
  states = λ p. refl;
  order = refl;
  modules = restored_modules image w front front' first none self later;
  objects = restored_met w.setups (Objects (raised w.setups)) (λ o. o) image.objects w.objects
      (λ i h. none.objects i (subst (λ n. n < i.setup) (sym first) h)) later.objects self.objects;
  due = tt;
}
  where
    one : (d : ℕ) → 1 + d ≡ d + 1
    one d = omega arith
