-- A reload, in two sessions alike that have set up before: both write the same, and stay alike.
use Rattle.std.specs.Prelude.{ℕ, ◌+◌, ◌<◌, ◌==◌, ◌≡◌, Bool, true, false, [], List, codes, Option, Some, None, if◌then◌else◌}
use Rattle.std.specs.Option.{option_map}
use Rattle.std.proofs.Common.{refl, sym, ap, ◌∙◌, subst, lt_of_lt_of_le}
use Rattle.zw_def.specs.Text.{Text}
use Rattle.zw_def.specs.Tree.{Tree}
use Rattle.zw_def.specs.Map.{Key, map_of}
use Rattle.zw_def_world.specs.Id.{Id, Records, is_of_boot, later_changed}
use Rattle.zw_def_world.specs.Value.{nil}
use Rattle.zw_def_world.specs.Record.{homeless}
use Rattle.zw_def_world.specs.World.{World, mounted, restored}
use Rattle.zw_def_world.specs.Frame.{top_frame}
use Rattle.zw_def_world.specs.BootTable.{boot_of}
use Rattle.zw_def_world.specs.Act.{read, changing}
use Rattle.zw_def_world.specs.Session.{Session, with_fault, at_end, start}
use Rattle.zw_def_world.specs.Setup.{is_told, paths_in, mounts, set_up, set_up_mounted, does}
use Rattle.zw_def_world.specs.Reload.{unloaded, with_restored}
use Rattle.zw_def_session.specs.Answers.{reloads}
use Rattle.zw_fresh.specs.Renaming.{ren_module}
use Rattle.zw_fresh.specs.Alike.{Setting, Met, Objects, Worlds}
use Rattle.zw_fresh.specs.Sessions.{IsPlain, Sessions}
use Rattle.zw_fresh.proofs.WorldLaws.{met_changed}
use Rattle.zw_fresh.proofs.SessionLaws.{with_line_same}
use Rattle.zw_fresh.proofs.BootTableLaws.{boot_of_same, is_told_same}
use Rattle.zw_fresh.proofs.SettingUpLaws.{set_up_same}
use Rattle.zw_fresh.proofs.CommandLaws.{eager_after_setup_same}
use Rattle.zw_fresh.proofs.OnwardLaws.{unloaded_within}
use Rattle.zw_fresh.proofs.UnloadingLaws.{unloaded_same}

-- ---- boot's records are restored

restored_met : (name : Id → Id) → ((i : Id) → is_of_boot (name i) ≡ is_of_boot i) → {A : Type 0} (R : A → A → Type 0)
    (g : A → A) → ((x y : A) → R x y → R (g x) (g y)) → (boot boot' records records' : Records A)
    → ((i : Id) → Met false R (boot i) (boot' (name i))) → ((i : Id) → Met false R (records i) (records' (name i))) → (i : Id)
    → Met false R (later_changed g boot records i) (later_changed g boot' records' (name i))
restored_met name of_boot R g h boot boot' records records' all later i =
    subst (λ b. Met false R (later_changed g boot records i) (if b then boot' (name i) else option_map g (records' (name i))))
    (sym (of_boot i)) (at (is_of_boot i))
  where
    at : (b : Bool) → Met false R (if b then boot i else option_map g (records i))
        (if b then boot' (name i) else option_map g (records' (name i)))
    at true = all i
    at false = met_changed false R g g h (records i) (records' (name i)) (later i)

restored_worlds : {S : Setting false} → IsPlain S → {image image' w w' : World} → Worlds false S image image'
    → Worlds false S w w' → Worlds false S (restored image w) (restored image' w')
restored_worlds {S} plain {image} {image'} {w} {w'} I W = record {
  setups = W.setups;
  loads = W.loads;
  calm_loads = tt;
  counts = W.counts;
  tree = W.tree;
  map = W.map;
  setting = W.setting;
  states = W.states;
  order = W.order;
  modules = restored_met S.lift.of_module (λ i. ap (λ n. n == 0) (plain.modules i) ∙ plain.of_boot i.setup)
      (λ m m'. m' ≡ ren_module S.lift m) homeless (λ x y e. ap homeless e)
      image.modules image'.modules w.modules w'.modules I.modules W.modules;
  objects = restored_met S.lift.of_object (λ i. ap (λ n. n == 0) (plain.objects i) ∙ plain.of_boot i.setup)
      (Objects S.lift) (λ o. o) (λ x y e. e)
      image.objects image'.objects w.objects w'.objects I.objects W.objects;
  due = tt;
}

-- ---- a tree is mounted

mounted_worlds : {S : Setting false} {w w' : World} (tree : Tree) (keys keys' : List Key) → keys' ≡ keys → Worlds false S w w'
    → S.setup_there (w.setups + 1) ≡ w'.setups + 1 → Worlds false S (mounted tree keys w) (mounted tree keys' w')
mounted_worlds tree keys keys' same W next = record {
  setups = sym next;
  loads = refl;
  calm_loads = tt;
  counts = λ l. refl;
  tree = refl;
  map = same;
  setting = W.setting;
  states = λ p. refl;
  order = refl;
  modules = W.modules;
  objects = W.objects;
  due = tt;
}

module _ {S : Setting false} {old : Text → Bool} where
  mounts_same : (tree : Tree) (s s' : Session) → Sessions S old s s' → S.setup_there (s.world.setups + 1) ≡ s'.world.setups + 1
      → Sessions S old (does (mounts tree) s) (does (mounts tree) s')
  mounts_same tree s s' P next =
      let told : is_told s'.world (paths_in s'.world.setting.layout tree) ≡ is_told s.world (paths_in s.world.setting.layout tree)
      = ap (λ setting. is_told s'.world (paths_in setting.layout tree)) P.world.setting
      ∙ is_told_same S s.world s'.world P.world.modules (paths_in s.world.setting.layout tree) in
      let keys : map_of s'.world.setting.layout tree (boot_of s'.world) ≡ map_of s.world.setting.layout tree (boot_of s.world)
      = λ k. map_of (P.world.setting k).layout tree (boot_of_same S s.world s'.world P.world.modules k) in
      subst (λ o. Sessions S old (does (mounts tree) s)
      (let e = read o (λ told. changing (λ w. mounted tree (map_of w.setting.layout tree (boot_of w)) w) nil) (start (top_frame []) s') in
      with_fault e (at_end e s'))) (sym told) (at keys (is_told s.world (paths_in s.world.setting.layout tree)))
    where
      at : map_of s'.world.setting.layout tree (boot_of s'.world) ≡ map_of s.world.setting.layout tree (boot_of s.world)
          → (o : Option Bool) → Sessions S old
          (let e = read o (λ told. changing (λ w. mounted tree (map_of w.setting.layout tree (boot_of w)) w) nil) (start (top_frame []) s) in
          with_fault e (at_end e s))
          (let e = read o (λ told. changing (λ w. mounted tree (map_of w.setting.layout tree (boot_of w)) w) nil) (start (top_frame []) s') in
          with_fault e (at_end e s'))
      at keys None = with_line_same _ _ refl s s' P
      at keys (Some b) = record {
        plain = P.plain;
        world = mounted_worlds tree _ _ keys P.world next;
        variables = P.variables;
        staged = P.staged;
        image = P.image;
        is_down = P.is_down;
        settings = P.settings;
        out = P.out;
      }

  restored_same : (s s' : Session) → Sessions S old s s' → Sessions S old (with_restored s) (with_restored s')
  restored_same s s' P = record {
    plain = P.plain;
    world = restored_worlds P.plain P.image P.world;
    variables = P.variables;
    staged = P.staged;
    image = P.image;
    is_down = P.is_down;
    settings = P.settings;
    out = P.out;
  }

  staged_up_same : (s s' : Session) → Sessions S old s s' → S.setup_there (s.world.setups + 1) ≡ s'.world.setups + 1
      → Sessions S old (set_up s) (set_up s')
  staged_up_same s s' P next = subst (λ tree. Sessions S old (set_up s) (set_up_mounted (does (mounts tree) s')))
      (sym P.staged) (set_up_same _ _ (mounts_same s.staged s s' P next))

  -- the numbers of the setups that follow are lifted alike
  pub reloads_same : ((n : ℕ) → 0 < n → S.setup_there (n + 1) ≡ S.setup_there n + 1) → (s s' : Session) → Sessions S old s s'
      → 0 < s.world.setups → Sessions S old (reloads s) (reloads s')
  reloads_same next s s' P began =
      let Q = unloaded_same s s' P in
      let R = with_line_same (codes "reloaded") _ refl _ _ (restored_same _ _ Q) in
      let begun = lt_of_lt_of_le began (unloaded_within s).onward.setups in
      eager_after_setup_same _ _ (staged_up_same _ _ R
      (next (unloaded s).world.setups begun ∙ ap (λ n. n + 1) (sym Q.world.setups)))
