-- Acts, phases, setups and reloads of a session leave its image, its settings and the setting of its world as they are,
-- and make no record of a coming setup.
use Rattle.std.specs.Prelude.{ℕ, ◌+◌, ◌≡◌, ◌≤◌, ◌==◌, Bool, true, false, List, [], ◌∷◌, codes, Option, Some, None, if◌then◌else◌}
use Rattle.std.specs.Option.{option_map}
use Rattle.std.proofs.Common.{refl, sym, ◌∙◌, subst, arith, le_refl, le_trans}
use Rattle.std.proofs.lemmas.Bool.Decides.{Decides-eqb}
use Rattle.zw_def.specs.Text.{Text}
use Rattle.zw_def.specs.Tree.{Tree}
use Rattle.zw_def.specs.ConstantPath.{ConstantPath}
use Rattle.zw_def.specs.Expected.{WrongName}
use Rattle.zw_def.specs.Nesting.{last_name}
use Rattle.zw_def.specs.Map.{key_at, map_of}
use Rattle.zw_def_world.specs.Id.{Id, Records, later_changed}
use Rattle.zw_def_world.specs.Value.{nil}
use Rattle.zw_def_world.specs.Record.{with_home, without_constant}
use Rattle.zw_def_world.specs.World.{Load, mounted}
use Rattle.zw_def_world.specs.Frame.{Frame, top_frame}
use Rattle.zw_def_world.specs.Callback.{Callback, on_setup, callbacks_on, on_unload, callbacks_for}
use Rattle.zw_def_world.specs.BootTable.{boot_of, boot_module}
use Rattle.zw_def_world.specs.Load.{runs_program}
use Rattle.zw_def_world.specs.Act.{Act, End, Point, read, changing}
use Rattle.zw_def_world.specs.Session.{Session, Phase, with_line, with_fault, with_steps, is_value, evaluates, start, acted, at_end, begin_phase, with_act, end_phase}
use Rattle.zw_def_world.specs.Setup.{is_told, paths_in, mounts, setup_namespaces, first_wrong_of, gives_home_to, gives_homes, does, with_callbacks, sets_up_or_not, sets_up_in, set_up_mounted, set_up}
use Rattle.zw_def_world.specs.Reload.{unload_callback, with_unload_callbacks, takes_out_of_parent, unload_callbacks, unload_key, unload_keys, with_idle_dropped, unloaded, with_restored, reloaded}
use Rattle.zw_def_world.proofs.EvolutionLaws.{Evolution, Keeps, gives_keeps, both_keep, read_keeps, reading_keeps, module_keeps}
use Rattle.zw_def_world.proofs.LoadLaws.{logs_line_keeps, opens_keeps, runs_program_keeps, runs_callback_keeps}
use Rattle.zw_def_world.proofs.EvaluationLaws.{run_keeps}
use Rattle.zw_fresh.specs.Setups.{NoneComing}
use Rattle.zw_fresh.specs.Reached.{Onward, Within}
use Rattle.zw_fresh.proofs.SetupLaws.{changed_none, acts_stay_past, acts_keep_setups}

-- ---- the setting stays

abbrev HasSetting : Point → Point → Type 0
HasSetting p q = q.world.setting ≡ p.world.setting

abbrev setting_stays : Evolution
setting_stays = record {
  relation = HasSetting;
  none = λ p. refl;
  both = λ p q r a b. b ∙ a;
  module_changed = λ p i g. refl;
  object_changed = λ p i g. refl;
  object_made = λ p o. refl;
  module_made = λ p i n m. refl;
  state_set = λ p q s. refl;
  load_begun = λ p q. refl;
  load_entered = λ p q. refl;
  load_left = λ p. refl;
  load_settled = λ p q i. refl;
  load_taken_back = λ p q. refl;
  met = λ p h n. refl;
  in_other_frame = λ p f. refl;
  spent = λ p n. refl;
  written = λ p t. refl;
}

pub acts_keep_setting : (m : Act) → ((E : Evolution) → Keeps E m) → (p : Point) → (m p).at.world.setting ≡ p.world.setting
acts_keep_setting m keeps p = (keeps setting_stays).kept p

-- ---- sessions that go on

pub stays : (s : Session) → Within s s
stays s = record {
  onward = record { image = refl; settings = refl; setting = refl; past = λ a. a; setups = le_refl s.world.setups };
  staged = refl;
  variables = refl;
}

pub both_onward : {s t u : Session} → Onward s t → Onward t u → Onward s u
both_onward a b = record {
  image = b.image ∙ a.image;
  settings = b.settings ∙ a.settings;
  setting = b.setting ∙ a.setting;
  past = λ p. b.past (a.past p);
  setups = le_trans a.setups b.setups;
}

pub both_within : {s t u : Session} → Within s t → Within t u → Within s u
both_within a b = record {
  onward = both_onward a.onward b.onward;
  staged = b.staged ∙ a.staged;
  variables = b.variables ∙ a.variables;
}

pub if_within : {s t u : Session} (b : Bool) → Within s t → Within s u → Within s (if b then t else u)
if_within true A B = A
if_within false A B = B

pub line_within : (line : Text) (s : Session) → Within s (with_line line s)
line_within line s = record {
  onward = record { image = refl; settings = refl; setting = refl; past = λ a. a; setups = le_refl s.world.setups };
  staged = refl;
  variables = refl;
}

pub steps_within : (n : ℕ) (s : Session) → Within s (with_steps n s)
steps_within n s = if_within s.settings.steps (line_within _ s) (stays s)

fault_within : (e : End) (s : Session) → Within s (with_fault e s)
fault_within e s = if_within (is_value e.flow) (stays s) (line_within _ s)

down_within : (b : Bool) (s : Session) → Within s (record s { is_down = b })
down_within b s = record {
  onward = record { image = refl; settings = refl; setting = refl; past = λ a. a; setups = le_refl s.world.setups };
  staged = refl;
  variables = refl;
}

-- ---- acts

pub moved_within : (m : Act) → ((E : Evolution) → Keeps E m) → (frame : Frame) (s : Session)
    → Within s (at_end (m (start frame s)) s)
moved_within m keeps frame s = record {
  onward = record {
    image = refl;
    settings = refl;
    setting = acts_keep_setting m keeps (start frame s);
    past = acts_stay_past m keeps (start frame s);
    setups = subst (λ n. s.world.setups ≤ n) (sym (acts_keep_setups m keeps (start frame s))) (le_refl s.world.setups);
  };
  staged = refl;
  variables = refl;
}

pub does_within : (m : Act) → ((E : Evolution) → Keeps E m) → (s : Session) → Within s (does m s)
does_within m keeps s = both_within (moved_within m keeps (top_frame []) s) (fault_within (acted m s) _)

act_within : (act : Session → Act) → ((s : Session) (E : Evolution) → Keeps E (act s)) → (phase : Phase)
    → Within phase.session (with_act act phase).session
act_within act keeps phase = does_within (act phase.session) (keeps phase.session) phase.session

-- ---- setup

mounted_coming : {A : Type 0} (n : ℕ) (records : Records A) → NoneComing n records → NoneComing (n + 1) records
mounted_coming n records none i later = none i (omega (arith, later))

mounts_within : (tree : Tree) (s : Session) → Within s (does (mounts tree) s)
mounts_within tree s = at (is_told s.world (paths_in s.world.setting.layout tree))
  where
    at : (o : Option Bool)
        → let e = read o (λ told. changing (λ w. mounted tree (map_of w.setting.layout tree (boot_of w)) w) nil) (start (top_frame []) s) in
        Within s (with_fault e (at_end e s))
    at None = line_within _ s
    at (Some b) = record {
      onward = record {
        image = refl;
        settings = refl;
        setting = refl;
        past = λ a. record {
          modules = mounted_coming s.world.setups s.world.modules a.modules;
          objects = mounted_coming s.world.setups s.world.objects a.objects;
        };
        setups = omega arith;
      };
      staged = refl;
      variables = refl;
    }

home_to_keeps : {E : Evolution} (p : ConstantPath) (o : Option Id) → Keeps E (gives_home_to p o)
home_to_keeps p None = gives_keeps nil
home_to_keeps p (Some i) = module_keeps i (with_home p) nil

homes_keep : {E : Evolution} (ps : List ConstantPath) → Keeps E (gives_homes ps)
homes_keep [] = gives_keeps nil
homes_keep (p ∷ ps) =
    both_keep (both_keep (reading_keeps (λ w. boot_module w p) (home_to_keeps p)) (opens_keeps p)) (homes_keep ps)

callbacks_within : (cs : List Callback) (phase : Phase) → Within phase.session (with_callbacks cs phase).session
callbacks_within [] phase = stays phase.session
callbacks_within (c ∷ cs) phase = both_within
    (act_within (λ s. runs_program (evaluates s) c.program)
    (λ s E. runs_program_keeps (run_keeps {E = E} s.settings.budget 0) c.program) phase)
    (callbacks_within cs _)

or_not_within : (ps : List ConstantPath) (o : Option WrongName) (s : Session) → Within s (sets_up_or_not ps o s).session
or_not_within ps (Some wrong) s = both_within (down_within true s) (line_within _ _)
or_not_within ps None s =
    let up : Session = record s { is_down = false } in
    let homes = both_within (down_within false s) (does_within (gives_homes ps) (λ E. homes_keep {E = E} ps) up) in
    both_within homes
    (callbacks_within (callbacks_on on_setup (does (gives_homes ps) up).world.setting.callbacks)
    (begin_phase (does (gives_homes ps) up)))

up_in_within : (o : Option (List ConstantPath)) (s : Session) → Within s (sets_up_in s o).session
up_in_within None s = both_within (down_within true s) (line_within _ _)
up_in_within (Some ps) s = or_not_within ps (first_wrong_of s.world ps) s

phase_within : (phase : Phase) → Within phase.session (end_phase phase)
phase_within phase = steps_within phase.steps phase.session

pub mounted_within : (t : Session) → Within t (set_up_mounted t)
mounted_within t =
    both_within (up_in_within (setup_namespaces t.world) t) (phase_within (sets_up_in t (setup_namespaces t.world)))

pub set_up_within : (s : Session) → Within s (set_up s)
set_up_within s = both_within (mounts_within s.staged s) (mounted_within (does (mounts s.staged) s))

-- ---- unloading

unload_callback_keeps : {E : Evolution} (load : Load) (c : Callback) (s : Session) → Keeps E (unload_callback load c s)
unload_callback_keeps load c s = read_keeps (key_at s.world.map load.key)
    (λ k. runs_callback_keeps (run_keeps s.settings.budget 0) k load.parent (last_name load.key) c)

unload_callbacks_within : (load : Load) (cs : List Callback) (phase : Phase)
    → Within phase.session (with_unload_callbacks load cs phase).session
unload_callbacks_within load [] phase = stays phase.session
unload_callbacks_within load (c ∷ cs) phase = both_within
    (act_within (unload_callback load c) (λ s E. unload_callback_keeps {E = E} load c s) phase)
    (unload_callbacks_within load cs _)

takes_out_keeps : {E : Evolution} (load : Load) → Keeps E (takes_out_of_parent load)
takes_out_keeps load =
    both_keep (module_keeps load.parent (without_constant (last_name load.key)) nil) (logs_line_keeps _)

key_within : (load : Load) (phase : Phase) → Within phase.session (unload_key load phase).session
key_within load phase = both_within
    (unload_callbacks_within load (callbacks_for on_unload load.key phase.session.world.setting.callbacks) phase)
    (does_within (takes_out_of_parent load) (λ E. takes_out_keeps {E = E} load) (unload_callbacks load phase).session)

keys_within : (loads : List Load) (phase : Phase) → Within phase.session (unload_keys loads phase).session
keys_within [] phase = stays phase.session
keys_within (l ∷ ls) phase = both_within (key_within l phase) (keys_within ls (unload_key l phase))

dropped_within : (s : Session) → Within s (with_idle_dropped s)
dropped_within s = record {
  onward = record {
    image = refl;
    settings = refl;
    setting = refl;
    past = λ a. record { modules = a.modules; objects = a.objects };
    setups = le_refl s.world.setups;
  };
  staged = refl;
  variables = refl;
}

pub unloaded_within : (s : Session) → Within s (unloaded s)
unloaded_within s =
    let phase = begin_phase (with_idle_dropped s) in
    both_within (dropped_within s)
    (both_within (keys_within s.world.load_order phase) (phase_within (unload_keys s.world.load_order phase)))

-- ---- reload

restored_coming : {A : Type 0} (n : ℕ) (g : A → A) (boot records : Records A) → NoneComing n records
    → NoneComing n (later_changed g boot records)
restored_coming n g boot records none i later = at (i.setup == 0) refl
  where
    at : (b : Bool) → (i.setup == 0) ≡ b → (if b then boot i else option_map g (records i)) ≡ None
    at true e = let z = (Decides-eqb i.setup 0).0 e in absurd (omega (arith, z, later))
    at false e = changed_none g (records i) (none i later)

restored_within : (s : Session) → Within s (with_restored s)
restored_within s = record {
  onward = record {
    image = refl;
    settings = refl;
    setting = refl;
    past = λ a. record {
      modules = restored_coming s.world.setups _ s.image.modules s.world.modules a.modules;
      objects = restored_coming s.world.setups _ s.image.objects s.world.objects a.objects;
    };
    setups = le_refl s.world.setups;
  };
  staged = refl;
  variables = refl;
}

pub reloaded_within : (s : Session) → Within s (reloaded s)
reloaded_within s = both_within (unloaded_within s)
    (both_within (restored_within (unloaded s)) (both_within (line_within (codes "reloaded") _) (set_up_within _)))
