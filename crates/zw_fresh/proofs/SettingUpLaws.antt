-- Setup, in two sessions alike: both write the same, and stay alike.
use Rattle.std.specs.Prelude.{◌≡◌, ◌+◌, min, Bool, true, false, List, [], ◌∷◌, Option, Some, None, if◌then◌else◌}
use Rattle.std.specs.Option.{option_map, option_or}
use Rattle.std.proofs.Common.{refl, sym, ap, ◌∙◌, subst}
use Rattle.zw_def.specs.Text.{Text}
use Rattle.zw_def.specs.ConstantPath.{ConstantPath}
use Rattle.zw_def.specs.Expected.{WrongName}
use Rattle.zw_def.specs.Map.{namespaces}
use Rattle.zw_def.specs.Wrong.{wrong_below}
use Rattle.zw_def_world.specs.Id.{Id}
use Rattle.zw_def_world.specs.Value.{nil}
use Rattle.zw_def_world.specs.Record.{with_home}
use Rattle.zw_def_world.specs.World.{World}
use Rattle.zw_def_world.specs.Frame.{top_frame}
use Rattle.zw_def_world.specs.Callback.{Callback, on_setup, callbacks_on}
use Rattle.zw_def_world.specs.Load.{runs_program}
use Rattle.zw_def_world.specs.Evaluation.{run}
use Rattle.zw_def_world.specs.Act.{Act, End, Flow, gave, raised, broken, skipped, returned, out_of_steps, too_deep, lost}
use Rattle.zw_def_world.specs.Session.{Session, Phase, with_line, with_fault, line_of_end, is_value, evaluates, start, acted, at_end, begin_phase, with_act, end_phase, max_steps}
use Rattle.zw_def_world.specs.Setup.{leading, setup_namespaces, first_wrong_of, gives_home_to, gives_homes, does, with_callbacks, setup_callbacks, sets_up_or_not, sets_up_in, set_up_mounted}
use Rattle.zw_def_world.proofs.EvolutionLaws.{gives_keeps, module_keeps}
use Rattle.zw_fresh.specs.Renaming.{Names, lifted, ren_flow}
use Rattle.zw_fresh.specs.Alike.{Setting, Worlds, EndsAlike}
use Rattle.zw_fresh.specs.Naming.{no_old}
use Rattle.zw_fresh.specs.Sessions.{Sessions}
use Rattle.zw_fresh.proofs.EndLaws.{Spends}
use Rattle.zw_fresh.proofs.ActLaws.{Alike, gives_alike, both_alike, reading_alike}
use Rattle.zw_fresh.proofs.FrameLaws.{top_frames}
use Rattle.zw_fresh.proofs.KeyLaws.{changing_module_alike}
use Rattle.zw_fresh.proofs.LoadLaws.{opens_alike, runs_program_alike}
use Rattle.zw_fresh.proofs.NamingLaws.{program_free}
use Rattle.zw_fresh.proofs.EvaluationLaws.{evaluates_plainly}
use Rattle.zw_fresh.proofs.SessionLaws.{found_same, ends_meet, line_of_end_same, with_line_same, with_steps_same, start_same, steps_same}
use Rattle.zw_fresh.proofs.BootTableLaws.{boot_module_found, leading_found}

pub value_same : (f : Names) (flow : Flow) → is_value (ren_flow f flow) ≡ is_value flow
value_same f (gave v) = refl
value_same f (raised i) = refl
value_same f broken = refl
value_same f skipped = refl
value_same f (returned v) = refl
value_same f out_of_steps = refl
value_same f too_deep = refl
value_same f lost = refl

-- phases of two sessions alike, with as many steps
pub record Phases (S : Setting false) (old : Text → Bool) (a b : Phase) : Type 0 where
  pub session : Sessions S old a.session b.session
  pub steps : b.steps ≡ a.steps

-- the first wrong name
wrong_same : {S : Setting false} {w w' : World} → Worlds false S w w' → (ps : List ConstantPath)
    → first_wrong_of w' ps ≡ first_wrong_of w ps
wrong_same W [] = refl
wrong_same W (p ∷ ps) = λ k. option_or (wrong_below (W.setting k).layout (W.tree k) p) (wrong_same W ps k)

namespaces_same : {S : Setting false} {w w' : World} → Worlds false S w w' → setup_namespaces w' ≡ setup_namespaces w
namespaces_same {S} {w} {w'} W =
    ap (leading w') (λ k. namespaces (W.setting k).layout (W.tree k))
    ∙ found_same (leading_found S w w' W.modules (namespaces w.setting.layout w.tree))

home_to_spends : (p : ConstantPath) (o : Option Id) → Spends (gives_home_to p o)
home_to_spends p None = gives_keeps nil
home_to_spends p (Some i) = module_keeps i (with_home p) nil

module _ {S : Setting false} where
  -- ---- homes

  home_to_alike : (p : ConstantPath) (o : Option Id)
      → Alike S no_old (gives_home_to p o) (gives_home_to p (option_map (lifted S.lift) o))
  home_to_alike p None = gives_alike nil
  home_to_alike p (Some i) = changing_module_alike i (with_home p) (with_home p) (λ m. refl) nil

  gives_homes_alike : (ps : List ConstantPath) → Alike S no_old (gives_homes ps) (gives_homes ps)
  gives_homes_alike [] = gives_alike nil
  gives_homes_alike (p ∷ ps) = both_alike (both_alike
      (reading_alike (λ w w' W. boot_module_found S w w' W.modules p) (home_to_alike p) (home_to_spends p)) (opens_alike p))
      (gives_homes_alike ps)

  module _ {old : Text → Bool} where
    -- ---- acts of a session

    pub at_end_same : {new : Text → Bool} (e e' : End) → EndsAlike false S new e e' → (s s' : Session) → Sessions S old s s'
        → Sessions S old (at_end e s) (at_end e' s')
    at_end_same e e' E s s' P = record {
      plain = P.plain;
      world = E.at.world;
      variables = P.variables;
      staged = P.staged;
      image = P.image;
      is_down = P.is_down;
      settings = P.settings;
      out = E.at.out;
    }

    with_fault_same : {new : Text → Bool} (e e' : End) → EndsAlike false S new e e' → (s s' : Session) → Sessions S old s s'
        → Sessions S old (with_fault e s) (with_fault e' s')
    with_fault_same e e' E s s' P =
        subst (λ b. Sessions S old (with_fault e s) (if b then s' else with_line (line_of_end e') s'))
        (sym (ap is_value E.flow ∙ value_same S.lift e.flow)) (at (is_value e.flow))
      where
        at : (b : Bool) → Sessions S old (if b then s else with_line (line_of_end e) s)
            (if b then s' else with_line (line_of_end e') s')
        at true = P
        at false = with_line_same _ _ (line_of_end_same e e' E) s s' P

    pub acted_same : (m m' : Act) → Alike S no_old m m' → (s s' : Session) → Sessions S old s s'
        → EndsAlike false S no_old (acted m s) (acted m' s')
    acted_same m m' a s s' P = ends_meet _ _ (P.plain.all_within _) (a.acts (start (top_frame []) s) (start (top_frame []) s')
        (start_same (top_frame []) (top_frame []) (top_frames S []) s s' P))

    pub does_same : (m m' : Act) → Alike S no_old m m' → (s s' : Session) → Sessions S old s s'
        → Sessions S old (does m s) (does m' s')
    does_same m m' a s s' P =
        let E = acted_same m m' a s s' P in
        with_fault_same (acted m s) (acted m' s') E (at_end (acted m s) s) (at_end (acted m' s') s')
        (at_end_same (acted m s) (acted m' s') E s s' P)

    -- ---- phases

    pub with_act_same : (act act' : Session → Act)
        → ((s s' : Session) → Sessions S old s s' → Alike S no_old (act s) (act' s')) → (a b : Phase) → Phases S old a b
        → Phases S old (with_act act a) (with_act act' b)
    with_act_same act act' h a b P =
        let E = acted_same (act a.session) (act' b.session) (h a.session b.session P.session) a.session b.session P.session in
        record {
          session = with_fault_same _ _ E _ _ (at_end_same _ _ E a.session b.session P.session);
          steps = λ k. min max_steps (P.steps k + steps_same a.session b.session P.session _ _ E k);
        }

    pub end_phase_same : (a b : Phase) → Phases S old a b → Sessions S old (end_phase a) (end_phase b)
    end_phase_same a b P = with_steps_same a.steps b.steps P.steps a.session b.session P.session

    callbacks_same : (cs : List Callback) (a b : Phase) → Phases S old a b
        → Phases S old (with_callbacks cs a) (with_callbacks cs b)
    callbacks_same [] a b P = P
    callbacks_same (c ∷ cs) a b P = callbacks_same cs _ _ (with_act_same (λ s. runs_program (evaluates s) c.program)
        (λ s. runs_program (evaluates s) c.program) one a b P)
      where
        one : (s s' : Session) → Sessions S old s s'
            → Alike S no_old (runs_program (evaluates s) c.program) (runs_program (evaluates s') c.program)
        one s s' Q = subst (λ settings. Alike S no_old (runs_program (run s.settings.budget 0) c.program)
            (runs_program (run settings.budget 0) c.program)) (sym Q.settings)
            (runs_program_alike (evaluates_plainly S s.settings.budget 0) no_old c.program (program_free c.program))

    setup_callbacks_same : (s s' : Session) → Sessions S old s s' → Phases S old (setup_callbacks s) (setup_callbacks s')
    setup_callbacks_same s s' P =
        subst (λ setting. Phases S old (setup_callbacks s) (with_callbacks (callbacks_on on_setup setting.callbacks) (begin_phase s')))
        (sym P.world.setting)
        (callbacks_same (callbacks_on on_setup s.world.setting.callbacks) (begin_phase s) (begin_phase s')
        (record { session = P; steps = refl }))

    -- ---- setup

    down_same : (b : Bool) (s s' : Session) → Sessions S old s s'
        → Sessions S old (record s { is_down = b }) (record s' { is_down = b })
    down_same b s s' P = record {
      plain = P.plain;
      world = P.world;
      variables = P.variables;
      staged = P.staged;
      image = P.image;
      is_down = refl;
      settings = P.settings;
      out = P.out;
    }

    or_not_same : (ps : List ConstantPath) (o : Option WrongName) (s s' : Session) → Sessions S old s s'
        → Phases S old (sets_up_or_not ps o s) (sets_up_or_not ps o s')
    or_not_same ps (Some wrong) s s' P = record {
      session = with_line_same _ _ refl (record s { is_down = true }) (record s' { is_down = true }) (down_same true s s' P);
      steps = refl;
    }
    or_not_same ps None s s' P = setup_callbacks_same _ _ (does_same (gives_homes ps) (gives_homes ps) (gives_homes_alike ps)
        (record s { is_down = false }) (record s' { is_down = false }) (down_same false s s' P))

    up_in_same : (o : Option (List ConstantPath)) (s s' : Session) → Sessions S old s s'
        → Phases S old (sets_up_in s o) (sets_up_in s' o)
    up_in_same None s s' P = record {
      session = with_line_same _ _ refl (record s { is_down = true }) (record s' { is_down = true }) (down_same true s s' P);
      steps = refl;
    }
    up_in_same (Some ps) s s' P =
        subst (λ o. Phases S old (sets_up_or_not ps (first_wrong_of s.world ps) s) (sets_up_or_not ps o s'))
        (sym (wrong_same P.world ps)) (or_not_same ps (first_wrong_of s.world ps) s s' P)

    pub set_up_same : (s s' : Session) → Sessions S old s s' → Sessions S old (set_up_mounted s) (set_up_mounted s')
    set_up_same s s' P = end_phase_same _ _
        (subst (λ o. Phases S old (sets_up_in s (setup_namespaces s.world)) (sets_up_in s' o))
        (sym (namespaces_same P.world)) (up_in_same (setup_namespaces s.world) s s' P))
