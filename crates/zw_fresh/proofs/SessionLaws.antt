-- Commands that evaluate, in two sessions alike: both write the same, and stay alike.
use Rattle.std.specs.Prelude.{◌≡◌, ℕ, ◌+◌, ◌-◌, Bool, true, false, [], ◌++◌, codes, Option, Some, None, if◌then◌else◌}
use Rattle.std.specs.Option.{option_map, unwrap_or}
use Rattle.std.specs.Fmt.{decimal}
use Rattle.std.proofs.Common.{refl, sym, ap, ◌∙◌, subst, arith, append_assoc}
use Rattle.zw_def.specs.Text.{Text}
use Rattle.zw_def_syntax.specs.Program.{program_of}
use Rattle.zw_def_world.specs.Value.{object_at}
use Rattle.zw_def_world.specs.World.{World}
use Rattle.zw_def_world.specs.Frame.{Frame, console_frame}
use Rattle.zw_def_world.specs.Inspect.{fault_line}
use Rattle.zw_def_world.specs.Log.{syntax_text}
use Rattle.zw_def_world.specs.Load.{runs}
use Rattle.zw_def_world.specs.Evaluation.{run}
use Rattle.zw_def_world.specs.Act.{Point, End, Flow, gave, raised, broken, skipped, returned, out_of_steps, too_deep, lost}
use Rattle.zw_def_world.specs.Session.{Session, with_line, with_steps, value_line, line_if_there, line_of_end, start, steps_of}
use Rattle.zw_def_session.specs.Answers.{after_run, run_answer}
use Rattle.zw_fresh.specs.Renaming.{ren_flow}
use Rattle.zw_fresh.specs.Alike.{Setting, Renamed, Found, Worlds, Frames, Points, Verdict, Short, EndsAlike, Ends}
use Rattle.zw_fresh.specs.Naming.{ParsedNamesNone}
use Rattle.zw_fresh.specs.Sessions.{Sessions}
use Rattle.zw_fresh.proofs.FoundLaws.{object_bind}
use Rattle.zw_fresh.proofs.TextLaws.{as_it_is, inspected_found, fault_line_found}
use Rattle.zw_fresh.proofs.LoadLaws.{runs_alike}
use Rattle.zw_fresh.proofs.EvaluationLaws.{evaluates_plainly}

-- what is found there is what is found here
pub found_same : {A : Type 0} {o o' : Option A} → Found false as_it_is o o' → o' ≡ o
found_same {A} {o} {o'} F = at o F.so
  where
    at : (o : Option A) → Renamed false as_it_is o o' → o' ≡ o
    at None e = e
    at (Some x) e = e

-- where no key is stated, any two ends are alike
pub ends_meet : {S : Setting false} {old : Text → Bool} (e e' : End) → S.within e.at.world → Ends false S old e e'
    → EndsAlike false S old e e'
ends_meet {S} {old} e e' inside E = at e.flow (E inside)
  where
    at : (f : Flow) → Verdict false f (Short S.total e') (EndsAlike false S old e e')
        → EndsAlike false S old e e'
    at (gave v) E = E
    at (raised i) E = E
    at broken E = E
    at skipped E = E
    at (returned v) E = E
    at out_of_steps E = E
    at too_deep E = E
    at lost E = E

pub line_same : {S : Setting false} {w w' : World} → Worlds false S w w' → (f : Flow) → line_if_there w' (ren_flow S.lift f) ≡ line_if_there w f
line_same W (gave v) = ap (option_map value_line) (found_same (inspected_found W v))
line_same {S} {w} {w'} W (raised i) = found_same (object_bind W (fault_line w) (fault_line w') i (fault_line_found W))
line_same W broken = refl
line_same W skipped = refl
line_same W (returned v) = refl
line_same W out_of_steps = refl
line_same W too_deep = refl
line_same W lost = refl

-- as many steps are left
pub left_same : {S : Setting false} {old : Text → Bool} {p p' : Point} → Points false S old p p' → p'.left ≡ p.left
left_same {S} {old} {p} {p'} P =
    let d = P.left in
    let o = S.exact refl p.world.states in
    omega (arith, d, o)

module _ {S : Setting false} {old : Text → Bool} where
  pub line_of_end_same : (e e' : End) → EndsAlike false S old e e' → line_of_end e' ≡ line_of_end e
  line_of_end_same e e' E =
      ap (λ f. unwrap_or (line_if_there e'.at.world f) (codes "! lost")) E.flow
      ∙ ap (λ o. unwrap_or o (codes "! lost")) (line_same E.at.world e.flow)

  -- ---- lines

  pub with_line_same : (l l' : Text) → l' ≡ l → (s s' : Session) → Sessions S old s s'
      → Sessions S old (with_line l s) (with_line l' s')
  with_line_same l l' e s s' P = record {
    plain = P.plain;
    world = P.world;
    variables = P.variables;
    staged = P.staged;
    image = P.image;
    is_down = P.is_down;
    settings = P.settings;
    out = (
      P.out.0 ++ l ++ codes "\n",
      ap (λ t. t ++ l ++ codes "\n") P.out.1 ∙ all_of S.front P.out.0,
      (λ k. P.out.2 k ++ e k ++ codes "\n") ∙ all_of S.front' P.out.0,
    );
  }
    where
      all_of : (a o : Text) → a ++ o ++ l ++ codes "\n" ≡ a ++ (o ++ l ++ codes "\n")
      all_of a o = ap (λ t. t ++ codes "\n") (append_assoc a o l) ∙ append_assoc a (o ++ l) (codes "\n")

  pub with_steps_same : (n n' : ℕ) → n' ≡ n → (s s' : Session) → Sessions S old s s'
      → Sessions S old (with_steps n s) (with_steps n' s')
  with_steps_same n n' e s s' P =
      subst (λ b. Sessions S old (with_steps n s) (if b then with_line (codes "# " ++ decimal n') s' else s'))
      (sym (ap (λ settings. settings.steps) P.settings)) (at s.settings.steps)
    where
      at : (b : Bool) → Sessions S old (if b then with_line (codes "# " ++ decimal n) s else s)
          (if b then with_line (codes "# " ++ decimal n') s' else s')
      at true = with_line_same _ _ (ap (λ m. codes "# " ++ decimal m) e) s s' P
      at false = P

  -- ---- acts

  pub start_same : {new : Text → Bool} (a b : Frame) → Frames S.lift new a b → (s s' : Session) → Sessions S old s s'
      → Points false S new (start a s) (start b s')
  start_same a b F s s' P = record {
    world = P.world;
    frame = F;
    plain = tt;
    left = ap (λ settings. settings.budget + S.owed s.world.states) P.settings
        ∙ ap (λ n. s.settings.budget + n) (S.exact refl s.world.states);
    out = P.out;
  }

  console_frames : (s s' : Session) → Sessions S old s s' → Frames S.lift old (console_frame s.variables) (console_frame s'.variables)
  console_frames s s' P = record {
    self_value = ap object_at (sym S.main_stays);
    scopes = refl;
    locals = P.variables;
    is_console = refl;
    is_body = refl;
    hides = refl;
    running = refl;
    parameters = refl;
    no_parameters = λ x e. refl;
  }

  pub steps_same : {new : Text → Bool} (s s' : Session) → Sessions S old s s' → (e e' : End) → EndsAlike false S new e e' → steps_of s' e' ≡ steps_of s e
  steps_same s s' P e e' E = λ k. (P.settings k).budget - left_same E.at k

  after_run_same : (s s' : Session) → Sessions S old s s' → (e e' : End) → EndsAlike false S old e e'
      → Sessions S old (after_run s e) (after_run s' e')
  after_run_same s s' P e e' E =
      with_steps_same _ _ (steps_same s s' P e e' E) _ _
      (with_line_same _ _ (line_of_end_same e e' E) _ _ (record {
        plain = P.plain;
        world = E.at.world;
        variables = E.at.frame.locals;
        staged = P.staged;
        image = P.image;
        is_down = P.is_down;
        settings = P.settings;
        out = E.at.out;
      }))

  -- a text that names no older variable is answered alike
  pub run_same : (text : Text) → ParsedNamesNone old (program_of [] text) → (s s' : Session) → Sessions S old s s'
      → Sessions S old (run_answer text s) (run_answer text s')
  run_same text h s s' P =
      subst (λ settings. Sessions S old (run_answer text s)
      (after_run s' (runs (run settings.budget 0) syntax_text (program_of [] text) (start (console_frame s'.variables) s'))))
      (sym P.settings)
      (after_run_same s s' P _ _ (ends_meet _ _ (P.plain.all_within _)
      ((runs_alike (evaluates_plainly S s.settings.budget 0) old syntax_text (program_of [] text) h).acts
      (start (console_frame s.variables) s) (start (console_frame s'.variables) s')
      (start_same _ _ (console_frames s s' P) s s' P))))
