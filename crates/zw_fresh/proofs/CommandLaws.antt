-- Commands, in two sessions alike: both write the same, and stay alike.
use Rattle.std.specs.Prelude.{◌≡◌, Bool, true, false, not, ◌&&◌, List, [], ◌∷◌, codes, map, if◌then◌else◌}
use Rattle.std.specs.List.{list_any}
use Rattle.std.proofs.Common.{refl, sym, ap, ◌∙◌, subst}
use Rattle.zw_def.specs.Text.{Text}
use Rattle.zw_def.specs.Path.{Path, same_path}
use Rattle.zw_def.specs.Tree.{Tree}
use Rattle.zw_def.specs.Map.{Key}
use Rattle.zw_def_world.specs.Evaluation.{run}
use Rattle.zw_def_world.specs.Act.{End}
use Rattle.zw_def_world.specs.World.{World}
use Rattle.zw_def_world.specs.Session.{Session, with_line, with_lines, line_of_end, is_value, evaluates, acted}
use Rattle.zw_def_world.specs.Eager.{all_eager_keys, loads_all, with_beginnings, is_excluded_kind}
use Rattle.zw_def_session.specs.Answers.{eager_answer, with_failing_end, after_eager_setup, loads_eagerly, unchanged, eager_after_setup, key_line, is_blocked, is_too_large, tree_with, put_answer, del_answer, is_file_of, without_file, refuses_down, unless_down}
use Rattle.zw_fresh.specs.Alike.{Setting, Worlds, EndsAlike}
use Rattle.zw_fresh.specs.Naming.{no_old}
use Rattle.zw_fresh.specs.Sessions.{Sessions}
use Rattle.zw_fresh.proofs.ActLaws.{Alike}
use Rattle.zw_fresh.proofs.EvaluationLaws.{evaluates_plainly}
use Rattle.zw_fresh.proofs.SessionLaws.{line_of_end_same, with_line_same, with_steps_same, steps_same}
use Rattle.zw_fresh.proofs.SettingUpLaws.{value_same, at_end_same, acted_same}
use Rattle.zw_fresh.proofs.EagerLaws.{loads_all_alike}

-- the keys that are loaded eagerly
pub eager_keys_same : {S : Setting false} {w w' : World} → Worlds false S w w' → all_eager_keys w' ≡ all_eager_keys w
eager_keys_same W = λ i. with_beginnings (W.map i) (λ k. not (is_excluded_kind (W.setting i).layout k k.kind))

told_same : {S : Setting false} {new : Text → Bool} (line : Text) (e e' : End) → EndsAlike false S new e e'
    → (if is_value e'.flow then line else line_of_end e') ≡ (if is_value e.flow then line else line_of_end e)
told_same {S} line e e' E = λ k. if (ap is_value E.flow ∙ value_same S.lift e.flow) k then line else line_of_end_same e e' E k

module _ {S : Setting false} {old : Text → Bool} where
  -- ---- eager loading

  loading_same : (keys : List Key) (s s' : Session) → Sessions S old s s'
      → Alike S no_old (loads_all (evaluates s) keys) (loads_all (evaluates s') keys)
  loading_same keys s s' P = subst (λ settings. Alike S no_old (loads_all (run s.settings.budget 0) keys)
      (loads_all (run settings.budget 0) keys)) (sym P.settings) (loads_all_alike (evaluates_plainly S s.settings.budget 0) keys)

  pub eager_same : (keys : List Key) (s s' : Session) → Sessions S old s s'
      → Sessions S old (eager_answer keys s) (eager_answer keys s')
  eager_same keys s s' P =
      let E = acted_same _ _ (loading_same keys s s' P) s s' P in
      with_steps_same _ _ (steps_same s s' P _ _ E) _ _
      (with_line_same _ _ (told_same (codes "ok") _ _ E) _ _ (at_end_same _ _ E s s' P))

  -- eager loading after a setup
  failing_same : {new : Text → Bool} (e e' : End) → EndsAlike false S new e e' → (s s' : Session) → Sessions S old s s'
      → Sessions S old (with_failing_end e s) (with_failing_end e' s')
  failing_same e e' E s s' P =
      subst (λ b. Sessions S old (with_failing_end e s) (if b then s' else with_line (line_of_end e') s'))
      (sym (ap is_value E.flow ∙ value_same S.lift e.flow)) (at (is_value e.flow))
    where
      at : (b : Bool) → Sessions S old (if b then s else with_line (line_of_end e) s)
          (if b then s' else with_line (line_of_end e') s')
      at true = P
      at false = with_line_same _ _ (line_of_end_same e e' E) s s' P

  loads_eagerly_same : (s s' : Session) → Sessions S old s s' → Sessions S old (loads_eagerly s) (loads_eagerly s')
  loads_eagerly_same s s' P =
      let E = acted_same _ _ (loading_same (all_eager_keys s.world) s s' P) s s' P in
      subst (λ keys. Sessions S old (loads_eagerly s) (after_eager_setup s' (acted (loads_all (evaluates s') keys) s')))
      (sym (eager_keys_same P.world))
      (with_steps_same _ _ (steps_same s s' P _ _ E) _ _ (failing_same _ _ E _ _ (at_end_same _ _ E s s' P)))

  pub eager_after_setup_same : (s s' : Session) → Sessions S old s s'
      → Sessions S old (eager_after_setup s) (eager_after_setup s')
  eager_after_setup_same s s' P =
      subst (λ b. Sessions S old (eager_after_setup s) ((if b then loads_eagerly else unchanged) s'))
      (sym (λ k. (P.settings k).eager && not (P.is_down k))) (at (s.settings.eager && not s.is_down))
    where
      at : (b : Bool) → Sessions S old ((if b then loads_eagerly else unchanged) s) ((if b then loads_eagerly else unchanged) s')
      at true = loads_eagerly_same s s' P
      at false = P

  -- ---- commands that evaluate

  pub unless_down_same : (answer answer' : Session → Session)
      → ((s s' : Session) → Sessions S old s s' → Sessions S old (answer s) (answer' s')) → (s s' : Session) → Sessions S old s s'
      → Sessions S old (unless_down answer s) (unless_down answer' s')
  unless_down_same answer answer' h s s' P =
      subst (λ b. Sessions S old (unless_down answer s) ((if b then refuses_down else answer') s')) (sym P.is_down) (at s.is_down)
    where
      at : (b : Bool) → Sessions S old ((if b then refuses_down else answer) s) ((if b then refuses_down else answer') s')
      at true = with_line_same _ _ refl s s' P
      at false = h s s' P

  -- ---- edits

  if_same : (b b' : Bool) → b' ≡ b → {s t s' t' : Session} → Sessions S old s s' → Sessions S old t t'
      → Sessions S old (if b then s else t) (if b' then s' else t')
  if_same b b' e {s} {t} {s'} {t'} P Q =
      subst (λ d. Sessions S old (if b then s else t) (if d then s' else t')) (sym e) (at b)
    where
      at : (b : Bool) → Sessions S old (if b then s else t) (if b then s' else t')
      at true = P
      at false = Q

  staged_same : (tree tree' : Tree) → tree' ≡ tree → (s s' : Session) → Sessions S old s s'
      → Sessions S old (record s { staged = tree }) (record s' { staged = tree' })
  staged_same tree tree' e s s' P = record {
    plain = P.plain;
    world = P.world;
    variables = P.variables;
    staged = e;
    image = P.image;
    is_down = P.is_down;
    settings = P.settings;
    out = P.out;
  }

  pub put_same : (path : Path) (text : Text) (s s' : Session) → Sessions S old s s'
      → Sessions S old (put_answer path text s) (put_answer path text s')
  put_same path text s s' P =
      if_same _ _ (λ k. list_any (same_path path) (P.settings k).fixed) (with_line_same _ _ refl s s' P)
      (if_same _ _ refl (with_line_same _ _ refl s s' P)
      (if_same _ _ (λ k. is_blocked (P.staged k) path) (with_line_same _ _ refl s s' P)
      (if_same _ _ (λ k. is_too_large (tree_with (P.staged k) path text) text) (with_line_same _ _ refl s s' P)
      (with_line_same _ _ refl _ _ (staged_same _ _ (λ k. tree_with (P.staged k) path text) s s' P)))))

  pub del_same : (path : Path) (s s' : Session) → Sessions S old s s'
      → Sessions S old (del_answer path s) (del_answer path s')
  del_same path s s' P =
      if_same _ _ (λ k. list_any (same_path path) (P.settings k).fixed) (with_line_same _ _ refl s s' P)
      (if_same _ _ refl (with_line_same _ _ refl s s' P)
      (if_same _ _ (λ k. not (is_file_of (P.staged k) path)) (with_line_same _ _ refl s s' P)
      (with_line_same _ _ refl _ _ (staged_same _ _ (λ k. without_file (P.staged k) path) s s' P))))

  -- ---- lines of the map

  pub lines_same : (lines : List Text) (s s' : Session) → Sessions S old s s' → Sessions S old (with_lines lines s) (with_lines lines s')
  lines_same [] s s' P = P
  lines_same (line ∷ lines) s s' P = lines_same lines _ _ (with_line_same line line refl s s' P)

  pub map_same : (s s' : Session) → Sessions S old s s'
      → Sessions S old (with_lines (map key_line s.world.map) s) (with_lines (map key_line s'.world.map) s')
  map_same s s' P = subst (λ keys. Sessions S old (with_lines (map key_line s.world.map) s) (with_lines (map key_line keys) s'))
      (sym P.world.map) (lines_same (map key_line s.world.map) s s' P)
