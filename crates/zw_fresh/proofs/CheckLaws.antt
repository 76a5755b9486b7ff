-- `check` runs from the image alone, so two sessions alike with one image are told the same.
use Rattle.std.specs.Prelude.{◌≡◌, Bool, true, false, List, [], ◌∷◌, map, Some, None, if◌then◌else◌}
use Rattle.std.specs.Option.{option_map_or, option_or}
use Rattle.std.proofs.Common.{refl, ap, ◌∙◌}
use Rattle.zw_def.specs.Text.{Text}
use Rattle.zw_def.specs.ConstantPath.{ConstantPath}
use Rattle.zw_def.specs.Map.{Key, KeyKind, file_at, directory}
use Rattle.zw_def_syntax.specs.Program.{program_of}
use Rattle.zw_def_world.specs.Load.{text_of}
use Rattle.zw_def_world.specs.World.{World}
use Rattle.zw_def_world.specs.Session.{Session}
use Rattle.zw_def_world.specs.Setup.{set_up}
use Rattle.zw_def_session.specs.Check.{is_calm_setting, is_calm_text, restless_file, first_restless, quiet_setting, scratch, eager_run, run_text, restless_or, tree_line, configuration_line, check_line}
use Rattle.zw_fresh.specs.Alike.{Setting, Worlds}
use Rattle.zw_fresh.specs.Sessions.{Sessions}

restless_same : {S : Setting false} {w w' : World} → Worlds false S w w' → (p : ConstantPath) (kind : KeyKind)
    → restless_file w' p kind ≡ restless_file w p kind
restless_same W p (file_at path) = λ k.
    if option_map_or (λ t. is_calm_text (map (λ k. k.path) (W.map k)) p (program_of [] t)) (text_of (W.tree k) path) false
    then None else Some path
restless_same W p directory = refl

first_same : {S : Setting false} {w w' : World} → Worlds false S w w' → (keys : List Key)
    → first_restless w' keys ≡ first_restless w keys
first_same W [] = refl
first_same W (k ∷ ks) = λ i. option_or (restless_same W k.path k.kind i) (first_same W ks i)

module _ {S : Setting false} {old : Text → Bool} where
  scratch_same : (s s' : Session) → Sessions S old s s' → s'.image ≡ s.image → scratch s' ≡ scratch s
  scratch_same s s' P image = λ k. set_up (record {
    world = record (image k) { setting = quiet_setting (P.world.setting k); meeting = None };
    variables = [];
    staged = P.world.tree k;
    image = image k;
    is_down = P.is_down k;
    settings = P.settings k;
    out = [];
  })

  tree_line_same : (s s' : Session) → Sessions S old s s' → s'.image ≡ s.image → tree_line s' ≡ tree_line s
  tree_line_same s s' P image =
      let first : first_restless s'.world s'.world.map ≡ first_restless s.world s.world.map
      = ap (first_restless s'.world) P.world.map ∙ first_same P.world s.world.map in
      λ k. restless_or (run_text (eager_run (scratch_same s s' P image k))) (first k)

  pub check_line_same : (s s' : Session) → Sessions S old s s' → s'.image ≡ s.image → check_line s' ≡ check_line s
  check_line_same s s' P image =
      ap (λ setting. (if is_calm_setting setting then tree_line else configuration_line) s') P.world.setting
      ∙ at (is_calm_setting s.world.setting) (tree_line_same s s' P image)
    where
      at : (b : Bool) → tree_line s' ≡ tree_line s
          → (if b then tree_line else configuration_line) s' ≡ (if b then tree_line else configuration_line) s
      at true e = e
      at false e = refl
