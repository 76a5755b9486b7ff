-- Commands that ask the mounted tree, in two sessions alike: both write the same, and stay alike.
use Rattle.std.specs.Prelude.{◌≡◌, Bool, true, false, not, ◌&&◌, List, map, Option, Some, None, Ok, Err, if◌then◌else◌}
use Rattle.std.specs.List.{list_any}
use Rattle.std.specs.Option.{option_map_or}
use Rattle.std.proofs.Common.{refl, sym, ap, subst}
use Rattle.zw_def.specs.Text.{Text}
use Rattle.zw_def.specs.Path.{Path, is_below, same_path}
use Rattle.zw_def.specs.ConstantPath.{ConstantPath}
use Rattle.zw_def.specs.Nesting.{same_names}
use Rattle.zw_def.specs.Expected.{Expected, expected_path}
use Rattle.zw_def.specs.Visible.{visible_files}
use Rattle.zw_def.specs.Map.{Key, key_at}
use Rattle.zw_def.specs.Shadow.{shadowed}
use Rattle.zw_def_world.specs.World.{World}
use Rattle.zw_def_world.specs.Session.{Session, with_line, with_lines}
use Rattle.zw_def_world.specs.Eager.{with_beginnings, is_excluded_kind, is_key_below, is_key_within, eager_keys_below, eager_keys_within, keys_to}
use Rattle.zw_def_session.specs.Answers.{eager_answer, visible_in, not_managed, is_shadowed_line, eager_dir_answer, is_loaded_from, is_winner, load_expected, expected_in, expect_line, shadow_line, shadow_lines}
use Rattle.zw_fresh.specs.Alike.{Setting, Worlds}
use Rattle.zw_fresh.specs.Sessions.{Sessions}
use Rattle.zw_fresh.proofs.SessionLaws.{with_line_same, with_steps_same}
use Rattle.zw_fresh.proofs.BootTableLaws.{boot_of_same}
use Rattle.zw_fresh.proofs.CommandLaws.{eager_same, lines_same}

pub within_same : {S : Setting false} {w w' : World} → Worlds false S w w' → (p : ConstantPath)
    → eager_keys_within w' p ≡ eager_keys_within w p
within_same W p = λ i. with_beginnings (W.map i)
    (λ k. not (is_excluded_kind (W.setting i).layout k k.kind) && is_key_within p k)

module _ {S : Setting false} {old : Text → Bool} where
  keys_same : (keys keys' : List Key) → keys' ≡ keys → (s s' : Session) → Sessions S old s s'
      → Sessions S old (eager_answer keys s) (eager_answer keys' s')
  keys_same keys keys' e s s' P =
      subst (λ z. Sessions S old (eager_answer keys s) (eager_answer z s')) (sym e) (eager_same keys s s' P)

  pub eager_dir_same : (dir : Path) (s s' : Session) → Sessions S old s s'
      → Sessions S old (eager_dir_answer dir s) (eager_dir_answer dir s')
  eager_dir_same dir s s' P =
      subst (λ b. Sessions S old (eager_dir_answer dir s)
      ((if b then eager_answer (eager_keys_below s'.world dir) else with_line (not_managed dir)) s'))
      (sym (λ k. list_any (λ f. is_below f dir) (visible_files (P.world.setting k).layout (P.world.tree k))))
      (at (list_any (λ f. is_below f dir) (visible_in s)))
    where
      at : (b : Bool) → Sessions S old ((if b then eager_answer (eager_keys_below s.world dir) else with_line (not_managed dir)) s)
          ((if b then eager_answer (eager_keys_below s'.world dir) else with_line (not_managed dir)) s')
      at true = keys_same _ _ (λ i. with_beginnings (P.world.map i)
          (λ k. not (is_excluded_kind (P.world.setting i).layout k k.kind) && is_key_below dir k)) s s' P
      at false = with_line_same _ _ refl s s' P

  pub expected_same : (path : Path) (s s' : Session) → Sessions S old s s' → expected_in s' path ≡ expected_in s path
  expected_same path s s' P = λ k.
      if list_any (same_path path) (visible_files (P.world.setting k).layout (P.world.tree k))
      then expected_path (P.world.setting k).layout path else None

  pub expect_same : (path : Path) (s s' : Session) → Sessions S old s s'
      → Sessions S old (with_line (expect_line (expected_in s path)) s) (with_line (expect_line (expected_in s' path)) s')
  expect_same path s s' P = with_line_same _ _ (ap expect_line (expected_same path s s' P)) s s' P

  pub load_same : (path : Path) (o : Option Expected) (s s' : Session) → Sessions S old s s'
      → Sessions S old (load_expected path s o) (load_expected path s' o)
  load_same path None s s' P = with_line_same _ _ refl s s' P
  load_same path (Some (Err wrong)) s s' P = with_steps_same 0 0 refl _ _ (with_line_same _ _ refl s s' P)
  load_same path (Some (Ok p)) s s' P =
      subst (λ b. Sessions S old (load_expected path s (Some (Ok p)))
      ((if b then eager_answer (keys_to s'.world p) else with_line (is_shadowed_line path)) s'))
      (sym (λ k. option_map_or (λ key. is_loaded_from path key.kind) (key_at (P.world.map k) p) false))
      (at (is_winner s path p))
    where
      at : (b : Bool) → Sessions S old ((if b then eager_answer (keys_to s.world p) else with_line (is_shadowed_line path)) s)
          ((if b then eager_answer (keys_to s'.world p) else with_line (is_shadowed_line path)) s')
      at true = keys_same _ _ (λ i. with_beginnings (P.world.map i) (λ k. same_names k.path p)) s s' P
      at false = with_line_same _ _ refl s s' P

  pub load_path_same : (path : Path) (s s' : Session) → Sessions S old s s'
      → Sessions S old (load_expected path s (expected_in s path)) (load_expected path s' (expected_in s' path))
  load_path_same path s s' P =
      subst (λ o. Sessions S old (load_expected path s (expected_in s path)) (load_expected path s' o))
      (sym (expected_same path s s' P)) (load_same path (expected_in s path) s s' P)

  pub shadows_same : (s s' : Session) → Sessions S old s s'
      → Sessions S old (with_lines (shadow_lines s) s) (with_lines (shadow_lines s') s')
  shadows_same s s' P =
      subst (λ lines. Sessions S old (with_lines (shadow_lines s) s) (with_lines lines s'))
      (sym (λ k. map shadow_line (shadowed (P.world.setting k).layout (P.world.tree k)
      (boot_of_same S s.image s'.image P.image.modules k)))) (lines_same (shadow_lines s) s s' P)
