-- The law of reloads for every command: what is written stays the same through further reloads, and through checks.
use Rattle.std.specs.Prelude.{ℕ, ◌+◌, ◌<◌, ◌≡◌, Bool, true, false, List, [], ◌∷◌, ◌++◌, codes, Some, if◌then◌else◌}
use Rattle.std.proofs.Common.{refl, sym, ap, ◌∙◌, subst, arith, lt_of_lt_of_le}
use Rattle.zw_def.specs.Text.{Text}
use Rattle.zw_def.specs.Tree.{Tree}
use Rattle.zw_def.specs.Map.{map_of}
use Rattle.zw_def_world.specs.Value.{Value, nil}
use Rattle.zw_def_world.specs.Table.{Table}
use Rattle.zw_def_world.specs.World.{World, mounted}
use Rattle.zw_def_world.specs.Frame.{top_frame}
use Rattle.zw_def_world.specs.BootTable.{boot_of}
use Rattle.zw_def_world.specs.Act.{read, changing}
use Rattle.zw_def_world.specs.Session.{Session, Settings, with_line, with_fault, at_end, start}
use Rattle.zw_def_world.specs.Setup.{is_told, paths_in, mounts, does, set_up}
use Rattle.zw_def_world.specs.Reload.{unloaded}
use Rattle.zw_def_world.specs.Eager.{all_eager_keys, eager_keys_within}
use Rattle.zw_def_session.specs.Commands.{Command, put, del, run, reload, eager, eager_dir, eager_ns, load, expect, shadows, check}
use Rattle.zw_def_session.specs.Commands as command
use Rattle.zw_def_session.specs.Check.{check_line}
use Rattle.zw_def_session.specs.Answers.{answer, unless_down, eager_answer, reloads, refuses_reload, reload_answer, refuses_down}
use Rattle.zw_def_session.specs.Whole.{sets_up}
use Rattle.zw_fresh.specs.Alike.{Setting}
use Rattle.zw_fresh.specs.Sessions.{Sessions}
use Rattle.zw_fresh.specs.Fresh.{raised_by, fresh_session, restored_session, older}
use Rattle.zw_fresh.specs.Law.{CameFrom, answered, ReloadIsFresh}
use Rattle.zw_fresh.proofs.SessionLaws.{with_line_same, run_same}
use Rattle.zw_fresh.proofs.NamedLaws.{Spares, AllSpare, commands_spared}
use Rattle.zw_fresh.proofs.FreshLaws.{raised_later, fresh_setting}
use Rattle.zw_fresh.proofs.CommandLaws.{eager_after_setup_same, eager_keys_same, unless_down_same, eager_same, put_same, del_same, map_same}
use Rattle.zw_fresh.proofs.TreeCommandLaws.{eager_dir_same, within_same, load_path_same, expect_same, shadows_same}
use Rattle.zw_fresh.proofs.ReloadLaws.{set_up_alike}
use Rattle.zw_fresh.proofs.OnwardLaws.{mounted_within}
use Rattle.zw_fresh.proofs.AnswerLaws.{after_setup_within, sets_up_within, answer_onward}
use Rattle.zw_fresh.proofs.RemountLaws.{reloads_same}
use Rattle.zw_fresh.proofs.CheckLaws.{check_line_same}
use Rattle.zw_fresh.proofs.ImageLaws.{from_image}

-- two sessions alike, with one image, that have set up
pub record Both (S : Setting false) (old : Text → Bool) (s s' : Session) : Type 0 where
  pub sessions : Sessions S old s s'
  pub image : s'.image ≡ s.image
  pub began : 0 < s.world.setups

module _ {S : Setting false} {old : Text → Bool} where
  -- ---- answers

  checked_same : (s s' : Session) → Both S old s s' → Sessions S old (answer check s) (answer check s')
  checked_same s s' P =
      subst (λ b. Sessions S old (answer check s) ((if b then refuses_down else (λ t. with_line (check_line t) t)) s'))
      (sym P.sessions.is_down) (at s.is_down)
    where
      at : (b : Bool) → Sessions S old ((if b then refuses_down else (λ t. with_line (check_line t) t)) s)
          ((if b then refuses_down else (λ t. with_line (check_line t) t)) s')
      at true = with_line_same _ _ refl s s' P.sessions
      at false = with_line_same _ _ (check_line_same s s' P.sessions P.image) s s' P.sessions

  reload_same : ((n : ℕ) → 0 < n → S.setup_there (n + 1) ≡ S.setup_there n + 1) → (s s' : Session) → Both S old s s'
      → Sessions S old (reload_answer s) (reload_answer s')
  reload_same next s s' P =
      subst (λ settings. Sessions S old (reload_answer s) ((if settings.reloading then reloads else refuses_reload) s'))
      (sym P.sessions.settings) (at s.settings.reloading)
    where
      at : (b : Bool) → Sessions S old ((if b then reloads else refuses_reload) s) ((if b then reloads else refuses_reload) s')
      at true = reloads_same next s s' P.sessions P.began
      at false = with_line_same _ _ refl s s' P.sessions

  every_same : ((n : ℕ) → 0 < n → S.setup_there (n + 1) ≡ S.setup_there n + 1) → (c : Command) → Spares old c → (s s' : Session)
      → Both S old s s' → Sessions S old (answer c s) (answer c s')
  every_same next (put path text) h s s' P = put_same path text s s' P.sessions
  every_same next (del path) h s s' P = del_same path s s' P.sessions
  every_same next (run text) h s s' P = unless_down_same _ _ (run_same text h) s s' P.sessions
  every_same next eager h s s' P =
      subst (λ keys. Sessions S old (answer eager s) (unless_down (eager_answer keys) s')) (sym (eager_keys_same P.sessions.world))
      (unless_down_same _ _ (eager_same (all_eager_keys s.world)) s s' P.sessions)
  every_same next command.map h s s' P = map_same s s' P.sessions
  every_same next reload h s s' P = reload_same next s s' P
  every_same next (eager_dir path) h s s' P = unless_down_same _ _ (eager_dir_same path) s s' P.sessions
  every_same next (eager_ns p) h s s' P =
      subst (λ keys. Sessions S old (answer (eager_ns p) s) (unless_down (eager_answer keys) s')) (sym (within_same P.sessions.world p))
      (unless_down_same _ _ (eager_same (eager_keys_within s.world p)) s s' P.sessions)
  every_same next (load path) h s s' P = unless_down_same _ _ (load_path_same path) s s' P.sessions
  every_same next (expect path) h s s' P = expect_same path s s' P.sessions
  every_same next shadows h s s' P = unless_down_same _ _ shadows_same s s' P.sessions
  every_same next check h s s' P = checked_same s s' P

  pub every_both : ((n : ℕ) → 0 < n → S.setup_there (n + 1) ≡ S.setup_there n + 1) → (c : Command) → Spares old c → (s s' : Session)
      → Both S old s s' → Both S old (answer c s) (answer c s')
  every_both next c h s s' P = record {
    sessions = every_same next c h s s' P;
    image = (answer_onward c s').image ∙ P.image ∙ sym (answer_onward c s).image;
    began = lt_of_lt_of_le P.began (answer_onward c s).setups;
  }

  answered_alike : ((n : ℕ) → 0 < n → S.setup_there (n + 1) ≡ S.setup_there n + 1) → (cs : List Command) → AllSpare old cs
      → (s s' : Session) → Both S old s s' → Sessions S old (answered cs s) (answered cs s')
  answered_alike next [] h s s' P = P.sessions
  answered_alike next (c ∷ cs) h s s' P =
      answered_alike next cs h.1 (answer c s) (answer c s') (every_both next c h.0 s s' P)

-- ---- a setup begins

mounts_begin : (tree : Tree) (s : Session) (b : Bool) → is_told s.world (paths_in s.world.setting.layout tree) ≡ Some b
    → 0 < (does (mounts tree) s).world.setups
mounts_begin tree s b told =
    subst (λ o.
    let e = read o (λ told. changing (λ w. mounted tree (map_of w.setting.layout tree (boot_of w)) w) nil) (start (top_frame []) s) in
    0 < (with_fault e (at_end e s)).world.setups) (sym told) (positive s.world.setups)
  where
    positive : (n : ℕ) → 0 < n + 1
    positive n = omega arith

pub raised_next : (d n : ℕ) → 0 < n → raised_by d (n + 1) ≡ raised_by d n + 1
raised_next d n h = raised_later d (n + 1) (omega (arith, h)) ∙ past d n ∙ ap (λ m. m + 1) (sym (raised_later d n h))
  where
    past : (d n : ℕ) → n + 1 + d ≡ n + d + 1
    past d n = omega arith

-- ---- the law

-- from an image and a world that came from it
pub restored_both : (image w : World) (settings : Settings) (tree : Tree) (variables : Table Value) (is_down : Bool)
    (front front' : Text) → CameFrom image w tree
    → Both (fresh_setting w.setups front front') (older variables) (sets_up (fresh_session image settings tree front))
    (sets_up (restored_session image w settings tree variables is_down front'))
restored_both image w settings tree variables is_down front front' C =
    let f = fresh_session image settings tree front in
    let u = restored_session image w settings tree variables is_down front' in
    record {
      sessions = eager_after_setup_same _ _
          (set_up_alike image w settings tree variables is_down front front' (from_image image w front front' C));
      image = (sets_up_within u).onward.image ∙ sym (sets_up_within f).onward.image;
      began = lt_of_lt_of_le (lt_of_lt_of_le (mounts_begin tree f C.told C.tells)
          (mounted_within (does (mounts tree) f)).onward.setups) (after_setup_within (set_up f)).onward.setups;
    }

pub reload_is_fresh : ReloadIsFresh
reload_is_fresh s front commands C h =
    let t = unloaded s in
    (answered_alike (raised_next t.world.setups) commands (commands_spared t.variables commands h) _ _
    (restored_both t.image t.world t.settings t.staged t.variables t.is_down front
    (t.out ++ codes "reloaded" ++ codes "\n") C)).out
