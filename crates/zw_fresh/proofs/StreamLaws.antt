-- After a reload a stream is served as by a process that opens.
use Rattle.std.specs.Prelude.{◌≡◌, ◌<◌, ◌+◌, ℕ, zero, suc, Bool, false, ◌++◌, codes}
use Rattle.std.proofs.Common.{refl, sym, ◌∙◌, subst}
use Rattle.zw_def.specs.Text.{Text}
use Rattle.zw_def_world.specs.Reload.{unloaded}
use Rattle.zw_def_world.specs.Session.{Session, with_line}
use Rattle.zw_def_session.specs.Commands.{Stream, Reading, reads, refuses, skips, ends_here, over, next_command, reason_line}
use Rattle.zw_def_session.specs.Answers.{answer, reloads}
use Rattle.zw_def_session.specs.Opening.{Status, done, limit}
use Rattle.zw_def_session.specs.Whole.{ended, served, served_after, sets_up}
use Rattle.zw_fresh.specs.Alike.{Setting}
use Rattle.zw_fresh.specs.Sessions.{Sessions}
use Rattle.zw_fresh.specs.Fresh.{fresh_session}
use Rattle.zw_fresh.specs.Places.{place_after, first_place}
use Rattle.zw_fresh.specs.Served.{OutcomesAlike, ReloadServesAsOpening}
use Rattle.zw_fresh.specs.Named.{StreamNamesNone}
use Rattle.zw_fresh.proofs.NamedLaws.{ReadingSpares, StreamSpares, stream_spared}
use Rattle.zw_fresh.proofs.SessionLaws.{with_line_same}
use Rattle.zw_fresh.proofs.OnwardLaws.{both_onward, unloaded_within}
use Rattle.zw_fresh.proofs.AnswerLaws.{sets_up_within}
use Rattle.zw_fresh.proofs.EveryLaws.{Both, every_both, raised_next, restored_both}
use Rattle.zw_fresh.proofs.ReachLaws.{reached_came, begins_again, answers_reload}
use Rattle.zw_fresh.proofs.PlaceLaws.{place_onward}
use Rattle.zw_fresh.proofs.AgainLaws.{is_again}

module _ {S : Setting false} {old : Text → Bool} where
  line_both : (line : Text) (s s' : Session) → Both S old s s' → Both S old (with_line line s) (with_line line s')
  line_both line s s' P = record {
    sessions = with_line_same line line refl s s' P.sessions;
    image = P.image;
    began = P.began;
  }

  ended_alike : (status : Status) (s s' : Session) → Sessions S old s s'
      → OutcomesAlike S.front S.front' (ended status s) (ended status s')
  ended_alike status s s' P = record { out = P.out; status = refl }

  served_alike : ((n : ℕ) → 0 < n → S.setup_there (n + 1) ≡ S.setup_there n + 1) → (m : ℕ) (stream : Stream) → StreamSpares old m stream
      → (s s' : Session) → Both S old s s' → OutcomesAlike S.front S.front' (served m s stream) (served m s' stream)
  served_alike next zero stream h s s' P = ended_alike done s s' P.sessions
  served_alike next (suc m) stream h s s' P = by (served_alike next m) (next_command stream) h
    where
      by : ((rest : Stream) → StreamSpares old m rest → (t t' : Session) → Both S old t t'
          → OutcomesAlike S.front S.front' (served m t rest) (served m t' rest))
          → (reading : Reading) → ReadingSpares (StreamSpares old m) old reading
          → OutcomesAlike S.front S.front' (served_after (served m) s reading) (served_after (served m) s' reading)
      by more (reads command rest) h = more rest h.1 (answer command s) (answer command s') (every_both next command h.0 s s' P)
      by more (refuses reason rest) h = more rest h _ _ (line_both (reason_line reason) s s' P)
      by more (skips rest) h = more rest h s s' P
      by more ends_here h = ended_alike done s s' P.sessions
      by more over h = ended_alike limit _ _ (line_both (codes "limit: stream") s s' P).sessions

pub reload_serves : ReloadServesAsOpening
reload_serves words c folder folder' opening again e e' same may_reload bytes n m stream mounts h =
    let place = place_after n (first_place opening bytes) in
    let s = place.session in
    let t = unloaded s in
    let A = both_onward (sets_up_within opening).onward (place_onward n (first_place opening bytes)) in
    let front' = t.out ++ codes "reloaded" ++ codes "\n" in
    let spares = stream_spared t.variables m stream
    (subst (λ variables. StreamNamesNone variables m stream) (sym (unloaded_within s).variables) h) in
    let law : OutcomesAlike again.out front' (served m (sets_up (fresh_session t.image t.settings t.staged again.out)) stream)
    (served m (reloads s) stream)
    = served_alike (raised_next t.world.setups) m stream spares _ _
    (restored_both t.image t.world t.settings t.staged t.variables t.is_down again.out front'
    (reached_came words c folder opening s e A)) in
    subst (λ z. OutcomesAlike again.out front' (served m (sets_up again) stream) (served m z stream))
    (sym (answers_reload words c folder opening s e may_reload A))
    (subst (λ z. OutcomesAlike again.out front' (served m (sets_up z) stream) (served m (reloads s) stream))
    (begins_again words c folder opening s e A again.out
    ∙ is_again words c folder folder' opening again e e' same s.staged mounts) law)
