-- Wherever a session stands in its stream, it goes on from its opening, and its stream is served from there.
use Rattle.std.specs.Prelude.{◌≡◌, ℕ, zero, suc, ◌+◌}
use Rattle.std.proofs.Common.{refl, sym, ap, ◌∙◌, arith}
use Rattle.zw_def_world.specs.Session.{with_line}
use Rattle.zw_def_session.specs.Commands.{Reading, reads, refuses, skips, ends_here, over, next_command, reason_line}
use Rattle.zw_def_session.specs.Answers.{answer}
use Rattle.zw_def_session.specs.Whole.{Outcome, served, served_after}
use Rattle.zw_fresh.specs.Reached.{Onward}
use Rattle.zw_fresh.specs.Places.{Place, behind, place_after, first_place, ServedIsFresh}
use Rattle.zw_fresh.proofs.OnwardLaws.{stays, both_onward, line_within}
use Rattle.zw_fresh.proofs.AnswerLaws.{answer_onward, sets_up_within}
use Rattle.zw_fresh.proofs.ReachLaws.{onward_is_fresh}

-- ---- places go on

behind_onward : (place : Place) (reading : Reading) → Onward place.session (behind place reading).session
behind_onward place (reads command rest) = answer_onward command place.session
behind_onward place (refuses reason rest) = (line_within (reason_line reason) place.session).onward
behind_onward place (skips rest) = (stays place.session).onward
behind_onward place ends_here = (stays place.session).onward
behind_onward place over = (stays place.session).onward

pub place_onward : (n : ℕ) (place : Place) → Onward place.session (place_after n place).session
place_onward zero place = (stays place.session).onward
place_onward (suc n) place = both_onward (behind_onward place (next_command place.rest))
    (place_onward n (behind place (next_command place.rest)))

-- ---- the stream is served from each place

stays_there : (n : ℕ) (place : Place) (reading : Reading) → next_command place.rest ≡ reading → behind place reading ≡ place
    → place_after n place ≡ place
stays_there zero place reading e same = refl
stays_there (suc n) place reading e same =
    ap (place_after n) (ap (behind place) e ∙ same) ∙ stays_there n place reading e same

-- so many readings on top of others
abbrev more : ℕ → ℕ → ℕ
more zero m = m
more (suc n) m = suc (more n m)

more_is : (n m : ℕ) → more n m ≡ n + m
more_is zero m = omega arith
more_is (suc n) m = let e = more_is n m in omega (arith, e)

abbrev served_by : (m : ℕ) (place : Place) → Outcome
served_by m place = served m place.session place.rest

served_on : (n m : ℕ) (place : Place) → served_by (more n (suc m)) place ≡ served_by (suc m) (place_after n place)
served_on zero m place = refl
served_on (suc n) m place = at (served_on n m) (next_command place.rest) refl
  where
    at : ((next : Place) → served_by (more n (suc m)) next ≡ served_by (suc m) (place_after n next))
        → (reading : Reading) → next_command place.rest ≡ reading
        → served_after (served (more n (suc m))) place.session reading ≡ served_by (suc m) (place_after n (behind place reading))
    at h (reads command rest) e = h (record { session = answer command place.session; rest = rest })
    at h (refuses reason rest) e = h (record { session = with_line (reason_line reason) place.session; rest = rest })
    at h (skips rest) e = h (record { session = place.session; rest = rest })
    at h ends_here e = sym (ap (served_by (suc m)) (stays_there n place ends_here e refl)
        ∙ ap (served_after (served m) place.session) e)
    at h over e = sym (ap (served_by (suc m)) (stays_there n place over e refl)
        ∙ ap (served_after (served m) place.session) e)

-- what is served of a stream, is served from the place behind some of its readings
pub served_from : (n m : ℕ) (place : Place)
    → served (n + suc m) place.session place.rest
    ≡ served (suc m) (place_after n place).session (place_after n place).rest
served_from n m place = ap (λ z. served z place.session place.rest) (sym (more_is n (suc m))) ∙ served_on n m place

-- ---- the law

pub served_is_fresh : ServedIsFresh
served_is_fresh words c folder opening e may_reload bytes n commands front h =
    onward_is_fresh words c folder opening (place_after n (first_place opening bytes)).session e may_reload
    (both_onward (sets_up_within opening).onward (place_onward n (first_place opening bytes))) commands front h
