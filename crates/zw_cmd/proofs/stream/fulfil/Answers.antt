use Rattle.std.proofs.Common.{refl, rules, ap, Some}
use Rattle.zw_def_session.specs.Commands.{put_of, runs_of}
use Rattle.zw_cmd.specs.Request.{reading_for}
use Rattle.zw_cmd.proofs.AnswerLemmas.{answers_taken, answers_not, meets_taken, runs_taken}
use Rattle.zw_cmd.proofs.stream.fulfil.Goals as goal

-- ---- `put`

pub returns-in_err-taken-in-Put-clause-answer : goal.returns-in_err-taken-in-Put-clause-answer
returns-in_err-taken-in-Put-clause-answer g c =
    answers_not (put_of c.in-Put.asked c.in-Put.path) refl c.in-Put.asked _ (λ s. ap (λ q. reading_for q s) c.in-Put.is)
    c.from_residual.result c.in_err-taken-in-Put.field-0.0 _ _ _ _ _ _ (search rules) (c.in_err-taken-in-Put.ensures.answer c.requires.fresh)

pub returns-in_ok-taken-in-Put-clause-answer : goal.returns-in_ok-taken-in-Put-clause-answer
returns-in_ok-taken-in-Put-clause-answer g c =
    answers_taken (put_of c.in-Put.asked c.in-Put.path) refl c.in-Put.asked _ (λ s. ap (λ q. reading_for q s) c.in-Put.is)
    c.in_ok-taken-in-Put.taken (Some c.put_of.result) _ _ _ _ _ _ c.new-bytes.ensures.items (c.in_ok-taken-in-Put.ensures.answer c.requires.fresh) (λ ls s count is lines. c.put_of.ensures.reads ls s count is)

pub returns-in_ok-taken-in-Put-clause-met : goal.returns-in_ok-taken-in-Put-clause-met
returns-in_ok-taken-in-Put-clause-met g c =
    meets_taken (put_of c.in-Put.asked c.in-Put.path) refl c.in-Put.asked _ (λ s. ap (λ q. reading_for q s) c.in-Put.is)
    c.in_ok-taken-in-Put.taken (Some c.put_of.result) _ _ _ _ _ _ _ _ c.new-bytes.ensures.items (c.in_ok-taken-in-Put.ensures.answer c.requires.fresh) (c.in_ok-taken-in-Put.ensures.met c.requires.fresh)
    (λ ls s count is lines. c.put_of.ensures.reads ls s count is)

-- ---- `runs`

pub returns-in_err-taken-in-Runs-clause-answer : goal.returns-in_err-taken-in-Runs-clause-answer
returns-in_err-taken-in-Runs-clause-answer g c =
    answers_not (runs_of c.in-Runs.asked) refl c.in-Runs.asked _ (λ s. ap (λ q. reading_for q s) c.in-Runs.is)
    c.from_residual-in_err-taken-in-Runs.result c.in_err-taken-in-Runs.field-0.0 _ _ _ _ _ _ (search rules) (c.in_err-taken-in-Runs.ensures.answer c.requires.fresh)

pub returns-in_ok-run_of-in-Runs-clause-answer : goal.returns-in_ok-run_of-in-Runs-clause-answer
returns-in_ok-run_of-in-Runs-clause-answer g c =
    answers_taken (runs_of c.in-Runs.asked) refl c.in-Runs.asked _ (λ s. ap (λ q. reading_for q s) c.in-Runs.is)
    c.in_ok-taken-in-Runs.taken (Some c.in_ok-run_of-in-Runs.field-0) _ _ _ _ _ _ c.new-bytes-in-Runs.ensures.items (c.in_ok-taken-in-Runs.ensures.answer c.requires.fresh)
    (λ ls s count is lines. runs_taken c.in-Runs.asked c.in_ok-taken-in-Runs.taken c.in_ok-run_of-in-Runs.field-0 _ c.deref.result.now c.deref.ensures.value c.in_ok-run_of-in-Runs.ensures.reads ls s count lines)

pub returns-in_ok-run_of-in-Runs-clause-met : goal.returns-in_ok-run_of-in-Runs-clause-met
returns-in_ok-run_of-in-Runs-clause-met g c =
    meets_taken (runs_of c.in-Runs.asked) refl c.in-Runs.asked _ (λ s. ap (λ q. reading_for q s) c.in-Runs.is)
    c.in_ok-taken-in-Runs.taken (Some c.in_ok-run_of-in-Runs.field-0) _ _ _ _ _ _ _ _ c.new-bytes-in-Runs.ensures.items (c.in_ok-taken-in-Runs.ensures.answer c.requires.fresh) (c.in_ok-taken-in-Runs.ensures.met c.requires.fresh)
    (λ ls s count is lines. runs_taken c.in-Runs.asked c.in_ok-taken-in-Runs.taken c.in_ok-run_of-in-Runs.field-0 _ c.deref.result.now c.deref.ensures.value c.in_ok-run_of-in-Runs.ensures.reads ls s count lines)
