use Rattle.std.proofs.Common.{rules, ap, ◌∙◌}
use Rattle.zw_def.proofs.ToldLemmas.{draws_more}
use Rattle.zw_cmd.specs.Request.{reading_for, short_read, long_read}
use Rattle.zw_cmd.specs.Answer.{step_of}
use Rattle.zw_cmd.proofs.AnswerLemmas.{answers_no_line, answers_line, meets_line, takes_short, takes_long}
use Rattle.zw_cmd.proofs.stream.read_line.Goals as goal

pub returns-in_err-next_line-clause-answer : goal.returns-in_err-next_line-clause-answer
returns-in_err-next_line-clause-answer g c =
    answers_no_line step_of c.from_residual.result c.in_err-next_line.field-0.0 _ _ _ _ _ (search rules) (c.in_err-next_line.ensures.answer c.requires.fresh)

-- ---- a line that is too long

pub returns-in-TooLong-clause-answer : goal.returns-in-TooLong-clause-answer
returns-in-TooLong-clause-answer g c =
    answers_line (reading_for c.long_request.result) step_of c.fulfil.result _ _ _ c.next_line.new.into.items _ _ _ _ _ _
    (takes_long _ _ _ _ _ (reading_for c.long_request.result) (rw c.in-TooLong.is at (c.in_ok-next_line.ensures.answer c.requires.fresh)) (λ s. c.long_request.ensures.reads s ∙ ap (λ t. long_read t s) c.deref.ensures.value))
    (rw c.in-TooLong.is at (c.in_ok-next_line.ensures.met c.requires.fresh)) c.fulfil.ensures.answer c.fulfil.ensures.met

pub returns-in-TooLong-clause-met : goal.returns-in-TooLong-clause-met
returns-in-TooLong-clause-met g c =
    meets_line (reading_for c.long_request.result) step_of c.fulfil.result _ _ _ c.next_line.new.into.items _ _ _ _ _
    (takes_long _ _ _ _ _ (reading_for c.long_request.result) (rw c.in-TooLong.is at (c.in_ok-next_line.ensures.answer c.requires.fresh)) (λ s. c.long_request.ensures.reads s ∙ ap (λ t. long_read t s) c.deref.ensures.value))
    (rw c.in-TooLong.is at (c.in_ok-next_line.ensures.met c.requires.fresh)) c.fulfil.ensures.met

pub returns-in-TooLong-clause-draws : goal.returns-in-TooLong-clause-draws
returns-in-TooLong-clause-draws g c = draws_more _ _ _ _ _ _ _ _ _ c.next_line.ensures.draws c.fulfil.ensures.draws

-- ---- a line that is whole

pub returns-in_ok-request-in-Line-clause-answer : goal.returns-in_ok-request-in-Line-clause-answer
returns-in_ok-request-in-Line-clause-answer g c =
    answers_line (reading_for c.in_ok-request-in-Line.request) step_of c.fulfil-in-Line.result _ _ _ c.next_line.new.into.items _ _ _ _ _ _
    (takes_short _ _ _ _ _ (reading_for c.in_ok-request-in-Line.request) (rw c.in-Line.is at (c.in_ok-next_line.ensures.answer c.requires.fresh)) (λ s. c.in_ok-request-in-Line.ensures.reads s ∙ ap (λ t. short_read t s) c.deref-in-Line.ensures.value))
    (rw c.in-Line.is at (c.in_ok-next_line.ensures.met c.requires.fresh)) c.fulfil-in-Line.ensures.answer c.fulfil-in-Line.ensures.met

pub returns-in_ok-request-in-Line-clause-met : goal.returns-in_ok-request-in-Line-clause-met
returns-in_ok-request-in-Line-clause-met g c =
    meets_line (reading_for c.in_ok-request-in-Line.request) step_of c.fulfil-in-Line.result _ _ _ c.next_line.new.into.items _ _ _ _ _
    (takes_short _ _ _ _ _ (reading_for c.in_ok-request-in-Line.request) (rw c.in-Line.is at (c.in_ok-next_line.ensures.answer c.requires.fresh)) (λ s. c.in_ok-request-in-Line.ensures.reads s ∙ ap (λ t. short_read t s) c.deref-in-Line.ensures.value))
    (rw c.in-Line.is at (c.in_ok-next_line.ensures.met c.requires.fresh)) c.fulfil-in-Line.ensures.met

pub returns-in_ok-request-in-Line-clause-draws : goal.returns-in_ok-request-in-Line-clause-draws
returns-in_ok-request-in-Line-clause-draws g c = draws_more _ _ _ _ _ _ _ _ _ c.next_line.ensures.draws c.fulfil-in-Line.ensures.draws
