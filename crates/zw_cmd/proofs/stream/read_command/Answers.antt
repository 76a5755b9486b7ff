use Rattle.std.proofs.Common.{rules, arith, ◌∙◌}
use Rattle.zw_def.proofs.ToldLemmas.{draws_more}
use Rattle.zw_cmd.proofs.AnswerLemmas.{answers_stop, answers_got, meets_got, passes_on}
use Rattle.zw_cmd.proofs.stream.read_command.Goals as goal

pub returns-in_err-read_line-clause-answer : goal.returns-in_err-read_line-clause-answer
returns-in_err-read_line-clause-answer g c =
    answers_stop c.from_residual.result c.in_err-read_line.field-0.0 _ _ _ _ _ _ _ _ _ (search rules) c.lines.invariant.told c.in_err-read_line.ensures.answer c.in_err-read_line.ensures.met

pub returns-in_err-read_line-clause-draws : goal.returns-in_err-read_line-clause-draws
returns-in_err-read_line-clause-draws g c = draws_more _ _ _ _ _ _ _ _ _ c.lines.invariant.draws c.read_line.ensures.draws

pub lines-preserved : goal.lines-preserved
lines-preserved g c = record {
  same_source = search rules;
  fresh = search rules;
  counts = c.in_ok-read_line.ensures.cause ∙ c.lines.invariant.counts;
  within = omega (arith, (rw c.in-None.is at c.in_ok-read_line.ensures.room), c.lines.invariant.within);
  told =
      passes_on _ _ _ _ _ _ _ _ _ c.lines.invariant.told
      (rw c.in-None.is at c.in_ok-read_line.ensures.answer) (rw c.in-None.is at c.in_ok-read_line.ensures.met);
  draws = draws_more _ _ _ _ _ _ _ _ _ c.lines.invariant.draws c.read_line.ensures.draws;
  sound = λ sound. c.read_line.ensures.sound (c.lines.invariant.sound sound);
  over = λ ended.
      let before = c.lines.invariant.over ended in
      (c.read_line.ensures.over before.1 ∙ before.0, c.in_ok-read_line.ensures.stays before.1);
}

pub returns-in-Some-clause-answer : goal.returns-in-Some-clause-answer
returns-in-Some-clause-answer g c =
    answers_got c.in-Some.got _ _ _ _ _ _ _ _ c.lines.invariant.told (rw c.in-Some.is at c.in_ok-read_line.ensures.answer)

pub returns-in-Some-clause-met : goal.returns-in-Some-clause-met
returns-in-Some-clause-met g c =
    meets_got c.in-Some.got _ _ _ _ _ _ _ _ c.lines.invariant.told (rw c.in-Some.is at c.in_ok-read_line.ensures.met)

pub returns-in-Some-clause-draws : goal.returns-in-Some-clause-draws
returns-in-Some-clause-draws g c = draws_more _ _ _ _ _ _ _ _ _ c.lines.invariant.draws c.read_line.ensures.draws
