use Rattle.std.proofs.Common.{rules, arith, ◌∙◌, subst, ap, sym}
use Rattle.zw_def.specs.Line.{HasLineFeed, after_line}
use Rattle.zw_def.proofs.LineLemmas.{after_line-other}
use Rattle.zw_io.proofs.LineStepLemmas.{told_err, told_last, told_line, told_on, met_line}
use Rattle.zw_def.proofs.ToldLemmas.{draws_more}
use Rattle.zw_io.proofs.DrawnLemmas.{feed_some, feed_rest}
use Rattle.zw_io.proofs.lines.Lines.cut_line.Goals as goal

-- ---- what is drawn

pub returns-in_err-next_byte-clause-draws : goal.returns-in_err-next_byte-clause-draws
returns-in_err-next_byte-clause-draws g c =
    draws_more _ _ _ _ _ _ _ _ _ c.bytes.invariant.draws c.next_byte.ensures.draws

pub returns-in-None-2-clause-draws : goal.returns-in-None-2-clause-draws
returns-in-None-2-clause-draws g c =
    draws_more _ _ _ _ _ _ _ _ _ c.bytes.invariant.draws c.next_byte.ensures.draws

pub returns-in-Some-eq10-clause-draws : goal.returns-in-Some-eq10-clause-draws
returns-in-Some-eq10-clause-draws g c =
    draws_more _ _ _ _ _ _ _ _ _ c.bytes.invariant.draws c.next_byte.ensures.draws

pub returns-in_err-keep-in-Some-clause-draws : goal.returns-in_err-keep-in-Some-clause-draws
returns-in_err-keep-in-Some-clause-draws g c =
    draws_more _ _ _ _ _ _ _ _ _ c.bytes.invariant.draws c.next_byte.ensures.draws

-- ---- what is answered

pub returns-in_err-next_byte-clause-answer : goal.returns-in_err-next_byte-clause-answer
returns-in_err-next_byte-clause-answer g c =
    told_err c.from_residual.result c.in_err-next_byte.field-0.0 _ _ _ _ _ _ _ (search rules) c.bytes.invariant.told c.in_err-next_byte.ensures.step

pub returns-in-None-2-clause-answer : goal.returns-in-None-2-clause-answer
returns-in-None-2-clause-answer g c =
    told_last c.ended.result _ _ _ _ _ _ _ c.bytes.invariant.told (rw c.in-None-2.is at c.in_ok-next_byte.ensures.step) (search (rules, arith)) c.bytes.invariant.within (search (rules, c.ended.ensures))

pub returns-in-Some-eq10-clause-answer : goal.returns-in-Some-eq10-clause-answer
returns-in-Some-eq10-clause-answer g c =
    told_line c.ended-in-Some-eq10.result _ _ _ _ _ _ _ _ c.bytes.invariant.told (rw c.in-Some-eq10.is at c.in_ok-next_byte.ensures.step) (search rules) c.bytes.invariant.within (search (rules, c.ended-in-Some-eq10.ensures))

pub returns-in-Some-eq10-clause-met : goal.returns-in-Some-eq10-clause-met
returns-in-Some-eq10-clause-met g c =
    met_line c.ended-in-Some-eq10.result _ _ _ _ _ _ _ _ _ _ _ c.bytes.invariant.told (rw c.in-Some-eq10.is at c.in_ok-next_byte.ensures.step) (search rules) (search (rules, c.ended-in-Some-eq10.ensures)) ((rw c.in-Some-eq10.is at c.in_ok-next_byte.ensures.met) ∙ c.bytes.invariant.met)

-- ---- one byte further

pub bytes-preserved : goal.bytes-preserved
bytes-preserved g c = record {
  same_source = search rules;
  refused = search rules;
  counts = c.in_ok-next_byte.ensures.cause ∙ c.bytes.invariant.counts;
  met = (rw c.in-Some.is at c.in_ok-next_byte.ensures.met) ∙ c.bytes.invariant.met;
  within = omega (arith, (rw c.in-Some.is at c.in_ok-next_byte.ensures.step).0, c.bytes.invariant.within);
  start = search rules;
  draws = draws_more _ _ _ _ _ _ _ _ _ c.bytes.invariant.draws c.next_byte.ensures.draws;
  sound = λ sound. c.next_byte.ensures.sound (c.bytes.invariant.sound sound);
  unasked = λ feed.
      let before = c.bytes.invariant.unasked feed in
      let some = feed_some _ before.1 in
      let pops = (rw c.in-Some.is at c.in_ok-next_byte.ensures.held) some in (
        c.next_byte.ensures.unasked some ∙ before.0,
        feed_rest c.in-Some.byte c.next_byte.new.self.block c.in-Some.byte-test.1 (subst HasLineFeed pops before.1),
        sym (ap after_line pops ∙ after_line-other c.in-Some.byte c.next_byte.new.self.block c.in-Some.byte-test.1) ∙ before.2,
      );
  over = λ ended. c.next_byte.ensures.over (c.bytes.invariant.met ∙ ended) ∙ c.bytes.invariant.over ended;
  told = told_on _ _ _ _ _ _ _ _ _ c.in-Some.byte c.bytes.invariant.told (rw c.in-Some.is at c.in_ok-next_byte.ensures.step).1 c.in-Some.byte-test.1 (rw c.in-Some.is at c.in_ok-next_byte.ensures.step).0 (search rules);
}
