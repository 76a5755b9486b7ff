use Rattle.std.proofs.Common.{rules, arith, ◌∙◌, refl}
use Rattle.zw_def.proofs.ToldLemmas.{draws_more, draws_none}
use Rattle.zw_io.proofs.NextLinesLemmas.{begins, goes_on, answers_err, answers_fewer, held_on, some_held}
use Rattle.zw_io.proofs.lines.Lines.append_lines.Goals as goal

pub lines-init : goal.lines-init
lines-init g c = record {
  same_source = refl;
  refused = refl;
  counts = refl;
  within = omega arith;
  room = omega arith;
  told = begins _ _ _ _ _ _ _ _ _ refl refl refl refl;
  draws = draws_none _ _ _;
  sound = λ sound. sound;
  unasked = λ whole. (refl, omega (arith, whole));
  over = λ ended. (refl, ended);
}

-- ---- a line that could not be taken

pub returns-in_err-append_line-clause-answer : goal.returns-in_err-append_line-clause-answer
returns-in_err-append_line-clause-answer g c =
    answers_err c.from_residual.result c.in_err-append_line.field-0.0 _ _ _ _ _ _ _ _ _ _ _ _ _ _ (search rules) c.lines.invariant.told c.lines-test.true c.in_err-append_line.ensures.answer c.in_err-append_line.ensures.met

pub returns-in_err-append_line-clause-draws : goal.returns-in_err-append_line-clause-draws
returns-in_err-append_line-clause-draws g c =
    draws_more _ _ _ _ _ _ _ _ _ c.lines.invariant.draws c.append_line.ensures.draws

pub returns-in_err-append_line-clause-unasked : goal.returns-in_err-append_line-clause-unasked
returns-in_err-append_line-clause-unasked g c = λ whole.
    let before = c.lines.invariant.unasked whole in
    c.append_line.ensures.unasked (some_held _ _ c.lines.self.block c.lines-test.true before.1) ∙ before.0

-- ---- the end of input

pub returns-then-not-branch-clause-answer : goal.returns-then-not-branch-clause-answer
returns-then-not-branch-clause-answer g c =
    answers_fewer _ _ _ _ _ _ _ _ _ _ _ _ _ c.lines.invariant.told (rw c.if-not-branch.true at c.in_ok-append_line.ensures.answer)

pub returns-then-not-branch-clause-unasked : goal.returns-then-not-branch-clause-unasked
returns-then-not-branch-clause-unasked g c = λ whole.
    let before = c.lines.invariant.unasked whole in
    c.append_line.ensures.unasked (some_held _ _ c.lines.self.block c.lines-test.true before.1) ∙ before.0

-- ---- one line further

pub lines-preserved : goal.lines-preserved
lines-preserved g c =
    let answer = rw c.if-not-branch.false at c.in_ok-append_line.ensures.answer in
    let met = rw c.if-not-branch.false at c.in_ok-append_line.ensures.met in
    let room = rw c.if-not-branch.false at c.in_ok-append_line.ensures.room in
    record {
      same_source = search rules;
      refused = search rules;
      counts = c.in_ok-append_line.ensures.cause ∙ c.lines.invariant.counts;
      within = omega (arith, c.lines-test.true);
      room = omega (arith, room, c.lines.invariant.room);
      told = goes_on _ _ _ _ _ _ _ _ _ _ _ _ _ _ c.lines.invariant.told c.lines-test.true answer met;
      draws = draws_more _ _ _ _ _ _ _ _ _ c.lines.invariant.draws c.append_line.ensures.draws;
      sound = λ sound. c.append_line.ensures.sound (c.lines.invariant.sound sound);
      unasked = λ whole.
          let before = c.lines.invariant.unasked whole in
          let feed = some_held _ _ c.lines.self.block c.lines-test.true before.1 in
          (c.append_line.ensures.unasked feed ∙ before.0, held_on _ _ c.lines.self.block _ c.lines-test.true before.1 (c.in_ok-append_line.ensures.held feed));
      over = λ ended.
          let before = c.lines.invariant.over ended in
          (c.append_line.ensures.over before.1 ∙ before.0, c.in_ok-append_line.ensures.stays before.1);
    }
