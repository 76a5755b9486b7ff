use Rattle.std.proofs.Common.{◌≢◌, [], length, rules, arith, sym, ap, ◌∙◌}
use Rattle.zw_cmd.proofs.ScriptLemmas.{after_less, long_first, long_next}
use Rattle.zw_cmd.proofs.script.has_long_line.Goals as goal

pub returns-then-line-gt-MOST_LINE : goal.returns-then-line-gt-MOST_LINE
returns-then-line-gt-MOST_LINE c =
    let some : c.lines.left.now ≢ [] = search rules in
    sym (sym c.lines.invariant ∙ long_first c.lines.left.now c.first_line.result.0.now c.first_line.result.1.now some c.first_line.ensures.line c.if-line-gt-MOST_LINE.true)

pub lines-smaller : goal.lines-smaller
lines-smaller c =
    let some : c.lines.left.now ≢ [] = search rules in
    omega (arith, ap length c.first_line.ensures.after, after_less c.lines.left.now some)

pub lines-preserved : goal.lines-preserved
lines-preserved c =
    let some : c.lines.left.now ≢ [] = search rules in
    long_next c.lines.left.now c.first_line.result.0.now c.first_line.result.1.now some c.first_line.ensures.line c.first_line.ensures.after c.if-line-gt-MOST_LINE.false ∙ c.lines.invariant
