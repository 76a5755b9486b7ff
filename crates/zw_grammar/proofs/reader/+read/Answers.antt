use Rattle.std.proofs.Common.{rules, ◌≡◌, ◌<◌}
use Rattle.zw_grammar.proofs.DepthLemmas.{at_zero, at_depth}
use Rattle.zw_grammar.proofs.reader.+read.Goals as goal

pub returns-then-depth-eq0-clause-reads : goal.returns-then-depth-eq0-clause-reads
returns-then-depth-eq0-clause-reads t c =
    let over : c.args.depth ≡ 0 = search rules in
    at_zero _ _ _ _ _ _ over

pub returns-clause-reads : goal.returns-clause-reads
returns-clause-reads t c =
    let some : 0 < c.args.depth = search rules in
    at_depth _ _ _ _ _ _ some c.read_by_rule.ensures.reads
