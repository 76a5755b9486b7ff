use Rattle.std.proofs.Common.{sym, ap, ◌∙◌, arith}
use Rattle.zw_path.specs.Front.{past}
use Rattle.zw_path.proofs.MatchingLemmas.{front_short}
use Rattle.zw_path.proofs.symbol.front_against.Goals as goal

pub returns-else-pattern-elements-clause-value : goal.returns-else-pattern-elements-clause-value
returns-else-pattern-elements-clause-value g c =
    sym (c.loop-place.invariant.1 ∙ ap (past c.loop-place.place) (front_short g.S.Symbol.is_star g.S.Symbol.fits c.args.pattern.now c.args.elements.now c.loop-place.place c.loop-place-test.false (omega arith)))
