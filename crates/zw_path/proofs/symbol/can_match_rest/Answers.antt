use Rattle.std.proofs.Common.{sym, ◌∙◌}
use Rattle.std.proofs.lemmas.List.{take_rest}
use Rattle.zw_path.proofs.MatchingLemmas.{rest_front, rest_whole, rest_unlike, rest_none}
use Rattle.zw_path.proofs.symbol.can_match_rest.Goals as goal

pub turns-preserved-in-Star : goal.turns-preserved-in-Star
turns-preserved-in-Star g c =
    rw (take_rest, take_rest, take_rest) (c.turns.invariant ∙ rest_front g.S.Symbol.is_star g.S.Symbol.fits c.turns.pattern.now c.turns.elements.now c.in-Star.place (sym c.in-Star.ensures.value))

pub returns-in-Whole : goal.returns-in-Whole
returns-in-Whole g c =
    sym (c.turns.invariant ∙ rest_whole g.S.Symbol.is_star g.S.Symbol.fits c.turns.pattern.now c.turns.elements.now (sym c.in-Whole.ensures.value))

pub returns-then-is_empty : goal.returns-then-is_empty
returns-then-is_empty g c =
    sym (c.turns.invariant ∙ rest_none g.S.Symbol.is_star g.S.Symbol.fits c.turns.pattern.now c.turns.elements.now (sym c.in-Unlike.ensures.value) c.if-is_empty.ensures)

pub turns-preserved : goal.turns-preserved
turns-preserved g c =
    rw take_rest (c.turns.invariant ∙ rest_unlike g.S.Symbol.is_star g.S.Symbol.fits c.turns.pattern.now c.turns.elements.now (sym c.in-Unlike.ensures.value) c.if-is_empty.ensures)
