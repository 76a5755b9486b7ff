use Rattle.std.proofs.Common.{sym, ◌∙◌}
use Rattle.std.proofs.lemmas.List.{take_rest}
use Rattle.zw_path.proofs.MatchingLemmas.{matched_front, matched_whole, matched_unlike}
use Rattle.zw_path.proofs.symbol.can_match.Goals as goal

pub returns-in-Star : goal.returns-in-Star
returns-in-Star g c =
    rw (take_rest, take_rest, take_rest) at c.can_match_rest.ensures ∙ sym (matched_front g.S.Symbol.is_star g.S.Symbol.fits c.args.pattern.now c.args.elements.now c.in-Star.place (sym c.in-Star.ensures.value))

pub returns-in-Whole : goal.returns-in-Whole
returns-in-Whole g c = sym (matched_whole g.S.Symbol.is_star g.S.Symbol.fits c.args.pattern.now c.args.elements.now (sym c.in-Whole.ensures.value))

pub returns-in-Unlike : goal.returns-in-Unlike
returns-in-Unlike g c = sym (matched_unlike g.S.Symbol.is_star g.S.Symbol.fits c.args.pattern.now c.args.elements.now (sym c.in-Unlike.ensures.value))
