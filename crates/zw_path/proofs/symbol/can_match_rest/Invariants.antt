use Rattle.std.proofs.Common.{◌≡◌, ◌+◌, length}
use Rattle.zw_def.specs.Pattern.{some_rest, can_cut}
use Rattle.zw_path.proofs.symbol.can_match_rest.Given as goal

abbrev pub invariant-turns : goal.invariant-turns
invariant-turns g l =
    some_rest (can_cut g.S.Symbol.is_star g.S.Symbol.fits l.fn.pattern) l.fn.elements ≡ some_rest (can_cut g.S.Symbol.is_star g.S.Symbol.fits l.pattern) l.elements

abbrev pub decreases-turns : goal.decreases-turns
decreases-turns g l = length l.pattern + length l.elements
