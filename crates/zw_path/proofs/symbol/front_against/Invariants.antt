use Rattle.std.proofs.Common.{◌≡◌, ◌≤◌, length, drop}
use Rattle.zw_path.specs.Front.{front_of, past}
use Rattle.zw_path.proofs.symbol.front_against.Given as goal

abbrev pub invariant-loop-place : goal.invariant-loop-place
invariant-loop-place g l =
    (l.place ≤ length l.elements)
    × (front_of g.S.Symbol.is_star g.S.Symbol.fits l.pattern l.elements ≡ past l.place (front_of g.S.Symbol.is_star g.S.Symbol.fits (drop l.place l.pattern) (drop l.place l.elements)))
