use Rattle.std.proofs.Common.{◌≡◌, take}
use Rattle.zw_expr.specs.Known.{numbers_of}
use Rattle.zw_parser.proofs.program.known_of.Given as goal

abbrev pub invariant-loop-name : goal.invariant-loop-name
invariant-loop-name l = l.known ≡ numbers_of (take l.name-index l.given)
