use Rattle.std.proofs.Common.{◌≡◌, map, take}
use Rattle.zw_scan.proofs.table.numbers_of.Given as goal

abbrev pub invariant-loop-name : goal.invariant-loop-name
invariant-loop-name l = l.numbers.items ≡ map (λ n. n.0) (take l.name-index l.names)
