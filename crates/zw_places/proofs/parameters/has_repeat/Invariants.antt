use Rattle.std.proofs.Common.{◌≡◌, drop}
use Rattle.zw_places.specs.Twice.{has_twice, numbers_of}
use Rattle.zw_places.proofs.TwiceLemmas.{meets}
use Rattle.zw_places.proofs.parameters.has_repeat.Given as goal

abbrev pub invariant-names : goal.invariant-names
invariant-names l = meets l.met.keys (numbers_of (drop l.name-index l.names)) ≡ has_twice (numbers_of l.names)
