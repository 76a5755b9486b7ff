use Rattle.std.proofs.Common.{◌≡◌, drop}
use Rattle.zw_frames.specs.Locals.{first_at}
use Rattle.zw_frames.proofs.LocalLemmas.{from_place}
use Rattle.zw_frames.proofs.locals.Locals.place.Given as goal

abbrev pub invariant-loop-at : goal.invariant-loop-at
invariant-loop-at l = from_place l.at (first_at l.name.0 (drop l.at l.self)) ≡ first_at l.name.0 l.self
