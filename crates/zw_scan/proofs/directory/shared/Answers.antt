use Rattle.std.proofs.Common.{string_bytes}
use Rattle.zw_scan.proofs.SharedLemmas.{shared_end}
use Rattle.zw_scan.proofs.directory.shared.Goals as goal

pub returns-then-place-other : goal.returns-then-place-other
returns-then-place-other c =
    shared_end (λ s. string_bytes s) c.args.path.now c.args.other.now c.loop-place.place _ c.loop-place.invariant.rest c.if-place-other.true
