use Rattle.std.proofs.Common.{true, cond, ap, sym, ◌∙◌}
use Rattle.zw_def.specs.Path.{same_path}
use Rattle.zw_def.proofs.PathOrderLemmas.{same_tied}
use Rattle.zw_scan.proofs.ScanLemmas.{any_more}
use Rattle.zw_scan.proofs.scan.paths_of.Goals as goal

pub loop-claim-preserved : goal.loop-claim-preserved
loop-claim-preserved c p =
    c.in_ok-insert.ensures.updates.0 p
    ∙ (λ i. cond ((sym (same_tied c.in_ok-copy.field-0 p) ∙ ap (λ q. same_path q p) c.in_ok-copy.ensures) i) true (c.loop-claim.invariant p i))
    ∙ sym (any_more (λ c. c.path) c.args.claims.now c.loop-claim.claim-index c.claim-item.result p c.loop-claim-test.true c.claim-item.is)
