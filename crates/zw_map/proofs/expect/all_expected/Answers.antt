use Rattle.std.proofs.Common.{filter_map, ap, ◌∙◌}
use Rattle.std.proofs.lemmas.Result.{IfOk-weaker}
use Rattle.zw_def.specs.Visible.{keys_of}
use Rattle.zw_def.specs.Map.{expecting_at}
use Rattle.zw_scan.specs.FoundTold.{found_told}
use Rattle.zw_map.proofs.ClaimLemmas.{by_claims}
use Rattle.zw_map.proofs.expect.all_expected.Goals as goal

pub returns-clause-told : goal.returns-clause-told
returns-clause-told c =
    IfOk-weaker c.in_order.result _ _ (λ all is names layout tree scan.
    is names ∙ ap (filter_map found_told) (c.claims.ensures.told names layout tree scan) ∙ by_claims layout expecting_at (keys_of tree))
    c.in_order.ensures.told
