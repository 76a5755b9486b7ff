use Rattle.std.proofs.Common.{◌∙◌}
use Rattle.zw_def.proofs.NameLemmas.{OnlyGrows-same}
use Rattle.zw_scan.specs.ClaimSeen.{claim_seen}
use Rattle.zw_view.proofs.ViewLemmas.{claims_none}
use Rattle.zw_view.proofs.view.View.is_empty.Goals as goal

pub returns : goal.returns
returns c layout tree is =
    let names = c.args.self.now.names in
    c.is_empty.ensures ∙ claims_none (claim_seen names) layout tree c.claims.result.now (c.claims.ensures.told names layout tree (is.scan names (OnlyGrows-same names)))
