use Rattle.std.proofs.Common.{◌∙◌}
use Rattle.std.proofs.lemmas.Result.{IfOk-weaker}
use Rattle.zw_def.specs.Map.{expecting_directories}
use Rattle.zw_scan.proofs.ScanLemmas.{found_among}
use Rattle.zw_scan.proofs.scan.Scan.directories_at.Goals as goal

pub returns : goal.returns
returns c =
    IfOk-weaker c.at.result _ _ (λ paths is names layout tree scan distinct named.
    is ∙ scan.by_directory c.args.path.now ∙ found_among names distinct c.args.path.now named c.args.self.now.directories.items (expecting_directories layout tree) scan.named.directories scan.directories_found)
    c.at.ensures
