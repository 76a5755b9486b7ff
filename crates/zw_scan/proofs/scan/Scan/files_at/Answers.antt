use Rattle.std.proofs.Common.{◌∙◌}
use Rattle.std.proofs.lemmas.Result.{IfOk-weaker}
use Rattle.zw_def.specs.Map.{expecting_files}
use Rattle.zw_scan.proofs.ScanLemmas.{found_among}
use Rattle.zw_scan.proofs.scan.Scan.files_at.Goals as goal

pub returns : goal.returns
returns c =
    IfOk-weaker c.at.result _ _ (λ paths is names layout tree scan distinct named.
    is ∙ scan.by_file c.args.path.now ∙ found_among names distinct c.args.path.now named c.args.self.now.files.items (expecting_files layout tree) scan.named.files scan.files_found)
    c.at.ensures
