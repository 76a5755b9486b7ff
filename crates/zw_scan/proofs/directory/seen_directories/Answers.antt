use Rattle.std.proofs.Common.{map, ◌∙◌}
use Rattle.std.proofs.lemmas.Result.{IfOk-weaker}
use Rattle.zw_inflect.specs.Layout.{layout_seen}
use Rattle.zw_scan.proofs.ClaimDirectoryLemmas.{directories_told-is}
use Rattle.zw_scan.proofs.directory.seen_directories.Goals as goal

pub returns-clause-told : goal.returns-clause-told
returns-clause-told c =
    IfOk-weaker c.claims_above.result _ _ (λ claims is later grows tree tidy same.
    is later grows ∙ directories_told-is (layout_seen later c.args.layout.now) tree tidy (map (λ f. f.path) c.args.files.now) same)
    c.claims_above.ensures.told
