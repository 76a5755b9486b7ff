use Rattle.std.proofs.Common.{◌++◌, map, filter_map, ap, ◌∙◌}
use Rattle.zw_def.proofs.NameLemmas.{OnlyGrows-trans}
use Rattle.zw_inflect.specs.Layout.{layout_seen, root_seen}
use Rattle.zw_scan.specs.Wrong as told
use Rattle.zw_scan.specs.FoundSeen.{found_seen}
use Rattle.zw_scan.specs.ClaimSeen.{claim_seen}
use Rattle.zw_scan.proofs.wrong.misnamed_all.Goals as goal

pub returns-clause-told : goal.returns-clause-told
returns-clause-told c later more =
    let own = told.misnamed (layout_seen later c.args.layout.now) (root_seen later c.args.root.now) in
    let files = filter_map own (map (claim_seen later) c.args.files.now) in
    let directories = filter_map own (map (claim_seen later) c.args.directories.now) in
    let grows = c.in_ok-push_misnamed-2.ensures.grows in
    c.in_ok-push_misnamed-2.ensures.told later more
    ∙ ap (λ l. l ++ directories) (c.in_ok-push_misnamed.ensures.told later (OnlyGrows-trans _ _ _ grows more))
    ∙ ap (λ l. (map (found_seen later) l ++ files) ++ directories) c.new-all.ensures.items
