use Rattle.std.proofs.Common.{None, map, option_map, ap, ◌∙◌}
use Rattle.std.specs.List.{filter}
use Rattle.std.proofs.lemmas.Result.{IfOk-weaker}
use Rattle.zw_def.specs.Visible.{is_visible}
use Rattle.zw_def.proofs.NameLemmas.{OnlyGrows-trans}
use Rattle.zw_def.specs.Names.{texts_of}
use Rattle.zw_inflect.specs.Layout.{layout_seen, root_seen}
use Rattle.zw_scan.specs.ClaimTold.{files_told}
use Rattle.zw_scan.specs.ClaimSeen.{claim_seen}
use Rattle.zw_scan.specs.IsScan.{AreFirst}
use Rattle.zw_scan.specs.Wrong.{Ranked, first_below, misnamed_all}
use Rattle.zw_scan.proofs.WrongLemmas.{first_is}
use Rattle.zw_scan.proofs.scan.Scan.mount.Goals as goal

pub returns-clause-scan : goal.returns-clause-scan
returns-clause-scan c =
    IfOk-weaker c.of-2.result _ _ (λ scan is later more.
    let layout = layout_seen later c.args.layout.now in
    let tree = c.args.tree.now in
    let grown = OnlyGrows-trans _ _ _ c.in_ok-wrong.ensures.grows more in
    let grows = OnlyGrows-trans _ _ _ c.in_ok-above.ensures.grows grown in
    let keys = c.as_slice.ensures.value ∙ c.in_ok-paths.ensures in
    let told = c.in_ok-claims.ensures.told later grows ∙ ap (files_told layout) keys in
    let paths = ap (map (λ f. f.path)) c.as_slice-2.ensures.value ∙ c.in_ok-claims.ensures.paths later grows ∙ ap (filter (is_visible layout)) keys in
    let above = c.in_ok-above.ensures.told later grown tree c.is_tree.ensures paths in
    let roots = map (root_seen later) c.args.layout.now.roots.items in
    let first : AreFirst later layout tree c.in_ok-wrong.wrong = λ distinct q named.
    ap (option_map (λ (f : Ranked). f.path)) (c.in_ok-wrong.ensures.told later more distinct q named
    ∙ (λ i. first_below (texts_of later q) 0 None (map (misnamed_all layout ((ap (map (claim_seen later)) c.deref.ensures.value ∙ told) i) ((ap (map (claim_seen later)) c.deref-2.ensures.value ∙ above) i)) roots)))
    ∙ first_is layout tree (texts_of later q) in
    is later tree more told (ap (map (claim_seen later)) c.deref-3.ensures.value ∙ above) first)
    c.of-2.ensures.told
