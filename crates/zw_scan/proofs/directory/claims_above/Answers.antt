use Rattle.std.proofs.Common.{List, ◌<◌, ◌++◌, map, filter_map, length, get_or, subst, ap, sym, ◌∙◌}
use Rattle.zw_def.proofs.NameLemmas.{OnlyGrows-trans}
use Rattle.zw_inflect.specs.Layout.{layout_seen, root_seen}
use Rattle.zw_def.specs.Layout.{Root}
use Rattle.zw_scan.specs.ClaimTold.{ClaimTold, directory_told}
use Rattle.zw_scan.specs.Directories.{directories_below}
use Rattle.zw_scan.proofs.ClaimDirectoryLemmas.{flat_map_more}
use Rattle.zw_scan.proofs.directory.claims_above.Goals as goal

pub loop-root-preserved : goal.loop-root-preserved
loop-root-preserved c =
    let inv = c.loop-root.invariant in
    let grows = c.in_ok-push_claims.ensures.grows in (
      (λ later more.
          let layout = layout_seen later c.args.layout.now in
          let items = c.deref-root-items.ensures.value in
          let files = map (λ f. f.path) c.args.files.now in
          let told : Root → List ClaimTold = λ root. filter_map (directory_told layout) (directories_below layout root files) in
          c.in_ok-push_claims.ensures.told later more
          ∙ (λ i. inv.0 later (OnlyGrows-trans _ _ _ grows more) i ++ filter_map (directory_told layout) ((c.as_slice.ensures.value ∙ c.in_ok-directories.ensures later) i))
          ∙ sym (flat_map_more (root_seen later) told c.args.layout.now.roots.items c.loop-root.root-index c.root-item.result (subst (λ rs. c.loop-root.root-index < length rs) items c.loop-root-test.true) (c.root-item.is ∙ ap (λ rs. get_or rs c.loop-root.root-index c.root-item.result) items))),
      OnlyGrows-trans _ _ _ inv.1 grows,
      c.in_ok-push_claims.ensures.named,
    )
