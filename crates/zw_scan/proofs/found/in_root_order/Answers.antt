use Rattle.std.proofs.Common.{List, ◌<◌, ◌++◌, map, filter_map, length, get_or, subst, ap, sym, ◌∙◌}
use Rattle.zw_inflect.specs.Layout.{layout_seen, root_seen}
use Rattle.zw_def.specs.Layout.{Root}
use Rattle.zw_def.specs.Map.{Expecting}
use Rattle.zw_scan.specs.FoundTold.{own_told}
use Rattle.zw_scan.specs.ClaimSeen.{claim_seen}
use Rattle.zw_scan.proofs.ClaimDirectoryLemmas.{flat_map_more}
use Rattle.zw_scan.proofs.found.in_root_order.Goals as goal

pub loop-root-preserved : goal.loop-root-preserved
loop-root-preserved c =
    let inv = c.loop-root.invariant in (
      (λ names.
          let items = c.deref-root-items.ensures.value in
          let claims = map (claim_seen names) c.args.claims.now in
          let told : Root → List Expecting = λ root. filter_map (own_told (layout_seen names c.args.layout.now) root) claims in
          c.in_ok-push_own.ensures.told names
          ∙ ap (λ l. l ++ told (root_seen names c.root-item.result)) (inv.0 names)
          ∙ sym (flat_map_more (root_seen names) told c.args.layout.now.roots.items c.loop-root.root-index c.root-item.result (subst (λ rs. c.loop-root.root-index < length rs) items c.loop-root-test.true) (c.root-item.is ∙ ap (λ rs. get_or rs c.loop-root.root-index c.root-item.result) items))),
      (λ names all. c.in_ok-push_own.ensures.named names all (inv.1 names all)),
    )
