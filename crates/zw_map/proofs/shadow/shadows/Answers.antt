use Rattle.std.proofs.Common.{◌++◌, [], map, filter_map, ap, sym, subst, ◌∙◌}
use Rattle.std.specs.List.{All, cons_option}
use Rattle.std.proofs.lemmas.List.{take_all}
use Rattle.zw_def.specs.Visible.{keys_of}
use Rattle.zw_def.specs.Map.{expecting_files}
use Rattle.zw_def.specs.Shadow.{shadowed_as}
use Rattle.zw_scan.specs.ClaimSeen.{IsNamed, claim_seen}
use Rattle.zw_map.specs.BootSeen.{boot_seen}
use Rattle.zw_map.specs.ShadowSeen.{IsShadowNamed, shadow_seen, shadow_told}
use Rattle.zw_map.proofs.ClaimLemmas.{by_claims, filter_map_told, map_some, all_with, item_of}
use Rattle.zw_map.proofs.shadow.shadows.Goals as goal

pub loop-claim-preserved : goal.loop-claim-preserved
loop-claim-preserved c =
    let names = c.args.names.now in
    let claims = c.claims-claim-items.result.now in
    let named = item_of (IsNamed names) claims c.loop-claim.claim-index c.claim-item.result (c.claims-claim-items.ensures.named names c.requires.scan) c.loop-claim-test.true c.claim-item.is in (
      (λ layout tree scan.
          let told = shadow_told (boot_seen names c.args.boot.now) (expecting_files layout tree) in
          ap (map (shadow_seen names)) c.in_ok-push_some.ensures
          ∙ map_some (shadow_seen names) c.loop-claim.rows.items c.in_ok-row.row
          ∙ (λ i. c.loop-claim.invariant.0 layout tree scan i ++ cons_option (c.in_ok-row.ensures.told names layout tree scan c.are_distinct.ensures c.requires.boot named i) [])
          ∙ sym (filter_map_told told (claim_seen names) claims c.loop-claim.claim-index c.claim-item.result c.loop-claim-test.true c.claim-item.is)),
      subst (All (IsShadowNamed names)) (sym c.in_ok-push_some.ensures) (all_with (IsShadowNamed names) c.loop-claim.rows.items c.in_ok-row.row c.loop-claim.invariant.1 (c.in_ok-row.ensures.named names named)),
    )

pub returns-clause-told : goal.returns-clause-told
returns-clause-told c layout tree scan =
    let names = c.args.names.now in
    let told = shadow_told (boot_seen names c.args.boot.now) (expecting_files layout tree) in
    c.loop-claim.invariant.0 layout tree scan
    ∙ ap (λ cs. filter_map told (map (claim_seen names) cs)) (take_all c.loop-claim.claim-index c.claims-claim-items.result.now c.loop-claim-test.false)
    ∙ ap (filter_map told) (c.claims-claim-items.ensures.told names layout tree scan)
    ∙ by_claims layout (shadowed_as (boot_seen names c.args.boot.now) (expecting_files layout tree)) (keys_of tree)
