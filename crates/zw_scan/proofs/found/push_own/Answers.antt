use Rattle.std.proofs.Common.{◌++◌, [], map, take, filter_map, ap, sym, subst, ◌∙◌, append_assoc}
use Rattle.std.specs.List.{All, cons_option}
use Rattle.zw_inflect.specs.Layout.{layout_seen, root_seen}
use Rattle.zw_scan.specs.FoundTold.{own_told}
use Rattle.zw_scan.specs.FoundSeen.{IsFoundNamed, found_seen}
use Rattle.zw_scan.specs.ClaimSeen.{IsNamed, claim_seen}
use Rattle.zw_scan.proofs.ClaimLemmas.{filter_map_told, map_some, all_with, item_of}
use Rattle.zw_scan.proofs.found.push_own.Goals as goal

pub loop-claim-preserved : goal.loop-claim-preserved
loop-claim-preserved c =
    let inv = c.loop-claim.invariant in (
      (λ names.
          let own = own_told (layout_seen names c.args.layout.now) (root_seen names c.args.root.now) in
          let old = map (found_seen names) c.args.all.now.items in
          ap (map (found_seen names)) c.in_ok-push_some.ensures
          ∙ map_some (found_seen names) c.loop-claim.all.items c.in_ok-found.found
          ∙ (λ i. inv.0 names i ++ cons_option (c.in_ok-found.ensures.told names i) [])
          ∙ append_assoc old (filter_map own (map (claim_seen names) (take c.loop-claim.claim-index c.args.claims.now))) _
          ∙ ap (λ l. old ++ l) (sym (filter_map_told own (claim_seen names) c.args.claims.now c.loop-claim.claim-index c.claim-item.result c.loop-claim-test.true c.claim-item.is))),
      (λ names all before.
          subst (All (IsFoundNamed names)) (sym c.in_ok-push_some.ensures)
          (all_with (IsFoundNamed names) c.loop-claim.all.items c.in_ok-found.found (inv.1 names all before)
          (c.in_ok-found.ensures.named names (item_of (IsNamed names) c.args.claims.now c.loop-claim.claim-index c.claim-item.result all c.loop-claim-test.true c.claim-item.is)))),
    )
