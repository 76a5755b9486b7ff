use Rattle.std.proofs.Common.{◌++◌, [], map, take, filter_map, ap, sym, subst, ◌∙◌, append_assoc}
use Rattle.std.specs.List.{All, cons_option}
use Rattle.zw_def.proofs.NameLemmas.{OnlyGrows-trans}
use Rattle.zw_inflect.specs.Layout.{layout_seen, root_seen}
use Rattle.zw_scan.specs.Wrong as told
use Rattle.zw_scan.specs.FoundSeen.{IsFoundNamed, found_seen}
use Rattle.zw_scan.specs.ClaimSeen.{claim_seen}
use Rattle.zw_scan.proofs.ClaimLemmas.{filter_map_told, map_some, all_with}
use Rattle.zw_scan.proofs.ScanLemmas.{found_later}
use Rattle.zw_scan.proofs.wrong.push_misnamed.Goals as goal

pub loop-claim-preserved : goal.loop-claim-preserved
loop-claim-preserved c =
    let inv = c.loop-claim.invariant in
    let grows = c.in_ok-found.ensures.grows in
    let names = c.misnamed.new.names in (
      (λ later more.
          let own = told.misnamed (layout_seen later c.args.layout.now) (root_seen later c.args.root.now) in
          let old = map (found_seen later) c.args.all.now.items in
          ap (map (found_seen later)) c.in_ok-push_some.ensures
          ∙ map_some (found_seen later) c.loop-claim.all.items c.in_ok-found.found
          ∙ (λ i. inv.0 later (OnlyGrows-trans _ _ _ grows more) i ++ cons_option (c.in_ok-found.ensures.told later more i) [])
          ∙ append_assoc old (filter_map own (map (claim_seen later) (take c.loop-claim.claim-index c.args.claims.now))) _
          ∙ ap (λ l. old ++ l) (sym (filter_map_told own (claim_seen later) c.args.claims.now c.loop-claim.claim-index c.claim-item.result c.loop-claim-test.true c.claim-item.is))),
      OnlyGrows-trans _ _ _ inv.1 grows,
      subst (All (IsFoundNamed names)) (sym c.in_ok-push_some.ensures)
          (all_with (IsFoundNamed names) c.loop-claim.all.items c.in_ok-found.found (found_later c.loop-claim.names names grows c.loop-claim.all.items inv.2) c.in_ok-found.ensures.named),
    )
