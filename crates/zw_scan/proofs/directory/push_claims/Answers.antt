use Rattle.std.proofs.Common.{◌++◌, [], map, take, filter_map, ap, sym, subst, ◌∙◌, append_assoc}
use Rattle.std.specs.List.{All, cons_option}
use Rattle.zw_def.proofs.NameLemmas.{OnlyGrows-trans}
use Rattle.zw_inflect.specs.Layout.{layout_seen}
use Rattle.zw_scan.specs.ClaimTold.{directory_told}
use Rattle.zw_scan.specs.ClaimSeen.{IsNamed, claim_seen}
use Rattle.zw_scan.proofs.ClaimLemmas.{filter_map_more, map_some, all_some}
use Rattle.zw_scan.proofs.directory.push_claims.Goals as goal

pub loop-directory-preserved : goal.loop-directory-preserved
loop-directory-preserved c =
    let inv = c.loop-directory.invariant in
    let grows = c.in_ok-claim.ensures.grows in
    let named = all_some c.loop-directory.names c.directory_claim.new.names grows c.loop-directory.claims.items c.in_ok-claim.claim inv.2 c.in_ok-claim.ensures.named in (
      (λ later more.
          let layout = layout_seen later c.args.layout.now in
          let old = map (claim_seen later) c.args.claims.now.items in
          ap (map (claim_seen later)) c.in_ok-push_some.ensures
          ∙ map_some (claim_seen later) c.loop-directory.claims.items c.in_ok-claim.claim
          ∙ (λ i. inv.0 later (OnlyGrows-trans _ _ _ grows more) i ++ cons_option (c.in_ok-claim.ensures.told later more i) [])
          ∙ append_assoc old (filter_map (directory_told layout) (take c.loop-directory.directory-index c.args.directories.now)) _
          ∙ ap (λ l. old ++ l) (sym (filter_map_more (directory_told layout) c.args.directories.now c.loop-directory.directory-index c.directory-item.result c.loop-directory-test.true c.directory-item.is))),
      OnlyGrows-trans _ _ _ inv.1 grows,
      subst (All (IsNamed c.directory_claim.new.names)) (sym c.in_ok-push_some.ensures) named,
    )
