use Rattle.std.proofs.Common.{map, ap, sym, ◌∙◌, arith}
use Rattle.std.specs.List.{fold}
use Rattle.zw_def.specs.Names.{texts_of}
use Rattle.zw_def.proofs.NameLemmas.{OnlyGrows-trans}
use Rattle.zw_inflect.specs.Layout.{layout_seen, root_seen}
use Rattle.zw_scan.specs.ClaimSeen.{claim_seen}
use Rattle.zw_scan.specs.Table.{paths_found}
use Rattle.zw_scan.specs.Wrong.{better, misnamed_all}
use Rattle.zw_scan.proofs.ScanLemmas.{found_among, found_later}
use Rattle.zw_scan.proofs.WrongLemmas.{rows_more}
use Rattle.zw_scan.proofs.wrong.WrongTable.of.Goals as goal

pub loop-place-preserved : goal.loop-place-preserved
loop-place-preserved c =
    let inv = c.loop-place.invariant in
    let grows = c.in_ok-all.ensures.grows in
    let root = c.index-root.result.now in
    let names = c.misnamed_all.new.names in (
      (λ later more distinct q named.
          let layout = layout_seen later c.args.layout.now in
          let row = misnamed_all layout (map (claim_seen later) c.args.files.now) (map (claim_seen later) c.args.directories.now) in
          let p = texts_of later q in
          let all = c.in_ok-all.all.items in
          c.in_ok-add_all.ensures q
          ∙ (λ i. fold (better c.loop-place.place) (inv.0 later (OnlyGrows-trans _ _ _ grows more) distinct q named i) ((ap (paths_found q) c.deref.ensures.value ∙ found_among later distinct q named all (row (root_seen later root)) (found_later names later more all c.in_ok-all.ensures.named) (c.in_ok-all.ensures.told later more)) i))
          ∙ sym (rows_more p row (root_seen later) c.args.layout.now.roots.items c.loop-place.place root (omega (arith, c.loop-place-test.true, c.len-place-end.ensures)) c.index-root.ensures)),
      OnlyGrows-trans _ _ _ inv.1 grows,
    )
