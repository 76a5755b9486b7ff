use Rattle.std.proofs.Common.{◌++◌, [], map, ap, sym, refl, subst, ◌∙◌}
use Rattle.std.specs.List.{All, cons_option}
use Rattle.std.proofs.lemmas.List.{take_all}
use Rattle.zw_def.proofs.NameLemmas.{OnlyGrows-trans}
use Rattle.zw_inflect.specs.Layout.{layout_seen}
use Rattle.zw_scan.specs.ClaimTold.{file_told, files_told}
use Rattle.zw_scan.specs.ClaimSeen.{IsNamed, claim_seen}
use Rattle.zw_scan.proofs.ClaimLemmas.{seen_paths, filter_map_more, map_some, all_some}
use Rattle.zw_scan.proofs.seen_file.seen_files.Goals as goal

pub loop-path-preserved : goal.loop-path-preserved
loop-path-preserved c =
    let inv = c.loop-path.invariant in
    let grows = c.in_ok-file.ensures.grows in
    let named = all_some c.loop-path.names c.seen_file.new.names grows c.loop-path.files.items c.in_ok-file.file inv.2 c.in_ok-file.ensures.named in (
      (λ later more.
          let layout = layout_seen later c.args.layout.now in
          ap (map (claim_seen later)) c.in_ok-push_some.ensures
          ∙ map_some (claim_seen later) c.loop-path.files.items c.in_ok-file.file
          ∙ (λ i. inv.0 later (OnlyGrows-trans _ _ _ grows more) i ++ cons_option (c.in_ok-file.ensures.told later more i) [])
          ∙ sym (filter_map_more (file_told layout) c.args.paths.now c.loop-path.path-index c.path-item.result c.loop-path-test.true c.path-item.is)),
      OnlyGrows-trans _ _ _ inv.1 grows,
      subst (All (IsNamed c.seen_file.new.names)) (sym c.in_ok-push_some.ensures) named,
    )

pub returns-clause-paths : goal.returns-clause-paths
returns-clause-paths c later grows =
    let layout = layout_seen later c.args.layout.now in
    let all = take_all c.loop-path.path-index c.args.paths.now c.loop-path-test.false in
    seen_paths (λ f. f.path) (claim_seen later) c.loop-path.files.items layout c.args.paths.now (λ f. refl) (c.loop-path.invariant.0 later grows ∙ ap (files_told layout) all)
