use Rattle.std.proofs.Common.{◌≡◌, ◌∷◌, [], ◌+◌, List, IfSome, drop, map, rules, ap, sym, subst, ◌∙◌, arith}
use Rattle.zw_lemmas.proofs.ListLemmas.{drop-at}
use Rattle.zw_def.specs.Text.{Text}
use Rattle.zw_def.specs.Folder.{Listing}
use Rattle.zw_tree.specs.Stage.{Stage}
use Rattle.zw_def_thin.specs.Mount.{mounted}
use Rattle.zw_top.proofs.MountLemmas.{mounts_on, mounts_refused}
use Rattle.zw_top.proofs.mount.mount.Goals as goal

pub paths-preserved : goal.paths-preserved
paths-preserved g c =
    let told = g.F.Folder.listing c.args.folder.now in
    let fixed = c.args.fixed.now in
    let old = c.paths.mounting.staged in
    let i = c.paths.bytes-index in
    let all = map (λ v. v.items) c.args.listing.now in
    let rest = map (λ v. v.items) (drop (i + 1) c.args.listing.now) in
    record {
      counts = search rules;
      same = search rules;
      fixed = search rules;
      told =
          mounts_on told (g.F.Folder.listing c.paths.folder) fixed old c.take_listed.new.tree.staged c.deref.result.now rest all c.paths.invariant.same (c.in-Ok.ensures.told fixed c.paths.invariant.fixed)
          (subst (λ (ts : List Text). IfSome told (λ (m : Listing). mounted fixed m.files old ts ≡ mounted fixed m.files [] all))
          (ap (map (λ v. v.items)) (drop-at c.args.listing.now i (i + 1) c.bytes-item.result c.paths-test.true (omega arith)) ∙ ap (λ (b : Text). b ∷ rest) (ap (λ v. v.items) (sym c.bytes-item.is) ∙ sym c.deref.ensures.value)) c.paths.invariant.told);
    }

pub returns-in-Err-clause-told : goal.returns-in-Err-clause-told
returns-in-Err-clause-told g c =
    let told = g.F.Folder.listing c.args.folder.now in
    let fixed = c.args.fixed.now in
    let old = c.paths.mounting.staged in
    let i = c.paths.bytes-index in
    let all = map (λ v. v.items) c.args.listing.now in
    let rest = map (λ v. v.items) (drop (i + 1) c.args.listing.now) in
    mounts_refused (λ (t : Stage). t.staged) told (g.F.Folder.listing c.paths.folder) fixed old c.take_listed.new.tree.staged c.deref.result.now rest all c.in-Err.fault c.paths.invariant.same (c.in-Err.ensures.told fixed c.paths.invariant.fixed)
    (subst (λ (ts : List Text). IfSome told (λ (m : Listing). mounted fixed m.files old ts ≡ mounted fixed m.files [] all))
    (ap (map (λ v. v.items)) (drop-at c.args.listing.now i (i + 1) c.bytes-item.result c.paths-test.true (omega arith)) ∙ ap (λ (b : Text). b ∷ rest) (ap (λ v. v.items) (sym c.bytes-item.is) ∙ sym c.deref.ensures.value)) c.paths.invariant.told)
