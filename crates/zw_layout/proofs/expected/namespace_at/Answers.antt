use Rattle.std.proofs.Common.{◌≡◌, ◌+◌, [], Ok, refl, sym, subst, ◌∙◌, take, arith}
use Rattle.zw_def.specs.Names.{texts_of}
use Rattle.zw_def.specs.Expected.{named_directory, namespace_of}
use Rattle.zw_def.proofs.NameLemmas.{OnlyGrows-trans}
use Rattle.zw_inflect.specs.Layout.{layout_seen, root_seen}
use Rattle.zw_layout.specs.Progress.{progress_of}
use Rattle.zw_layout.specs.Expects.{Expects, Tells}
use Rattle.zw_layout.proofs.ExpectedLemmas.{namespace_whole, namespace_next, namespace_end, tells_all, err_is}
use Rattle.zw_layout.proofs.expected.namespace_at.Goals as goal

pub loop-depth-preserved : goal.loop-depth-preserved
loop-depth-preserved c =
    let path = c.args.path.now in
    let n = c.loop-depth.depth in
    let layout = layout_seen [] c.args.layout.now in
    let old = texts_of c.loop-depth.names c.loop-depth.namespace in
    let new = texts_of c.push_directory.new.names c.push_directory.new.namespace in
    let told : named_directory layout (take (n + 1) path) old ≡ Ok new = c.in_ok-push_directory.ensures.told in
    let next = namespace_next layout path c.args.end n old (Ok new) c.loop-depth-test.true c.requires.within told in
    let inv = c.loop-depth.invariant in
    let on = c.in_ok-progress-2.ensures ∙ (λ i. progress_of (c.deref-in-loop-depth.ensures.value i) (take (n + 1) (c.components-in-loop-depth.ensures.value i))) in
    (on, c.in_ok-push_directory.ensures.named, OnlyGrows-trans _ _ _ inv.2 c.in_ok-push_directory.ensures.grows, sym next ∙ inv.3, omega (arith, inv.4))

pub returns-in_err-push_directory-clause-told : goal.returns-in_err-push_directory-clause-told
returns-in_err-push_directory-clause-told c =
    let path = c.args.path.now in
    let n = c.loop-depth.depth in
    let layout = layout_seen [] c.args.layout.now in
    let old = texts_of c.loop-depth.names c.loop-depth.namespace in
    let inv = c.loop-depth.invariant in
    let fault = c.in_err-push_directory.field-0.0 in
    let here = named_directory layout (take (n + 1) path) old in
    let told : Tells fault here = c.in_err-push_directory.ensures.told in
    let grows = OnlyGrows-trans _ _ _ inv.2 c.in_err-push_directory.ensures.grows in
    let whole = namespace_whole c.args.names.now c.push_directory.new.names c.args.layout.now c.args.root.now (take c.args.end path) grows c.requires.named in
    let next = namespace_next layout path c.args.end n old here c.loop-depth-test.true c.requires.within refl in
    let is = err_is c.from_residual-in_err-push_directory.result fault c.from_residual-in_err-push_directory.ensures.1 in
    let all = namespace_of (layout_seen c.push_directory.new.names c.args.layout.now) (root_seen c.push_directory.new.names c.args.root.now) (take c.args.end path) in
    subst (λ r. Expects c.push_directory.new.names r all) (sym is) (tells_all fault _ here all (whole ∙ sym inv.3 ∙ next) told)

pub returns-clause-told : goal.returns-clause-told
returns-clause-told c =
    let path = c.args.path.now in
    let n = c.loop-depth.depth in
    let inv = c.loop-depth.invariant in
    let p = texts_of c.loop-depth.names c.loop-depth.namespace in
    let done = namespace_end (layout_seen [] c.args.layout.now) (take n path) path c.args.end n p (c.loop-depth-test.false) c.requires.within in
    namespace_whole c.args.names.now c.loop-depth.names c.args.layout.now c.args.root.now (take c.args.end path) inv.2 c.requires.named ∙ sym inv.3 ∙ done
