use Rattle.std.proofs.Common.{◌+◌, drop, Some, not, cond, option_map, ap, sym, ◌∙◌}
use Rattle.std.specs.List.{find}
use Rattle.std.proofs.lemmas.List.{drop_all}
use Rattle.zw_def.specs.ConstantPath.{constant_path_text}
use Rattle.zw_def.proofs.NameLemmas.{OnlyGrows-same}
use Rattle.zw_inflect.specs.Layout.{root_seen}
use Rattle.zw_view.proofs.ViewLemmas.{IsStray, at_stray, stray_told}
use Rattle.zw_view.proofs.view.View.stray_namespace.Goals as goal

pub returns-then-not-leads : goal.returns-then-not-leads
returns-then-not-leads c layout tree setting is =
    let names = c.args.self.now.names in
    let all = c.deref-root-items.result.now in
    let root = c.root-item.result in
    ap Some c.in_ok-text.ensures
    ∙ ap (λ o. option_map (λ r. constant_path_text r.namespace) (option_map (root_seen names) o))
    (sym (at_stray setting names all c.loop-root.root-index root c.loop-root-test.true c.root-item.is (c.loop-root.invariant layout tree setting is)
    ∙ ap (λ b. cond (not b) (Some root) (find (IsStray setting names) (drop (c.loop-root.root-index + 1) all))) (sym (c.leads.ensures layout tree setting is) ∙ c.if-not-leads.true)))
    ∙ ap (option_map (λ r. constant_path_text r.namespace)) (sym (stray_told setting names all layout c.args.self.now.layout (is.under names (OnlyGrows-same names)) (sym c.deref-root-items.ensures.value)))

pub loop-root-preserved : goal.loop-root-preserved
loop-root-preserved c layout tree setting is =
    let names = c.args.self.now.names in
    let all = c.deref-root-items.result.now in
    let root = c.root-item.result in
    sym (at_stray setting names all c.loop-root.root-index root c.loop-root-test.true c.root-item.is (c.loop-root.invariant layout tree setting is)
    ∙ ap (λ b. cond (not b) (Some root) (find (IsStray setting names) (drop (c.loop-root.root-index + 1) all))) (sym (c.leads.ensures layout tree setting is) ∙ c.if-not-leads.false))

pub returns : goal.returns
returns c layout tree setting is =
    let names = c.args.self.now.names in
    let all = c.deref-root-items.result.now in
    ap (λ o. option_map (λ r. constant_path_text r.namespace) (option_map (root_seen names) o))
    (sym (ap (find (IsStray setting names)) (drop_all c.loop-root.root-index all c.loop-root-test.false)) ∙ c.loop-root.invariant layout tree setting is)
    ∙ ap (option_map (λ r. constant_path_text r.namespace)) (sym (stray_told setting names all layout c.args.self.now.layout (is.under names (OnlyGrows-same names)) (sym c.deref-root-items.ensures.value)))
