use Rattle.std.proofs.Common.{◌<◌, refl, length, get_or, ap, subst, ◌∙◌, arith}
use Rattle.std.specs.List.{All}
use Rattle.std.proofs.lemmas.List.{take_all}
use Rattle.std.proofs.lemmas.List.Elements.{All-more}
use Rattle.zw_def.specs.Names.{AreNamed}
use Rattle.zw_inflect.specs.declared.layout.Root.{Root}
use Rattle.zw_layout.proofs.named.are_namespaces_named.Goals as goal

pub loop-root-preserved : goal.loop-root-preserved
loop-root-preserved c =
    let roots = c.args.layout.now.roots.items in
    let n = c.loop-root.root-index in
    let root = c.root-item.result in
    let same = c.deref-root-items.ensures.value in
    let lt : n < length roots = omega (arith, ap length same, c.loop-root-test.true) in
    let at = c.root-item.is ∙ ap (λ rs. get_or rs n root) same in
    let named = c.are_named.ensures.0 c.if-not-are_named.false in
    All-more (λ (r : Root). AreNamed c.args.names.now r.namespace) roots n root lt c.loop-root.invariant (subst (λ (r : Root). AreNamed c.args.names.now r.namespace) at named)

pub returns : goal.returns
returns c =
    let all = take_all c.loop-root.root-index c.args.layout.now.roots.items (omega (arith, ap length c.deref-root-items.ensures.value, c.loop-root-test.false)) in
    ((λ yes. subst (All (λ (root : Root). AreNamed c.args.names.now root.namespace)) all c.loop-root.invariant), (λ named. refl))
