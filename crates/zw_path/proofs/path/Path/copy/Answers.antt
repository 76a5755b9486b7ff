use Rattle.std.proofs.Common.{string_bytes, ◌∙◌}
use Rattle.zw_lemmas.proofs.ListLemmas.{front_more}
use Rattle.zw_path.proofs.path.Path.copy.Goals as goal

pub loop-component-preserved : goal.loop-component-preserved
loop-component-preserved c =
    let whole = rw (← c.deref-component-items.ensures.value) at c.self.view_is in
    rw c.in_ok-push.ensures.items (front_more (λ s. string_bytes s) c.deref-component-items.result.now c.args.self.now whole c.loop-component.components.items c.loop-component.component-index c.component-item.result _ c.loop-component-test.true c.component-item.is (c.in_ok-from_str.ensures.ok ∙ c.deref.ensures) c.loop-component.invariant)
