use Rattle.std.proofs.Common.{◌-◌, ◌∷◌, [], ◌++◌, string_bytes, ap, sym, ◌∙◌, length, lit<, append_assoc}
use Rattle.zw_lemmas.proofs.ListLemmas.{read_after}
use Rattle.zw_def.proofs.PieceLemmas.{joined_more}
use Rattle.zw_path.proofs.path.Path.text.Goals as goal

pub loop-component-preserved : goal.loop-component-preserved
loop-component-preserved c =
    let whole = rw (← c.deref.ensures.value) at c.self.view_is in
    let at = read_after (λ s. string_bytes s) c.deref.result.now c.args.self.now whole (length c.deref.result.now - 1) c.loop-component.component-index c.component-item.result c.loop-component-test.true c.component-item.is in
    let slash = c.in_ok-push.ensures.bytes ∙ ap (λ t. string_bytes c.loop-component.text ++ t) (c.in_ok-push.ensures.ascii (lit< tt)) in
    c.in_ok-push_str.ensures.bytes ∙ (λ i. slash i ++ c.deref-in-loop-component.ensures i)
    ∙ append_assoc (string_bytes c.loop-component.text) (47 ∷ []) (string_bytes c.component-item.result)
    ∙ ap (λ t. t ++ 47 ∷ string_bytes c.component-item.result) c.loop-component.invariant
    ∙ sym (joined_more 47 c.loop-component.component-index c.args.self.now (string_bytes c.component-item.result) at.0 at.1)
