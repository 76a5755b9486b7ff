use Rattle.std.proofs.Common.{◌++◌, ◌∷◌, [], true, false, ap, ◌∙◌}
use Rattle.zw_view.proofs.ViewLemmas.{core_made}
use Rattle.zw_view.proofs.boot.core_constants.Goals as goal

pub returns-clause-core : goal.returns-clause-core
returns-clause-core c =
    core_made c.intern.new.self c.intern-2.new.self c.push_modules.new.names c.push_modules-2.new.names c.in_ok-intern.field-0.0 c.in_ok-intern-2.field-0.0 _ _ _ _ _
    c.in_ok-intern.ensures.named c.intern-2.ensures.grows c.in_ok-intern-2.ensures.named c.push_modules.ensures.grows
    c.object-object.ensures
    (c.in_ok-zeitwerk.ensures ∙ ap (λ p. p ++ c.in_ok-intern-2.field-0.0 ∷ []) c.object-object.ensures)
    (c.in_ok-push-2.ensures.items
    ∙ ap (λ l. l ++ (c.in_ok-constant.constant, false) ∷ []) (c.in_ok-push.ensures.items ∙ ap (λ l. l ++ (c.in_ok-copy.field-0, true) ∷ []) c.new-rows.ensures.items ∙ ap (λ p. (p, true) ∷ []) (c.in_ok-copy.ensures ∙ c.object-object.ensures))
    ∙ ap (λ p. ([], true) ∷ (p, false) ∷ []) (c.in_ok-constant.ensures ∙ ap (λ p. p ++ c.in_ok-intern.field-0.0 ∷ []) c.object-object.ensures))
    c.in_ok-push_modules.ensures.told c.in_ok-push_modules-2.ensures.told c.in_ok-push_modules-2.ensures.named
