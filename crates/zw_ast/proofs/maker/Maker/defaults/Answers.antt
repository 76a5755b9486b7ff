use Rattle.std.proofs.Common.{◌≡◌, length, refl, rules}
use Rattle.zw_ast.specs.Part.{default_form, defaults_height}
use Rattle.zw_ast.proofs.FormLemmas.{defaults_made, defaults_named, list_ended, greatest_ended}
use Rattle.zw_ast.proofs.maker.Maker.defaults.Goals as goal

pub returns-clause-told : goal.returns-clause-told
returns-clause-told c =
    let ok = c.optional.one-iterator.rest.ok in
    let none : length c.optional.one-iterator.rest.items ≡ 0 = search (rules, ok, c.in-None.ensures.steps) in
    defaults_made _ _ _ _ (list_ended default_form _ _ _ none c.optional.invariant.0)
    (greatest_ended defaults_height _ _ _ refl none c.optional.invariant.1)

pub returns-clause-named : goal.returns-clause-named
returns-clause-named c =
    let ok = c.optional.one-iterator.rest.ok in
    let none : length c.optional.one-iterator.rest.items ≡ 0 = search (rules, ok, c.in-None.ensures.steps) in
    defaults_named _ _ (list_ended default_form _ _ _ none c.optional.invariant.0)
