use Rattle.std.proofs.Common.{◌≡◌, length, refl, rules}
use Rattle.zw_ast.specs.Part.{rescue_form, rescues_height}
use Rattle.zw_ast.proofs.FormLemmas.{rescues_made, rescues_named, list_ended, greatest_ended}
use Rattle.zw_ast.proofs.maker.Maker.rescues.Goals as goal

pub returns-clause-told : goal.returns-clause-told
returns-clause-told c =
    let ok = c.clauses.clause-iterator.rest.ok in
    let none : length c.clauses.clause-iterator.rest.items ≡ 0 = search (rules, ok, c.in-None.ensures.steps) in
    rescues_made _ _ _ _ (list_ended rescue_form _ _ _ none c.clauses.invariant.0)
    (greatest_ended rescues_height _ _ _ refl none c.clauses.invariant.1)

pub returns-clause-named : goal.returns-clause-named
returns-clause-named c =
    let ok = c.clauses.clause-iterator.rest.ok in
    let none : length c.clauses.clause-iterator.rest.items ≡ 0 = search (rules, ok, c.in-None.ensures.steps) in
    rescues_named _ _ (list_ended rescue_form _ _ _ none c.clauses.invariant.0)
