use Rattle.std.proofs.Common.{◌≡◌, length, refl, rules}
use Rattle.zw_ast.specs.Grown.{tallest}
use Rattle.zw_ast.proofs.RowLemmas.{row_made}
use Rattle.zw_ast.proofs.FormLemmas.{list_ended, greatest_ended}
use Rattle.zw_ast.proofs.maker.Maker.row.Goals as goal

pub returns-clause-told : goal.returns-clause-told
returns-clause-told c =
    let ok = c.nodes.one-iterator.rest.ok in
    let none : length c.nodes.one-iterator.rest.items ≡ 0 = search (rules, ok, c.in-None.ensures.steps) in
    row_made _ _ c.nodes.nodes _ (list_ended _ _ _ _ none c.nodes.invariant.0)
    (greatest_ended tallest _ _ _ refl none c.nodes.invariant.1)

pub returns-clause-form : goal.returns-clause-form
returns-clause-form c =
    let ok = c.nodes.one-iterator.rest.ok in
    let none : length c.nodes.one-iterator.rest.items ≡ 0 = search (rules, ok, c.in-None.ensures.steps) in
    list_ended _ _ _ _ none c.nodes.invariant.0

pub returns-clause-height : goal.returns-clause-height
returns-clause-height c =
    let ok = c.nodes.one-iterator.rest.ok in
    let none : length c.nodes.one-iterator.rest.items ≡ 0 = search (rules, ok, c.in-None.ensures.steps) in
    greatest_ended tallest _ _ _ refl none c.nodes.invariant.1
