use Rattle.std.proofs.Common.{◌≡◌, ◌∙◌, ◌++◌, ◌∷◌, [], length, refl, rules}
use Rattle.zw_ast.specs.declared.node.Part.TheVariants as p
use Rattle.zw_ast.specs.Part.{segments_height}
use Rattle.zw_ast.proofs.FormLemmas.{parts_made, parts_named, parts_ended, greatest_ended}
use Rattle.zw_ast.proofs.maker.Maker.parts.Goals as goal

pub returns-clause-told : goal.returns-clause-told
returns-clause-told c =
    let ok = c.segments.segment-iterator.rest.ok in
    let none : length c.segments.segment-iterator.rest.items ≡ 0 = search (rules, ok, c.in-None.ensures.steps) in
    let pushed : c.push-2.new.self ≡ c.segments.parts ++ p.Text c.args.last ∷ [] = search rules in
    parts_made _ _ _ _ _ (pushed ∙ parts_ended _ _ c.args.last _ none c.segments.invariant.0)
    (greatest_ended segments_height _ _ _ refl none c.segments.invariant.1)

pub returns-clause-named : goal.returns-clause-named
returns-clause-named c =
    let ok = c.segments.segment-iterator.rest.ok in
    let none : length c.segments.segment-iterator.rest.items ≡ 0 = search (rules, ok, c.in-None.ensures.steps) in
    let pushed : c.push-2.new.self ≡ c.segments.parts ++ p.Text c.args.last ∷ [] = search rules in
    parts_named _ _ _ (pushed ∙ parts_ended _ _ c.args.last _ none c.segments.invariant.0)
