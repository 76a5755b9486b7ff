use Rattle.std.proofs.Common.{rules, tests, ◌≡◌, ◌∙◌, length, ap}
use Rattle.std.proofs.lemmas.List.{nil_from_length}
use Rattle.zw_ast.specs.Grown.{grown_seen}
use Rattle.zw_expr.specs.Operand.{operands_seen}
use Rattle.zw_grammar.specs.Part as part
use Rattle.zw_grammar.proofs.PartLemmas.{folded_alone}
use Rattle.zw_grammar.proofs.operation.folded.Goals as goal

pub returns-then-is_empty-clause-told : goal.returns-then-is_empty-clause-told
returns-then-is_empty-clause-told c =
    let names = c.args.maker.now.names.now in
    let none : length c.args.more.items ≡ 0 = search (rules, tests) in
    ap (λ os. part.folded (grown_seen names c.args.first) (operands_seen names os)) (nil_from_length c.args.more.items none) ∙ folded_alone _
