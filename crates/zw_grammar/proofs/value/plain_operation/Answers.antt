use Rattle.std.proofs.Common.{sym, ◌∙◌}
use Rattle.zw_def_syntax.specs.Expression.{ternary}
use Rattle.zw_def_syntax.specs.Grammar.{operator_next, postfix_value, within}
use Rattle.zw_ast.specs.Grown.{grown_seen}
use Rattle.zw_grammar.proofs.PartLemmas.{reads_then, reads_else}
use Rattle.zw_grammar.proofs.value.plain_operation.Goals as goal

pub returns-then-operator_next-clause-reads : goal.returns-then-operator_next-clause-reads
returns-then-operator_next-clause-reads g c =
    let inner = within c.args.grammar.now.depth in
    let names = c.args.grammar.now.maker.names.now in
    reads_then (grown_seen names) (operator_next inner) (ternary inner) (postfix_value inner) _ _ _ (sym (c.operator_next.ensures inner) ∙ c.if-operator_next.true) c.ternary.ensures.reads

pub returns-else-operator_next-clause-reads : goal.returns-else-operator_next-clause-reads
returns-else-operator_next-clause-reads g c =
    let inner = within c.args.grammar.now.depth in
    let names = c.args.grammar.now.maker.names.now in
    reads_else (grown_seen names) (operator_next inner) (ternary inner) (postfix_value inner) _ _ _ (sym (c.operator_next.ensures inner) ∙ c.if-operator_next.false) c.postfix_value.ensures.reads
