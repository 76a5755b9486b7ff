use Rattle.std.proofs.Common.{◌&&◌, if◌then◌else◌, sym, ap, ◌∙◌}
use Rattle.zw_def_syntax.specs.Input.{is_keyword_of, kind_is, refuse}
use Rattle.zw_def_syntax.specs.Grammar as spec
use Rattle.zw_def_syntax.specs.Grammar.{within}
use Rattle.zw_ast.specs.Grown.{grown_seen}
use Rattle.zw_ast.specs.Node.{tree_seen}
use Rattle.zw_ast.specs.declared.node.Node.{Node}
use Rattle.zw_grammar.proofs.PartLemmas.{reads_else}
use Rattle.zw_grammar.proofs.statement.after_line.Goals as goal

pub returns-then-loop_is_refused-clause-reads : goal.returns-then-loop_is_refused-clause-reads
returns-then-loop_is_refused-clause-reads g c = λ known.
    let inner = within c.args.grammar.now.depth in
    let names = c.args.grammar.now.maker.names.now in
    let begins = λ (n : Node). c.args.begun && spec.is_begin_node (tree_seen names n) && kind_is (is_keyword_of "while until") 0 c.args.tokens.now.input in
    ap (λ b. (if b then refuse else spec.modifiers inner (grown_seen names c.args.body)) c.args.tokens.now.input) (ap begins (sym c.get.ensures) ∙ sym (c.loop_is_refused.ensures names) ∙ c.if-loop_is_refused.true)

pub returns-clause-reads : goal.returns-clause-reads
returns-clause-reads g c =
    let inner = within c.args.grammar.now.depth in
    let names = c.args.grammar.now.maker.names.now in
    let begins = λ (n : Node). c.args.begun && spec.is_begin_node (tree_seen names n) && kind_is (is_keyword_of "while until") 0 c.args.tokens.now.input in
    reads_else (grown_seen names) (λ i. c.args.begun && spec.is_begin_node (tree_seen names c.args.body.form) && kind_is (is_keyword_of "while until") 0 i) refuse (spec.modifiers inner (grown_seen names c.args.body)) _ _ _ (ap begins (sym c.get.ensures) ∙ sym (c.loop_is_refused.ensures names) ∙ c.if-loop_is_refused.false) c.modifiers.ensures.reads
