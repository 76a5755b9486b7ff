use Rattle.zw_def_syntax.specs.Grammar as spec
use Rattle.zw_def_syntax.specs.Grammar.{within}
use Rattle.zw_ast.specs.Grown.{grown_seen}
use Rattle.zw_grammar.proofs.PartLemmas.{logic_goes, reads_given}
use Rattle.zw_grammar.proofs.statement.logic.Goals as goal

pub returns-clause-reads : goal.returns-clause-reads
returns-clause-reads g c =
    let inner = within c.args.grammar.now.depth in
    let names = c.args.grammar.now.maker.names.now in
    let goes = logic_goes inner (grown_seen names c.args.left) _ _ _ _ _ c.in_ok-word.ensures.reads c.in_ok-right.ensures.reads in
    reads_given (grown_seen names) (spec.logic inner (grown_seen names c.args.left)) _ _ _ _ goes (c.joined.ensures.told inner)
