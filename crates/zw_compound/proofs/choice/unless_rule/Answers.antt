use Rattle.zw_def_syntax.specs.Compound as spec
use Rattle.zw_def_syntax.specs.Grammar.{within}
use Rattle.zw_ast.specs.Grown.{grown_seen}
use Rattle.zw_compound.proofs.PartLemmas.{unless_goes, reads_given}
use Rattle.zw_compound.proofs.choice.unless_rule.Goals as goal

pub returns-clause-reads : goal.returns-clause-reads
returns-clause-reads g c =
    let inner = within c.args.grammar.now.depth in
    let names = c.args.grammar.now.maker.names.now in
    let goes = unless_goes inner c.args.tokens.now.input _ _ c.args.tokens.now.input _ _ _ c.take_token.ensures.taken c.in_ok-test.ensures.reads c.in_ok-other.ensures.reads _ (c.body_or_none-other.ensures.told inner) _ c.in_ok-take_keyword.ensures.reads in
    reads_given (grown_seen names) (spec.unless_rule inner) _ _ _ _ goes c.choice.ensures.told
