use Rattle.std.proofs.Common.{ap}
use Rattle.zw_def_syntax.specs.Compound as spec
use Rattle.zw_def_syntax.specs.Grammar.{within}
use Rattle.zw_ast.specs.Grown.{grown_seen}
use Rattle.zw_compound.specs.Arm.{arms_seen}
use Rattle.zw_compound.proofs.PartLemmas.{if_goes, if_fails, reads_given, reads_fails}
use Rattle.zw_compound.proofs.choice.if_rule.Goals as goal

pub returns-in_err-take_keyword-clause-reads : goal.returns-in_err-take_keyword-clause-reads
returns-in_err-take_keyword-clause-reads g c =
    let inner = within c.args.grammar.now.depth in
    let names = c.args.grammar.now.maker.names.now in
    let fails = if_fails inner c.args.tokens.now.input _ _ _ _ _ _ c.take_token.ensures.taken c.in_ok-first.ensures.reads _ _ (ap (arms_seen names) c.new.ensures.items) c.in_ok-more.ensures.reads c.in_ok-other.ensures.reads in
    reads_fails (grown_seen names) (spec.if_rule inner) _ _ _ _ c.from_residual-in_err-take_keyword.ensures.1 (λ known. fails (c.in_err-take_keyword.ensures.reads known))

pub returns-clause-reads : goal.returns-clause-reads
returns-clause-reads g c =
    let inner = within c.args.grammar.now.depth in
    let names = c.args.grammar.now.maker.names.now in
    let goes = if_goes inner c.args.tokens.now.input _ _ _ _ _ _ c.take_token.ensures.taken c.in_ok-first.ensures.reads _ _ (ap (arms_seen names) c.new.ensures.items) c.in_ok-more.ensures.reads c.in_ok-other.ensures.reads _ (c.body_or_none-other.ensures.told inner) _ c.in_ok-take_keyword.ensures.reads in
    reads_given (grown_seen names) (spec.if_rule inner) _ _ _ _ goes c.chosen.ensures.told
