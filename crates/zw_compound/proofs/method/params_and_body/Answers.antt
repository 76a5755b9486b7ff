use Rattle.std.proofs.Common.{rules, ap, ◌∙◌}
use Rattle.zw_def.specs.Names.{texts_of}
use Rattle.zw_def_syntax.specs.Grammar.{within}
use Rattle.zw_compound.proofs.PartLemmas.{method_goes, method_fails}
use Rattle.zw_compound.proofs.method.params_and_body.Goals as goal

pub returns-in_err-clauses-clause-reads : goal.returns-in_err-clauses-clause-reads
returns-in_err-clauses-clause-reads g c =
    let told = ap (λ names. texts_of names c.in_ok-known.known) c.in_ok-params.ensures.same ∙ c.in_ok-known.ensures.told in
    let fails = method_fails (within c.args.grammar.now.depth) _ _ _ _ _ _ c.in_ok-params.ensures.reads told c.replace_known.ensures.known c.skip_separators.ensures.skips in
    search (rules, fails, c.in_err-clauses.ensures.reads)

pub returns-clause-reads : goal.returns-clause-reads
returns-clause-reads g c =
    let told = ap (λ names. texts_of names c.in_ok-known.known) c.in_ok-params.ensures.same ∙ c.in_ok-known.ensures.told in
    method_goes (within c.args.grammar.now.depth) _ _ _ _ _ _ c.in_ok-params.ensures.reads told c.replace_known.ensures.known c.skip_separators.ensures.skips _ _ c.in_ok-clauses.ensures.reads
