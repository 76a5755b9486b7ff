use Rattle.std.proofs.Common.{◌≡◌, ◌∙◌, true, false, sym, rules}
use Rattle.std.proofs.lemmas.Option.{slice_get_within}
use Rattle.zw_ast.specs.Operator.{operators}
use Rattle.zw_ast.proofs.OperatorLemmas.{spelled_there}
use Rattle.zw_ast.proofs.maker.Maker.operator.Goals as goal

pub unreachable-requires : goal.unreachable-requires
unreachable-requires c =
    let there = spelled_there c.args.self.now.names.now operators c.args.text.now c.args.self.now.spelled c.requires in
    let none : false ≡ true = c.in-None.ensures.found ∙ there in
    cc

pub returns-clause-named : goal.returns-clause-named
returns-clause-named c = slice_get_within c.args.self.now.names.now _ _ c.in-Some.ensures.named
