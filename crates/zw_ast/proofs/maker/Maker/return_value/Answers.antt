use Rattle.std.proofs.Common.{rules, arith, Some}
use Rattle.zw_ast.proofs.KindLemmas.{return_told, return_bound, raised_as}
use Rattle.zw_ast.proofs.maker.Maker.return_value.Goals as goal

pub raise-requires : goal.raise-requires
raise-requires c = let e = return_bound (Some c.args.value.form) in record { named = search (rules, e, arith) }

pub returns-clause-told : goal.returns-clause-told
returns-clause-told c = raised_as _ _ _ _ _ (return_told _ (Some c.args.value.form)) c.raise.ensures.told
