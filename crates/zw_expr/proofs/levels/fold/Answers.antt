use Rattle.std.proofs.Common.{sym, subst}
use Rattle.zw_ast.specs.Gives.{Gives}
use Rattle.zw_ast.specs.Grown.{grown_seen}
use Rattle.zw_expr.proofs.JoinLemmas.{folded_goes}
use Rattle.zw_expr.proofs.levels.fold.Goals as goal

pub returns-clause-told : goal.returns-clause-told
returns-clause-told c =
    let names = c.args.maker.now.names.now in
    let whole = folded_goes _ _ _ c.in_ok-operands.ensures.told c.in_ok-operands-2.ensures.told in
    subst (λ x. Gives (grown_seen names) x c.only.result) (sym whole) (c.only.ensures.told names)
