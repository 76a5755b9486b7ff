use Rattle.std.proofs.Common.{◌≡◌, subst}
use Rattle.zw_ast.specs.Grown.{grown_seen}
use Rattle.zw_expr.specs.Joined.{Leaves, turn_of}
use Rattle.zw_expr.specs.Operand.{level_seen, operands_seen, sign_before}
use Rattle.zw_expr.specs.Sign.{text_of_sign}
use Rattle.zw_expr.proofs.JoinLemmas.{level_sign_is}
use Rattle.zw_expr.proofs.levels.turned.Goals as goal

pub returns-in-Some-clause-told : goal.returns-in-Some-clause-told
returns-in-Some-clause-told c =
    let names = c.args.maker.now.names.now in
    let level = level_seen c.args.level in
    let same : text_of_sign c.in-Some.sign ≡ sign_before c.args.operand.sign = level_sign_is level _ _ c.in-Some.ensures in
    subst
    (λ s. Leaves (turn_of level c.args.made (operands_seen names c.args.done.now.items) (record { sign = s; value = grown_seen names c.args.operand.value }))
    c.joined_on.result (λ m. (operands_seen names c.joined_on.new.done.items, m)))
    same c.joined_on.ensures.told
