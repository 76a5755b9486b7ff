use Rattle.std.proofs.Common.{◌≡◌, ◌-◌}
use Rattle.zw_def_syntax.specs.Expression.{operand}
use Rattle.zw_def_syntax.specs.Grammar.{within}
use Rattle.zw_def_syntax.specs.Input.{is_sign_of, kind_is, repeated, turns}
use Rattle.zw_def_syntax.specs.Levels.{operand_signs}
use Rattle.zw_expr.specs.Operand.{AreNamedOperands, operands_seen}
use Rattle.zw_grammar.proofs.operation.operands.Given as goal

abbrev pub invariant-turn : goal.invariant-turn
invariant-turn g l =
    let names = l.grammar.maker.names.now in
    let turn = operand (within l.grammar.depth) in
    (repeated (kind_is (is_sign_of operand_signs) 0) turn (operands_seen names l.fn.found.items) l.fn.tokens.input
    ≡ turns (l._turn-end - l._turn) (kind_is (is_sign_of operand_signs) 0) turn (operands_seen names l.found.items) l.tokens.input)
    × AreNamedOperands names l.found.items
    × (l.tokens.names ≡ names)
