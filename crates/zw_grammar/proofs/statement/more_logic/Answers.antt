use Rattle.std.proofs.Common.{rules, ◌≡◌, true, arith}
use Rattle.zw_def_syntax.specs.Grammar.{logic, within}
use Rattle.zw_def_syntax.specs.Input.{is_keyword_of, kind_is}
use Rattle.zw_def_syntax.proofs.TurnLemmas.{loop_gone_on}
use Rattle.zw_grammar.proofs.statement.more_logic.Goals as goal

pub turn-preserved : goal.turn-preserved
turn-preserved g c =
    let goes : kind_is (is_keyword_of "and or") 0 c.turn.tokens.input ≡ true = search rules in
    let turn = logic (within c.args.grammar.now.depth) in (
      loop_gone_on (kind_is (is_keyword_of "and or") 0) turn _ _ _ _ c.turn.invariant.0 _ _ (omega (arith, c.turn-test.true)) goes c.in_ok-left.ensures.reads,
      c.in_ok-left.ensures.named,
      c.logic.ensures.same,
    )
