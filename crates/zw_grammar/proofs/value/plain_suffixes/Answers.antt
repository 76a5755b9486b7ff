use Rattle.std.proofs.Common.{rules, ◌≡◌, true, arith}
use Rattle.zw_def_syntax.specs.Expression.{suffix}
use Rattle.zw_def_syntax.specs.Grammar.{plain_suffix_next, within}
use Rattle.zw_def_syntax.proofs.TurnLemmas.{loop_gone_on}
use Rattle.zw_grammar.proofs.value.plain_suffixes.Goals as goal

pub turn-preserved : goal.turn-preserved
turn-preserved g c =
    let goes : plain_suffix_next c.turn.tokens.input ≡ true = search rules in
    let turn = suffix (within c.args.grammar.now.depth) in (
      loop_gone_on plain_suffix_next turn _ _ _ _ c.turn.invariant.0 _ _ (omega (arith, c.turn-test.true)) goes c.in_ok-receiver.ensures.reads,
      c.in_ok-receiver.ensures.named,
      c.suffix.ensures.same,
    )
