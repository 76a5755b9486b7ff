use Rattle.std.proofs.Common.{sym, ◌∙◌}
use Rattle.zw_grammar.proofs.PartLemmas.{both_hold, first_fails}
use Rattle.zw_grammar.proofs.statement.loop_is_refused.Goals as goal

pub returns-then-is_begun : goal.returns-then-is_begun
returns-then-is_begun c = λ names. both_hold _ _ _ (sym (c.is_begun.ensures names) ∙ c.if-is_begun.true) c.loop_next.ensures

pub returns-else-is_begun : goal.returns-else-is_begun
returns-else-is_begun c = λ names. first_fails _ _ (sym (c.is_begun.ensures names) ∙ c.if-is_begun.false)
