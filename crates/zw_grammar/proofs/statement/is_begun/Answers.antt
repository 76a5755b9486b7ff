use Rattle.zw_grammar.proofs.PartLemmas.{both_hold}
use Rattle.zw_grammar.proofs.statement.is_begun.Goals as goal

pub returns-then-begun : goal.returns-then-begun
returns-then-begun c = λ names. both_hold _ _ _ c.if-begun.true (c.is_begin.ensures names)
