use Rattle.std.proofs.Common.{subst}
use Rattle.std.specs.List.{All}
use Rattle.std.proofs.lemmas.List.Elements.{All-tail}
use Rattle.zw_heap.specs.Sound.{IsIn}
use Rattle.zw_calls.proofs.checks.+first_wrong.Goals as goal

pub returns-clause-held : goal.returns-clause-held
returns-clause-held t c = λ s all.
    let parts = c.in_ok-value.ensures in
    c.first_wrong.ensures.held s (All-tail (IsIn s) c.in_ok-value.value.now c.in_ok-value.args.now (subst (All (IsIn s)) parts.cases.0 all))
