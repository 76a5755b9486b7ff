use Rattle.zw_consts.proofs.OwnLineLemmas.{Goes, stack_of, total, weight}
use Rattle.zw_consts.proofs.ancestor.own_line.Given as goal

abbrev pub invariant-loop-next : goal.invariant-loop-next
invariant-loop-next l = Goes l.heap.modules l.above l.fn.of.0 l.own (stack_of l.waiting.items)

abbrev pub decreases-loop-next : goal.decreases-loop-next
decreases-loop-next l = total (weight l.heap.modules) (stack_of l.waiting.items)
