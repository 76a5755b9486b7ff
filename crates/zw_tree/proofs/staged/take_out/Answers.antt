use Rattle.std.proofs.Common.{None, cond, ap, ◌∙◌}
use Rattle.zw_tree.specs.Text.{text_at}
use Rattle.zw_tree.proofs.StageLemmas.{out_more, touches_front}
use Rattle.zw_tree.proofs.staged.take_out.Goals as goal

pub returns-in_err-del-clause-kept : goal.returns-in_err-del-clause-kept
returns-in_err-del-clause-kept c = λ q none.
    ap (text_at q) c.in_err-del.ensures.err
    ∙ c.loop-path.invariant q
    ∙ ap (λ b. cond b None (text_at q c.args.tree.now)) (touches_front c.args.paths.now c.loop-path.path-index q none)

pub loop-path-preserved : goal.loop-path-preserved
loop-path-preserved c = λ q.
    ap (text_at q) c.in_ok-del.ensures.ok
    ∙ out_more c.args.paths.now c.loop-path.path-index c.path-item.result c.args.tree.now c.loop-path.tree c.loop-path-test.true c.path-item.is c.loop-path.invariant q
