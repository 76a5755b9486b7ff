use Rattle.std.proofs.Common.{ap, ◌∙◌}
use Rattle.zw_tree.specs.Stage.{Stage}
use Rattle.zw_tree.proofs.StageLemmas.{mounted_same}
use Rattle.zw_tree.proofs.staged.StagedTree.mount.Goals as goal

pub returns-clause-mounted : goal.returns-clause-mounted
returns-clause-mounted c =
    let s = c.self.inside in
    mounted_same s.touched.items c.as_slice.result.now c.as_slice-2.result.now s.staged s.mounted c.take_out.new.tree c.put_in.new.tree
    c.as_slice.ensures.value c.as_slice-2.ensures.value
    c.is_tree-2.ensures c.is_tree.ensures
    c.self.invariant.0.settled c.in_ok-take_out.ensures.kept c.in_ok-put_in.ensures.kept c.in_ok-put_in.ensures.same
    ∙ ap (λ (t : Stage). t.staged) c.self.view_is
