use Rattle.std.proofs.Common.{ap, sym, ◌∙◌}
use Rattle.zw_tree.specs.Trail.{closed}
use Rattle.zw_tree.proofs.TrailLemmas.{closed-last, closed_empty, closed_some}
use Rattle.zw_tree.proofs.edit.close.Goals as goal
use Rattle.zw_tree.proofs.edit.close.Goals.{then-is_empty, else-is_empty}

pub up-preserved : goal.up-preserved
up-preserved c =
    let ls = c.pop.new.self.items in
    let level = c.in-Some.level in
    let before = sym (closed-last ls level c.up.here) ∙ ap (λ xs. closed xs c.up.here) (sym c.in-Some.ensures.items) ∙ c.up.invariant in
    elim c.if-is_empty.branch [
      | then-is_empty w ↦ rw w.folder-is (ap (closed ls) (w.remove.ensures ∙ sym (closed_empty level c.up.here (sym c.is_empty.ensures ∙ w.if-is_empty.true))) ∙ before)
      | else-is_empty w ↦ rw w.folder-is (ap (closed ls) (w.put_folder.ensures ∙ sym (closed_some level c.up.here (sym c.is_empty.ensures ∙ w.if-is_empty.false))) ∙ before)
    ]
