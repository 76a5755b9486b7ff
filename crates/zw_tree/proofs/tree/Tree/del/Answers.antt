use Rattle.zw_tree.specs.Row.{told}
use Rattle.zw_tree.proofs.WalkLemmas.{paths_after, paths_without}
use Rattle.zw_tree.proofs.tree.Tree.del.Goals as goal

pub invariant_of-self : goal.invariant_of-self
invariant_of-self c =
    (c.del.ensures.sound, paths_after c.del.result c.del.new.self c.self.inside.top _ c.del.ensures.ok c.del.ensures.err (paths_without (told c.self.inside.top) _ c.self.invariant.1) c.self.invariant.1)
