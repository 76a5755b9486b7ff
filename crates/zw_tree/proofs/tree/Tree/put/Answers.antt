use Rattle.std.proofs.Common.{sym, subst}
use Rattle.zw_path.specs.Shape.{IsPath}
use Rattle.zw_tree.specs.Row.{told}
use Rattle.zw_tree.proofs.WalkLemmas.{paths_after, paths_with}
use Rattle.zw_tree.proofs.tree.Tree.put.Goals as goal

pub invariant_of-self : goal.invariant_of-self
invariant_of-self c =
    let path = subst IsPath (sym c.components.ensures.value) c.components.ensures.whole in
    (c.put.ensures.sound, paths_after c.put.result c.put.new.self c.self.inside.top _ c.put.ensures.ok c.put.ensures.err (paths_with (told c.self.inside.top) _ c.args.bytes path c.self.invariant.1) c.self.invariant.1)
