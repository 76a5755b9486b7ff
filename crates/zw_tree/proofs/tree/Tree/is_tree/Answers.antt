use Rattle.std.proofs.Common.{subst}
use Rattle.zw_tree.specs.Strict.{IsTree}
use Rattle.zw_tree.proofs.TreeLemmas.{tree_told}
use Rattle.zw_tree.proofs.tree.Tree.is_tree.Goals as goal

pub returns : goal.returns
returns c = subst IsTree c.self.view_is (tree_told c.self.inside.top c.self.invariant.0)
