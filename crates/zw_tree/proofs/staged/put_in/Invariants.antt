use Rattle.std.proofs.Common.{◌≡◌, cond, take}
use Rattle.zw_def.specs.Path.{Path}
use Rattle.zw_tree.specs.Text.{text_at}
use Rattle.zw_tree.specs.Stage.{touches}
use Rattle.zw_tree.proofs.staged.put_in.Given as goal

abbrev pub invariant-loop-path : goal.invariant-loop-path
invariant-loop-path l = (q : Path) → text_at q l.tree ≡ cond (touches (take l.path-index l.paths) q) (text_at q l.staged) (text_at q l.fn.tree)
