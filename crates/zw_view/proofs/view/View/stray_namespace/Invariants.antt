use Rattle.std.proofs.Common.{◌≡◌, drop}
use Rattle.std.specs.List.{find}
use Rattle.zw_def.specs.Layout.{Layout}
use Rattle.zw_def.specs.Tree.{Tree}
use Rattle.zw_def_world.specs.World.{Setting}
use Rattle.zw_view.specs.View.{IsView}
use Rattle.zw_view.proofs.ViewLemmas.{IsStray}
use Rattle.zw_view.proofs.view.View.stray_namespace.Given as goal

abbrev pub invariant-loop-root : goal.invariant-loop-root
invariant-loop-root l =
    (layout : Layout) (tree : Tree) (setting : Setting) → IsView layout tree l.self →
    find (IsStray setting l.self.names) (drop l.root-index l.root-items) ≡ find (IsStray setting l.self.names) l.root-items
