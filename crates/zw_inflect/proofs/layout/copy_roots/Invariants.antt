use Rattle.std.proofs.Common.{◌≡◌, List, map, take}
use Rattle.zw_def.specs.Text.{Text}
use Rattle.zw_inflect.specs.Layout.{root_seen}
use Rattle.zw_inflect.proofs.layout.copy_roots.Given as goal

abbrev pub invariant-loop-root : goal.invariant-loop-root
invariant-loop-root l =
    (names : List Text) → map (root_seen names) l.copies.items ≡ map (root_seen names) (take l.root-index l.roots)
