use Rattle.std.proofs.Common.{◌≡◌, take, map, string_bytes}
use Rattle.zw_layout.specs.Deepest.{deepest, held}
use Rattle.zw_layout.proofs.roots.root_at.Given as goal

abbrev pub invariant-loop-root : goal.invariant-loop-root
invariant-loop-root l = held l.best ≡ deepest (map string_bytes l.components) (take l.root-index l.layout.roots.items)
