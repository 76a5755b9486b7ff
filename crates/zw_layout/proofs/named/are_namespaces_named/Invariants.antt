use Rattle.std.proofs.Common.{take}
use Rattle.std.specs.List.{All}
use Rattle.zw_def.specs.Names.{AreNamed}
use Rattle.zw_layout.proofs.named.are_namespaces_named.Given as goal

abbrev pub invariant-loop-root : goal.invariant-loop-root
invariant-loop-root l = All (λ root. AreNamed l.names root.namespace) (take l.root-index l.layout.roots.items)
