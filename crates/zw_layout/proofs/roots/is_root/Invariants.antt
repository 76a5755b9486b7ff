use Rattle.std.proofs.Common.{◌≡◌, false, take}
use Rattle.std.specs.List.{list_any}
use Rattle.zw_def.specs.Path.{same_path}
use Rattle.zw_layout.proofs.roots.is_root.Given as goal

abbrev pub invariant-loop-root : goal.invariant-loop-root
invariant-loop-root l = list_any (λ r. same_path r.path l.path) (take l.root-index l.layout.roots.items) ≡ false
