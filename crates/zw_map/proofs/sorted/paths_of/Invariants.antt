use Rattle.std.proofs.Common.{◌≡◌, ◌++◌, map}
use Rattle.zw_map.proofs.sorted.paths_of.Given as goal

abbrev pub invariant-loop-path : goal.invariant-loop-path
invariant-loop-path l = l.paths.items ++ l.path-iterator ≡ map (λ e. e.1) l.sorted.entries
