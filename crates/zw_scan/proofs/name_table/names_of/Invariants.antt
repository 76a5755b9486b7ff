use Rattle.std.proofs.Common.{◌≡◌, ◌++◌, map}
use Rattle.zw_scan.proofs.name_table.names_of.Given as goal

abbrev pub invariant-loop-name : goal.invariant-loop-name
invariant-loop-name l = l.names.items ++ l.name-iterator ≡ map (λ e. e.1) l.kept.entries
