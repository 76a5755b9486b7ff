use Rattle.std.proofs.Common.{◌≡◌, take}
use Rattle.zw_consts.proofs.tables.copy_tables.Given as goal

abbrev pub invariant-loop-table : goal.invariant-loop-table
invariant-loop-table g l = l.copy.items ≡ take l.table-index l.tables
