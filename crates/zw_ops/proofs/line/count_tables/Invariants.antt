use Rattle.std.proofs.Common.{◌≡◌, ◌+◌, ◌≤◌, drop, filter, length}
use Rattle.zw_methods.specs.Line.{place_seen}
use Rattle.zw_ops.specs.Line.{is_table}
use Rattle.zw_ops.proofs.line.count_tables.Given as goal

abbrev pub invariant-loop-place : goal.invariant-loop-place
invariant-loop-place l =
    (l.count + length (filter (λ p. is_table (place_seen l.table) (place_seen p)) (drop l.place-index l.line)) ≡ length (filter (λ p. is_table (place_seen l.table) (place_seen p)) l.line))
    × (l.count ≤ l.place-index)
