use Rattle.std.proofs.Common.{◌≡◌, length, map, string_bytes}
use Rattle.zw_def_world.specs.StringRows.{without_empty_end}
use Rattle.zw_strings.proofs.pieces.without_empty_end.Given as goal

abbrev pub invariant-loop-pieces : goal.invariant-loop-pieces
invariant-loop-pieces l = without_empty_end (map string_bytes l.pieces.items) ≡ without_empty_end (map string_bytes l.fn.pieces.items)

abbrev pub decreases-loop-pieces : goal.decreases-loop-pieces
decreases-loop-pieces l = length l.pieces.items
