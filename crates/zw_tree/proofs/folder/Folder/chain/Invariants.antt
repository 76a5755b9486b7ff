use Rattle.std.proofs.Common.{◌≡◌, ◌<◌, length, map, drop, string_bytes}
use Rattle.zw_tree.specs.NewRow.{new_row}
use Rattle.zw_tree.specs.Seen.{row_seen}
use Rattle.zw_tree.proofs.folder.Folder.chain.Given as goal

abbrev pub invariant-directories : goal.invariant-directories
invariant-directories l = record {
  within : l.left < length l.components;
  row : row_seen l.entry.value ≡ new_row (map (λ s. string_bytes s) (drop l.left l.components)) l.fn.bytes;
}

abbrev pub decreases-directories : goal.decreases-directories
decreases-directories l = l.left
