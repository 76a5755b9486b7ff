use Rattle.std.proofs.Common.{◌≡◌, ◌+◌, ◌≤◌, drop, length, map, string_bytes}
use Rattle.zw_scan.specs.Directories.{shared}
use Rattle.zw_scan.proofs.directory.shared.Given as goal

abbrev pub invariant-loop-place : goal.invariant-loop-place
invariant-loop-place l = record {
  within : l.place ≤ length l.other;
  rest : shared (map string_bytes l.path) (map string_bytes l.other) ≡ l.place + shared (map string_bytes (drop l.place l.path)) (map string_bytes (drop l.place l.other));
}
