use Rattle.std.proofs.Common.{◌≡◌, ℕ, ◌≤◌, ◌<◌, false, map, take}
use Rattle.zw_map.specs.BootSeen.{is_taken_at}
use Rattle.zw_map.proofs.boot.kept_out.Given as goal

abbrev pub invariant-loop-depth : goal.invariant-loop-depth
invariant-loop-depth l = (k : ℕ) → 1 ≤ k → k < l.depth → is_taken_at l.boot (take k (map (λ n. n.0) l.names)) ≡ false
