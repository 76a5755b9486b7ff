use Rattle.std.proofs.Common.{◌<◌, ◌≤◌, ◌-◌, length, map, take, string_bytes}
use Rattle.std.specs.Vec.{vec_len, vec_capacity}
use Rattle.zw_tree.specs.Sound.{IsSound}
use Rattle.zw_tree.specs.Trail.{Leads}
use Rattle.zw_tree.proofs.edit.open.Given as goal

abbrev pub invariant-down : goal.invariant-down
invariant-down l = record {
  sound : IsSound l.here;
  within : vec_len l.trail < length l.components;
  room : length l.components ≤ vec_capacity l.trail;
  leads : Leads l.fn.top (take (vec_len l.trail) (map (λ s. string_bytes s) l.components)) l.trail.items l.here;
}

abbrev pub decreases-down : goal.decreases-down
decreases-down l = length l.components - vec_len l.trail
