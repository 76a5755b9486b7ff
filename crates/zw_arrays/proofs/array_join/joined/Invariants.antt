use Rattle.std.proofs.Common.{◌≡◌, ◌≤◌, drop, length, map, string_bytes}
use Rattle.zw_def_world.specs.Making.{max_text}
use Rattle.zw_def_world.specs.World.{World}
use Rattle.zw_heap.specs.Telling.{Telling, Fits, Agrees, tell}
use Rattle.zw_arrays.specs.Joined.{joined_of}
use Rattle.zw_arrays.proofs.JoinLemmas.{joined_behind}
use Rattle.zw_arrays.proofs.array_join.joined.Given as goal

abbrev pub invariant-loop-index : goal.invariant-loop-index
invariant-loop-index l = record {
  fits : length (string_bytes l.joined) ≤ max_text;
  told : (I : Telling) (w : World) → Fits I l.names l.heap → Agrees I l.heap w
      → joined_of l.separator l.items I w
      ≡ joined_behind w l.separator (string_bytes l.joined) l.index (map (tell I) (drop l.index l.items));
}
