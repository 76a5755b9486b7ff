use Rattle.std.proofs.Common.{◌≡◌, take}
use Rattle.std.specs.List.{fold}
use Rattle.zw_def.specs.Map.{with_path}
use Rattle.zw_map.specs.Order.{AreKeyed, names_told, sorted_told}
use Rattle.zw_map.proofs.sorted.add_all.Given as goal

abbrev pub invariant-loop-one : goal.invariant-loop-one
invariant-loop-one l =
    (sorted_told l.names l.sorted.entries ≡ fold (λ paths p. with_path p paths) (sorted_told l.names l.fn.sorted.entries) (names_told l.names (take l.one-index l.found)))
    × AreKeyed l.names l.sorted.entries
