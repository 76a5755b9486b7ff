use Rattle.std.proofs.Common.{◌≡◌, ℕ, List, take}
use Rattle.std.specs.List.{fold}
use Rattle.zw_scan.specs.Table.{paths_found}
use Rattle.zw_scan.specs.Wrong.{better}
use Rattle.zw_scan.specs.WrongTable.{first_at}
use Rattle.zw_scan.proofs.wrong.WrongTable.add_all.Given as goal

abbrev pub invariant-loop-one : goal.invariant-loop-one
invariant-loop-one l = (q : List ℕ) → first_at q l.self ≡ fold (better l.root) (first_at q l.fn.self) (paths_found q (take l.one-index l.all))
