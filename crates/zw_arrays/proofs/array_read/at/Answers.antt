use Rattle.std.proofs.Common.{ap, ◌∙◌, FitsSigned}
use Rattle.std.specs.Int.{w64}
use Rattle.std.proofs.lemmas.Int.{to_z-of_z}
use Rattle.zw_def_world.specs.ArrayRows.{item_at}
use Rattle.zw_heap.specs.Heap.{sizes_of}
use Rattle.zw_arrays.proofs.ItemLemmas.{items-held}
use Rattle.zw_arrays.proofs.array_read.at.Goals as goal

pub returns-clause-told : goal.returns-clause-told
returns-clause-told c = λ I names fit.
    let fits : FitsSigned w64 c.args.place = c.ranges.place in
    let is = simp to_z-of_z at (c.item_at.ensures.told I) in
    ap (item_at c.args.place) (c.items.ensures.told I names fit) ∙ is

pub returns-clause-held : goal.returns-clause-held
returns-clause-held c = c.item_at.ensures.held (sizes_of c.args.heap.now) (items-held c.args.heap.now c.items.result.now c.items.ensures.held)
