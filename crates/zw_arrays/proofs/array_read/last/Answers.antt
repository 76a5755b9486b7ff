use Rattle.std.proofs.Common.{ap, ◌∙◌}
use Rattle.zw_def_world.specs.ArrayRows.{last_value}
use Rattle.zw_def_world.specs.Value.{nil}
use Rattle.zw_heap.specs.Heap.{sizes_of}
use Rattle.zw_arrays.proofs.ItemLemmas.{items-held}
use Rattle.zw_arrays.proofs.array_read.last.Goals as goal

pub returns-clause-told : goal.returns-clause-told
returns-clause-told c = λ I names fit. ap (last_value nil) (c.items.ensures.told I names fit) ∙ c.last_of.ensures.told I

pub returns-clause-held : goal.returns-clause-held
returns-clause-held c = c.last_of.ensures.held (sizes_of c.args.heap.now) (items-held c.args.heap.now c.items.result.now c.items.ensures.held)
