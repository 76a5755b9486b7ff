use Rattle.zw_heap.proofs.ExistsLemmas.{is_told}
use Rattle.zw_heap.proofs.heap.Heap.is_told.Goals as goal

pub returns : goal.returns
returns c = is_told c.args.self.now c.is_sound.ensures.sound c.args.names.now c.are_distinct.ensures
