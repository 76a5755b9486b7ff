use Rattle.zw_heap.specs.Heap.{sizes_of}
use Rattle.zw_strings.proofs.symbol.given.Goals as goal

pub returns-in-Compared-clause-held : goal.returns-in-Compared-clause-held
returns-in-Compared-clause-held c = c.compared_with.ensures.held (sizes_of c.args.heap.now)
