use Rattle.zw_heap.proofs.SuperclassLemmas.{superclass-lower}
use Rattle.zw_heap.proofs.heap.Heap.superclass.Goals as goal

pub returns-in-Class-clause-first : goal.returns-in-Class-clause-first
returns-in-Class-clause-first c =
    superclass-lower c.args.self.now.modules c.is_sound.ensures.sound.founded c.args.of.0 c.in-Class.superclass c.in-Class.ensures
