use Rattle.zw_heap.proofs.ExceptionLemmas.{makes_exceptions-told}
use Rattle.zw_heap.proofs.heap.Heap.tells_exceptions.Goals as goal

pub returns : goal.returns
returns c = λ I names w class fit agrees lt.
    makes_exceptions-told I names c.args.self.now w c.is_sound.ensures.sound fit agrees class lt c.is_sound.ensures.few
