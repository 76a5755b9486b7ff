use Rattle.zw_consts.proofs.ReachLemmas.{reached-among, among-reached}
use Rattle.zw_consts.proofs.law.ancestors_are_reached.Goals as goal

pub returns : goal.returns
returns c = λ n m lt. (among-reached c.args.heap.now c.is_sound.ensures.sound c.is_sound.ensures.few n m lt, reached-among c.args.heap.now c.is_sound.ensures.sound c.is_sound.ensures.few n m lt)
