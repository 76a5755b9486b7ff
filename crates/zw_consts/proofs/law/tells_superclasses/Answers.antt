use Rattle.zw_consts.proofs.ClassLemmas.{superclasses-held}
use Rattle.zw_consts.proofs.ToldLemmas.{superclasses-told}
use Rattle.zw_consts.proofs.law.tells_superclasses.Goals as goal

pub returns-clause-held : goal.returns-clause-held
returns-clause-held c = λ n lt. superclasses-held c.args.heap.now c.is_sound.ensures.sound c.is_sound.ensures.few n lt

pub returns-clause-line : goal.returns-clause-line
returns-clause-line c = λ I names w n fit agrees lt. superclasses-told I c.args.heap.now w c.is_sound.ensures.sound agrees n lt c.is_sound.ensures.few
