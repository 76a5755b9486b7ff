use Rattle.zw_methods.proofs.LineLemmas.{line-held, line-told}
use Rattle.zw_methods.proofs.law.tells_line.Goals as goal

pub returns-clause-held : goal.returns-clause-held
returns-clause-held c = λ x within. line-held c.args.heap.now c.is_sound.ensures.sound c.tells_ancestors.ensures.held c.tells_superclasses.ensures.held x within

pub returns-clause-line : goal.returns-clause-line
returns-clause-line c = λ I names w x fit agrees within.
    line-told I c.args.heap.now w c.is_sound.ensures.sound agrees (λ n lt. c.tells_core.ensures.modules I names n fit lt)
    (λ n lt. c.tells_ancestors.ensures.line I names w n fit agrees lt) (λ n lt. c.tells_superclasses.ensures.line I names w n fit agrees lt) c.tells_superclasses.ensures.held x within
