use Rattle.std.proofs.Common.{◌<◌, length, subst, arith}
use Rattle.zw_consts.proofs.LookUpLemmas.{unscoped-told, scoped-told}
use Rattle.zw_consts.proofs.law.tells_walk.Goals as goal

pub returns-clause-unscoped : goal.returns-clause-unscoped
returns-clause-unscoped c = λ I names w ns fit agrees within.
    unscoped-told I c.args.heap.now w c.is_sound.ensures.sound agrees c.is_sound.ensures.few (c.tells_core.ensures.modules I names 0 fit (omega arith)) ns
    (subst (λ n. n < length c.args.heap.now.modules) c.core.ensures.number c.core.ensures.held) within

pub returns-clause-scoped : goal.returns-clause-scoped
returns-clause-scoped c = λ I names w n fit agrees lt.
    scoped-told I c.args.heap.now w c.is_sound.ensures.sound agrees c.is_sound.ensures.few (c.tells_core.ensures.modules I names 0 fit (omega arith)) n
    (c.tells_core.ensures.modules I names 1 fit (omega arith)) lt
