use Rattle.zw_heap.specs.Telling.{tell}
use Rattle.zw_prims.proofs.AgreeLemmas.{instance-told}
use Rattle.zw_prims.proofs.kernel.is_instance.Goals as goal

pub returns-in-Module : goal.returns-in-Module
returns-in-Module c = λ I names w id fit agrees is.
    instance-told I w (tell I c.args.value) c.class_of.result.0 c.args.class c.in-Module.class id (c.class_of.ensures.told I names w fit agrees) c.in-Module.is is
