use Rattle.std.proofs.Common.{ap, sym, ◌∙◌, arith}
use Rattle.zw_def_world.specs.CoreClass.{Class}
use Rattle.zw_def_world.specs.Id.{id_eq}
use Rattle.zw_heap.specs.declared.value.ModuleKind.TheVariants as k
use Rattle.zw_told.proofs.NameLemmas.{module_told}
use Rattle.zw_ops.specs.Open.{is_below_class}
use Rattle.zw_ops.proofs.open.is_below_class.Goals as goal

pub returns : goal.returns
returns c = λ I names fit.
    ap (λ kind. is_below_class kind I) (c.in-Class.is ∙ ap k.Class c.in-Some.is)
    ∙ ap (id_eq (I.module_id c.in-Some.superclass.0)) (sym (ap I.module_id c.core.ensures.number ∙ c.tells_core.ensures.modules I names Class.count fit (omega arith)))
    ∙ module_told I c.in-Some.superclass.0 c.core.result.0
