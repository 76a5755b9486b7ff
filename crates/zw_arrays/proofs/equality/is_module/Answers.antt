use Rattle.std.proofs.Common.{ap, ◌∙◌}
use Rattle.zw_def_world.specs.Equality.{is_same}
use Rattle.zw_heap.specs.Telling.{tell}
use Rattle.zw_heap.specs.declared.value.Value.TheVariants as v
use Rattle.zw_arrays.proofs.EqualityLemmas.{ids-same}
use Rattle.zw_arrays.proofs.equality.is_module.Goals as goal

pub returns : goal.returns
returns c = λ I.
    ap (λ o. is_same (tell I (v.Module c.args.of)) (tell I o)) c.in-Module.is
    ∙ ids-same I.module_id I.modules_differ c.args.of.0 c.in-Module.other.0
