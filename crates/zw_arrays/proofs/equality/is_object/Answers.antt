use Rattle.std.proofs.Common.{ap, ◌∙◌}
use Rattle.zw_def_world.specs.Equality.{is_same}
use Rattle.zw_heap.specs.Telling.{tell}
use Rattle.zw_heap.specs.declared.value.Value.TheVariants as v
use Rattle.zw_arrays.proofs.EqualityLemmas.{ids-same}
use Rattle.zw_arrays.proofs.equality.is_object.Goals as goal

pub returns : goal.returns
returns c = λ I.
    ap (λ o. is_same (tell I (v.Object c.args.object)) (tell I o)) c.in-Object.is
    ∙ ids-same I.object_id I.objects_differ c.args.object.0 c.in-Object.other.0
