use Rattle.std.proofs.Common.{[], map}
use Rattle.zw_def_world.specs.Argument.{takes}
use Rattle.zw_def_world.specs.ModuleRows.{module_act}
use Rattle.zw_def_world.specs.Row.{module_name}
use Rattle.zw_heap.specs.Telling.{tell}
use Rattle.zw_heap.specs.declared.value.Value.TheVariants as v
use Rattle.zw_show.specs.IsTold.{inspect_of}
use Rattle.zw_calls.proofs.CallLemmas.{refused, passed}
use Rattle.zw_prims.proofs.module.apply.Goals as goal

pub returns-in-Some-clause-performs : goal.returns-in-Some-clause-performs
returns-in-Some-clause-performs c =
    let receiver = v.Module c.args.of in
    refused c.args.names.now c.args.heap.now (takes []) receiver c.args.args.now c.in_ok-raise.field-0 _ c.of-arguments.ensures c.in_ok-raise.ensures
    (λ s I. module_act s module_name (tell I receiver) (map (tell I) c.args.args.now)) c.args.meter.now.left c.in-Some.raise c.in-Some.is

pub returns-clause-performs : goal.returns-clause-performs
returns-clause-performs c =
    let receiver = v.Module c.args.of in
    passed c.args.names.now c.args.heap.now (takes []) receiver c.args.args.now c.in_ok-raise.field-0 _ c.of-arguments.ensures c.in_ok-raise.ensures
    (λ s I. module_act s module_name (tell I receiver) (map (tell I) c.args.args.now)) c.made.new.heap c.args.meter.now.left c.made.new.meter.left c.made.result
    c.in_default.is c.made.ensures.adds
    (c.made.ensures.performs c.args.names.now (inspect_of receiver) c.inspect-path.ensures.told c.inspect-path.ensures.refused)
