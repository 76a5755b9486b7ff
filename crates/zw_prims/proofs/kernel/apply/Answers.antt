use Rattle.std.proofs.Common.{map}
use Rattle.zw_def_world.specs.Argument.{kernel_arguments}
use Rattle.zw_def_world.specs.KernelRows.{kernel_act}
use Rattle.zw_heap.specs.Telling.{tell}
use Rattle.zw_calls.specs.KernelRow.{kernel_row_seen}
use Rattle.zw_calls.proofs.CallLemmas.{refused, passed}
use Rattle.zw_prims.proofs.DoesLemmas.{passes}
use Rattle.zw_prims.proofs.kernel.apply.Goals as goal

pub returns-in-Some-clause-performs : goal.returns-in-Some-clause-performs
returns-in-Some-clause-performs c =
    let row = (kernel_row_seen c.args.row).1 in
    refused c.args.names.now c.args.heap.now (kernel_arguments row) c.args.receiver c.args.args.now c.in_ok-raise.field-0 _ c.arguments.ensures c.in_ok-raise.ensures
    (λ s I. kernel_act s row (tell I c.args.receiver) (map (tell I) c.args.args.now)) c.args.meter.now.left c.in-Some.raise c.in-Some.is

pub act-requires-clause-passed : goal.act-requires-clause-passed
act-requires-clause-passed c =
    passes c.args.names.now c.args.heap.now (kernel_arguments (kernel_row_seen c.args.row).1) c.args.receiver c.args.args.now c.in_ok-raise.field-0 _ c.arguments.ensures c.in_ok-raise.ensures c.in_default.is

pub returns-clause-performs : goal.returns-clause-performs
returns-clause-performs c =
    let row = (kernel_row_seen c.args.row).1 in
    passed c.args.names.now c.args.heap.now (kernel_arguments row) c.args.receiver c.args.args.now c.in_ok-raise.field-0 _ c.arguments.ensures c.in_ok-raise.ensures
    (λ s I. kernel_act s row (tell I c.args.receiver) (map (tell I) c.args.args.now)) c.act.new.heap c.args.meter.now.left c.act.new.meter.left c.act.result
    c.in_default.is c.act.ensures.adds c.act.ensures.performs
