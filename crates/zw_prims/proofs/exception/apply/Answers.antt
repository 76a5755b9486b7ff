use Rattle.std.proofs.Common.{map}
use Rattle.zw_def_world.specs.Argument.{exception_arguments}
use Rattle.zw_def_world.specs.ObjectRows.{exception_act}
use Rattle.zw_heap.specs.Telling.{tell}
use Rattle.zw_heap.specs.declared.value.Value.TheVariants as v
use Rattle.zw_calls.specs.ExceptionRow.{exception_row_seen}
use Rattle.zw_prims.proofs.DoesLemmas.{does_refused, does_passed}
use Rattle.zw_prims.proofs.exception.apply.Goals as goal

pub returns-in-Some-clause-does : goal.returns-in-Some-clause-does
returns-in-Some-clause-does c =
    let row = (exception_row_seen c.args.row).1 in
    let receiver = v.Object c.args.object in
    does_refused c.args.names.now c.args.heap.now (exception_arguments row) receiver c.args.args.now c.in_ok-raise.field-0 _ c.arguments.ensures c.in_ok-raise.ensures
    (λ s I. exception_act s row (tell I receiver) (map (tell I) c.args.args.now)) c.args.meter.now.left c.in-Some.raise c.in-Some.is

pub returns-clause-does : goal.returns-clause-does
returns-clause-does c =
    let row = (exception_row_seen c.args.row).1 in
    let receiver = v.Object c.args.object in
    does_passed c.args.names.now c.args.heap.now (exception_arguments row) receiver c.args.args.now c.in_ok-raise.field-0 _ c.arguments.ensures c.in_ok-raise.ensures
    (λ s I. exception_act s row (tell I receiver) (map (tell I) c.args.args.now)) c.act.new.heap c.args.meter.now.left c.act.new.meter.left c.act.result
    c.in_default.is c.act.ensures.only_adds c.act.ensures.does
