use Rattle.std.proofs.Common.{map}
use Rattle.zw_def_world.specs.Argument.{nil_arguments}
use Rattle.zw_def_world.specs.IntegerRows.{nil_act}
use Rattle.zw_heap.specs.Telling.{tell}
use Rattle.zw_heap.specs.declared.value.Value.TheVariants as v
use Rattle.zw_calls.specs.NilRow.{nil_row_seen}
use Rattle.zw_calls.proofs.CallLemmas.{refused, passed}
use Rattle.zw_prims.proofs.nil.apply.Goals as goal

pub returns-in-Some-clause-performs : goal.returns-in-Some-clause-performs
returns-in-Some-clause-performs c =
    let row = (nil_row_seen c.args.row).1 in
    let receiver = v.Nil in
    refused c.args.names.now c.args.heap.now (nil_arguments row) receiver c.args.args.now c.in_ok-raise.field-0 _ c.of-arguments.ensures (c.in_ok-raise.ensures)
    (λ s I. nil_act s row (tell I receiver) (map (tell I) c.args.args.now)) c.args.meter.now.left c.in-Some.raise c.in-Some.is

pub returns-clause-performs : goal.returns-clause-performs
returns-clause-performs c =
    let row = (nil_row_seen c.args.row).1 in
    let receiver = v.Nil in
    passed c.args.names.now c.args.heap.now (nil_arguments row) receiver c.args.args.now c.in_ok-raise.field-0 _ c.of-arguments.ensures (c.in_ok-raise.ensures)
    (λ s I. nil_act s row (tell I receiver) (map (tell I) c.args.args.now)) c.act.new.heap c.args.meter.now.left c.act.new.meter.left c.act.result
    c.in_default.is c.act.ensures.adds (c.act.ensures.performs c.args.names.now)
