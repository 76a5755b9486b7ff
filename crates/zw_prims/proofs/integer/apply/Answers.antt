use Rattle.std.proofs.Common.{map, FitsSigned}
use Rattle.std.specs.Int.{w64}
use Rattle.std.proofs.lemmas.Int.{to_z-of_z}
use Rattle.zw_def_world.specs.Argument.{integer_arguments}
use Rattle.zw_def_world.specs.IntegerRows.{integer_act}
use Rattle.zw_heap.specs.Telling.{tell}
use Rattle.zw_heap.specs.declared.value.Value.TheVariants as v
use Rattle.zw_calls.specs.IntegerRow.{integer_row_seen}
use Rattle.zw_calls.proofs.CallLemmas.{refused, passed}
use Rattle.zw_prims.proofs.integer.apply.Goals as goal

pub returns-in-Some-clause-performs : goal.returns-in-Some-clause-performs
returns-in-Some-clause-performs c =
    let row = (integer_row_seen c.args.row).1 in
    let receiver = v.Int c.args.number in
    let fits_number : FitsSigned w64 c.args.number = c.ranges.number in
    refused c.args.names.now c.args.heap.now (integer_arguments row) receiver c.args.args.now c.in_ok-raise.field-0 _ c.arguments.ensures (simp to_z-of_z at c.in_ok-raise.ensures)
    (λ s I. integer_act s row (tell I receiver) (map (tell I) c.args.args.now)) c.args.meter.now.left c.in-Some.raise c.in-Some.is

pub returns-clause-performs : goal.returns-clause-performs
returns-clause-performs c =
    let row = (integer_row_seen c.args.row).1 in
    let receiver = v.Int c.args.number in
    let fits_number : FitsSigned w64 c.args.number = c.ranges.number in
    passed c.args.names.now c.args.heap.now (integer_arguments row) receiver c.args.args.now c.in_ok-raise.field-0 _ c.arguments.ensures (simp to_z-of_z at c.in_ok-raise.ensures)
    (λ s I. integer_act s row (tell I receiver) (map (tell I) c.args.args.now)) c.act.new.heap c.args.meter.now.left c.act.new.meter.left c.act.result
    c.in_default.is c.act.ensures.adds (simp to_z-of_z at (c.act.ensures.performs c.args.names.now))
