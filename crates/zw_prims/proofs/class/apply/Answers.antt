use Rattle.std.proofs.Common.{[], map, Result, Ok}
use Rattle.std.specs.declared.alloc.AllocError.{AllocError}
use Rattle.zw_def_world.specs.Argument.{takes}
use Rattle.zw_def_world.specs.ObjectRows.{class_act}
use Rattle.zw_def_world.specs.Row.{class_superclass}
use Rattle.zw_heap.specs.Telling.{tell}
use Rattle.zw_heap.specs.declared.value.Value.TheVariants as v
use Rattle.zw_calls.specs.declared.end.PrimEnd.{PrimEnd}
use Rattle.zw_calls.proofs.CallLemmas.{refused, passed}
use Rattle.zw_prims.proofs.EndLemmas.{adds_none}
use Rattle.zw_prims.proofs.class.apply.Goals as goal

pub returns-in-Some : goal.returns-in-Some
returns-in-Some c = λ left.
    let receiver = v.Module c.args.class in
    refused c.args.names.now c.args.heap.now (takes []) receiver c.args.args.now c.in_ok-raise.field-0 _ c.of-arguments.ensures c.in_ok-raise.ensures
    (λ s I. class_act s class_superclass (tell I receiver) (map (tell I) c.args.args.now)) left c.in-Some.raise c.in-Some.is

pub returns : goal.returns
returns c = λ left.
    let receiver = v.Module c.args.class in
    let end : Result PrimEnd AllocError = Ok c.superclass.result in
    passed c.args.names.now c.args.heap.now (takes []) receiver c.args.args.now c.in_ok-raise.field-0 _ c.of-arguments.ensures c.in_ok-raise.ensures
    (λ s I. class_act s class_superclass (tell I receiver) (map (tell I) c.args.args.now)) c.args.heap.now left left end c.in_default.is
    (adds_none c.args.heap.now) (c.superclass.ensures c.args.names.now left c.args.args.now)
