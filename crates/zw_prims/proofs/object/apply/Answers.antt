use Rattle.std.proofs.Common.{[], map, Result, Ok, refl}
use Rattle.std.specs.declared.alloc.AllocError.{AllocError}
use Rattle.zw_def_world.specs.Act.{Act, gives}
use Rattle.zw_def_world.specs.Argument.{takes}
use Rattle.zw_def_world.specs.ObjectRows.{object_act}
use Rattle.zw_def_world.specs.Row.{object_initialize}
use Rattle.zw_def_world.specs.Site.{Site}
use Rattle.zw_def_world.specs.Value as told
use Rattle.zw_heap.specs.Telling.{Telling, tell}
use Rattle.zw_heap.specs.declared.value.Value.TheVariants as v
use Rattle.zw_calls.specs.declared.end.PrimEnd.{PrimEnd}
use Rattle.zw_calls.specs.declared.end.PrimEnd.TheVariants as e
use Rattle.zw_calls.proofs.CallLemmas.{refused, passed}
use Rattle.zw_calls.proofs.PerformLemmas.{at_once}
use Rattle.zw_prims.proofs.EndLemmas.{adds_none}
use Rattle.zw_prims.proofs.object.apply.Goals as goal

pub returns-in-Some : goal.returns-in-Some
returns-in-Some c = λ left.
    refused c.args.names.now c.args.heap.now (takes []) c.args.receiver c.args.args.now c.in_ok-raise.field-0 _ c.of-arguments.ensures c.in_ok-raise.ensures
    (λ s I. object_act s object_initialize (tell I c.args.receiver) (map (tell I) c.args.args.now)) left c.in-Some.raise c.in-Some.is

pub returns : goal.returns
returns c = λ left.
    let end : Result PrimEnd AllocError = Ok (e.Value v.Nil) in
    let call : Site → Telling → Act = λ s I. object_act s object_initialize (tell I c.args.receiver) (map (tell I) c.args.args.now) in
    passed c.args.names.now c.args.heap.now (takes []) c.args.receiver c.args.args.now c.in_ok-raise.field-0 _ c.of-arguments.ensures c.in_ok-raise.ensures
    call c.args.heap.now left left end c.in_default.is (adds_none c.args.heap.now)
    (at_once c.args.heap.now c.args.names.now left (λ I. gives told.nil) call (λ s I. refl) (e.Value v.Nil) (record { told = λ I call. refl; held = λ s. tt; done = tt }))
