use Rattle.std.proofs.Common.{ap}
use Rattle.zw_heap.specs.declared.value.Value.TheVariants as v
use Rattle.zw_show.specs.IsTold.{inspect_of, built_in_of}
use Rattle.zw_calls.specs.ExceptionRow.{exception_row_seen}
use Rattle.zw_prims.proofs.ExceptionLemmas.{initialize_arm, message_arm, inspect_arm}
use Rattle.zw_prims.proofs.exception.act.Goals as goal

pub returns-in-Initialize-clause-does : goal.returns-in-Initialize-clause-does
returns-in-Initialize-clause-does c =
    initialize_arm c.args.heap.now c.initialize.new.heap c.args.names.now c.args.meter.now.left c.args.row c.args.object c.args.args.now c.in-Initialize.is
    c.initialize.result (c.initialize.ensures.does c.args.meter.now.left)

pub returns-in-Message-clause-does : goal.returns-in-Message-clause-does
returns-in-Message-clause-does c =
    message_arm c.args.heap.now c.made.new.heap c.args.names.now c.args.meter.now.left c.made.new.meter.left c.args.row c.args.object c.args.args.now
    (ap (λ k. (exception_row_seen k).1) c.in-Message.is) c.requires.exception c.is_sound.ensures.sound c.tells_exceptions.ensures c.made.ensures.adds c.made.result
    (c.made.ensures.performs c.args.names.now (built_in_of (v.Object c.args.object)) c.to_text.ensures.told c.to_text.ensures.refused)

pub returns-in-ToS-clause-does : goal.returns-in-ToS-clause-does
returns-in-ToS-clause-does c =
    message_arm c.args.heap.now c.made-in-ToS.new.heap c.args.names.now c.args.meter.now.left c.made-in-ToS.new.meter.left c.args.row c.args.object c.args.args.now
    (ap (λ k. (exception_row_seen k).1) c.in-ToS.is) c.requires.exception c.is_sound.ensures.sound c.tells_exceptions.ensures c.made-in-ToS.ensures.adds c.made-in-ToS.result
    (c.made-in-ToS.ensures.performs c.args.names.now (built_in_of (v.Object c.args.object)) c.to_text-in-ToS.ensures.told c.to_text-in-ToS.ensures.refused)

pub returns-in-Inspect-clause-does : goal.returns-in-Inspect-clause-does
returns-in-Inspect-clause-does c =
    inspect_arm c.args.heap.now c.made-in-Inspect.new.heap c.args.names.now c.args.meter.now.left c.made-in-Inspect.new.meter.left c.args.row c.args.object c.args.args.now
    c.in-Inspect.is c.made-in-Inspect.ensures.adds c.made-in-Inspect.result
    (c.made-in-Inspect.ensures.performs c.args.names.now (inspect_of (v.Object c.args.object)) c.inspect.ensures.told c.inspect.ensures.refused)
