use Rattle.std.proofs.Common.{refl}
use Rattle.zw_heap.specs.Heap.{sizes_of}
use Rattle.zw_calls.specs.declared.kernel_row.KernelRow.TheVariants as r
use Rattle.zw_show.specs.IsTold.{inspect_of, built_in_of}
use Rattle.zw_prims.proofs.KernelLemmas.{as_row, equal_arm, frozen_arm, instance_arm, nil_arm, not_marked}
use Rattle.zw_prims.proofs.kernel.act.Goals as goal

pub unreachable-requires : goal.unreachable-requires
unreachable-requires c =
    not_marked c.args.row c.requires.here c.in_default.not-Class c.in_default.not-IsNil c.in_default.not-Equal c.in_default.not-IsSame c.in_default.not-IsInstanceOf c.in_default.not-ToS c.in_default.not-Inspect c.in_default.not-IsFrozen

pub returns-in-IsInstanceOf-clause-performs : goal.returns-in-IsInstanceOf-clause-performs
returns-in-IsInstanceOf-clause-performs c =
    instance_arm c.args.heap.now c.args.names.now c.args.meter.now.left c.args.row c.args.receiver c.args.args.now c.in-IsInstanceOf.is c.requires.passed
    c.first-other.result c.first-other.ensures.told c.is_instance.result c.is_instance.ensures c.yes_or_no-in-IsInstanceOf.result c.yes_or_no-in-IsInstanceOf.ensures

pub returns-in-ToS-clause-performs : goal.returns-in-ToS-clause-performs
returns-in-ToS-clause-performs c =
    as_row c.args.heap.now c.args.names.now c.args.meter.now.left c.args.row c.args.receiver c.args.args.now c.made.new.heap c.made.new.meter.left r.ToS c.in-ToS.is c.made.result
    (c.made.ensures.performs c.args.names.now (built_in_of c.args.receiver) c.to_text.ensures.told c.to_text.ensures.refused)

pub returns-in-Inspect-clause-performs : goal.returns-in-Inspect-clause-performs
returns-in-Inspect-clause-performs c =
    as_row c.args.heap.now c.args.names.now c.args.meter.now.left c.args.row c.args.receiver c.args.args.now c.made-in-Inspect.new.heap c.made-in-Inspect.new.meter.left r.Inspect c.in-Inspect.is c.made-in-Inspect.result
    (c.made-in-Inspect.ensures.performs c.args.names.now (inspect_of c.args.receiver) c.inspect.ensures.told c.inspect.ensures.refused)

pub returns-in-IsFrozen-clause-performs : goal.returns-in-IsFrozen-clause-performs
returns-in-IsFrozen-clause-performs c =
    frozen_arm c.args.heap.now c.args.names.now c.args.meter.now.left c.args.row c.args.receiver c.args.args.now c.in-IsFrozen.is
    c.is_frozen.result c.is_frozen.ensures c.yes_or_no-in-IsFrozen.result c.yes_or_no-in-IsFrozen.ensures

pub returns-in-IsNil-clause-performs : goal.returns-in-IsNil-clause-performs
returns-in-IsNil-clause-performs c =
    nil_arm c.args.heap.now c.args.names.now c.args.meter.now.left c.args.row c.args.receiver c.args.args.now c.in-IsNil.is
    c.is_nil.result c.is_nil.ensures c.yes_or_no.result c.yes_or_no.ensures

pub equal-requires-clause-other : goal.equal-requires-clause-other
equal-requires-clause-other c = c.first-other.ensures.held (sizes_of c.args.heap.now) c.requires.arguments

pub equal-requires-in-IsSame-clause-other : goal.equal-requires-in-IsSame-clause-other
equal-requires-in-IsSame-clause-other c = c.first-other.ensures.held (sizes_of c.args.heap.now) c.requires.arguments

pub returns-in-Equal-clause-performs : goal.returns-in-Equal-clause-performs
returns-in-Equal-clause-performs c =
    equal_arm c.args.heap.now c.args.names.now c.args.meter.now.left c.args.row c.args.receiver c.args.args.now c.equal.new.meter.left r.Equal c.in-Equal.is refl
    c.first-other.result c.first-other.ensures.told c.equal.result (c.equal.ensures.performs c.args.names.now)

pub returns-in-IsSame-clause-performs : goal.returns-in-IsSame-clause-performs
returns-in-IsSame-clause-performs c =
    equal_arm c.args.heap.now c.args.names.now c.args.meter.now.left c.args.row c.args.receiver c.args.args.now c.equal-in-IsSame.new.meter.left r.IsSame c.in-IsSame.is refl
    c.first-other.result c.first-other.ensures.told c.equal-in-IsSame.result (c.equal-in-IsSame.ensures.performs c.args.names.now)
