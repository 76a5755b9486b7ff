use Rattle.zw_heap.specs.ObjectRecord.{frozen_object}
use Rattle.zw_heap.proofs.ListLemmas.{mapped-more, mapped-ended}
use Rattle.zw_heap.proofs.boot.freeze_objects.Goals as goal

pub loop-record-preserved : goal.loop-record-preserved
loop-record-preserved c =
    mapped-more frozen_object c.loop-record.record-index c.args.objects.now c.loop-record.objects c.record-item.result
    c.freeze.new.self c.loop-record.invariant c.loop-record-test.true c.freeze.ensures

pub returns : goal.returns
returns c =
    mapped-ended frozen_object c.loop-record.record-index c.args.objects.now c.loop-record.objects c.loop-record.invariant
    c.loop-record-test.false c.loop-record.auto.record-index-end
