use Rattle.zw_heap.specs.ModuleRecord.{frozen_module}
use Rattle.zw_heap.proofs.ListLemmas.{mapped-more, mapped-ended}
use Rattle.zw_heap.proofs.boot.freeze_modules.Goals as goal

pub loop-record-preserved : goal.loop-record-preserved
loop-record-preserved c =
    mapped-more frozen_module c.loop-record.record-index c.args.modules.now c.loop-record.modules c.record-item.result
    c.freeze.new.self c.loop-record.invariant c.loop-record-test.true c.freeze.ensures

pub returns : goal.returns
returns c =
    mapped-ended frozen_module c.loop-record.record-index c.args.modules.now c.loop-record.modules c.loop-record.invariant
    c.loop-record-test.false c.loop-record.auto.record-index-end
