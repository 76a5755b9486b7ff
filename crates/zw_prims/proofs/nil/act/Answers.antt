use Rattle.std.proofs.Common.{[], map, ap}
use Rattle.zw_def_world.specs.IntegerRows.{nil_act}
use Rattle.zw_def_world.specs.Making.{makes_array}
use Rattle.zw_def_world.specs.Value as told
use Rattle.zw_heap.specs.Telling.{tell}
use Rattle.zw_calls.specs.NilRow.{nil_row_seen}
use Rattle.zw_calls.proofs.PerformLemmas.{all_same}
use Rattle.zw_prims.proofs.nil.act.Goals as goal

pub returns-in-ToA-clause-performs : goal.returns-in-ToA-clause-performs
returns-in-ToA-clause-performs c = λ names.
    all_same c.flat_array.new.heap names c.args.meter.now.left c.flat_array.new.meter.left (λ s I. makes_array [])
    (λ s I. nil_act s (nil_row_seen c.args.row).1 told.nil (map (tell I) c.args.args.now))
    (λ s I. ap (λ k. nil_act s (nil_row_seen k).1 told.nil (map (tell I) c.args.args.now)) c.in-ToA.is) c.flat_array.result (c.flat_array.ensures.performs names)
