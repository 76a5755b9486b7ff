use Rattle.std.proofs.Common.{refl}
use Rattle.zw_def.proofs.NameLemmas.{OnlyGrows-trans}
use Rattle.zw_heap.proofs.CoreLemmas.{record_pushed, classes, map-classes}
use Rattle.zw_heap.proofs.new_heap.core_modules.Goals as goal

pub returns-in_err-push-clause-grows : goal.returns-in_err-push-clause-grows
returns-in_err-push-clause-grows c = OnlyGrows-trans _ _ _ c.loop-class.invariant.grows c.in_ok-record_of.ensures.grows

pub loop-class-preserved : goal.loop-class-preserved
loop-class-preserved c =
    let more = record_pushed c.loop-class.names c.record_of.new.names c.loop-class.modules.items c.push.new.self.items c.in_ok-record_of.field-0 classes c.loop-class.class-index _ _
    c.in_ok-record_of.ensures.grows c.loop-class.invariant.named c.loop-class.invariant.told c.in_ok-record_of.ensures.told c.in_ok-record_of.ensures.named map-classes
    c.loop-class-test.true refl c.in_ok-push.ensures.items in
    record { told = more.0; named = more.1; grows = OnlyGrows-trans _ _ _ c.loop-class.invariant.grows c.in_ok-record_of.ensures.grows }
