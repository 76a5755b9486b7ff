use Rattle.std.proofs.Common.{ap}
use Rattle.zw_def_world.specs.Value as told
use Rattle.zw_calls.proofs.MakingLemmas.{text_adds, text_made-told}
use Rattle.zw_calls.proofs.making.new_text.Goals as goal

pub returns-in-Ok-clause-adds : goal.returns-in-Ok-clause-adds
returns-in-Ok-clause-adds c = text_adds c.args.text.now c.args.heap.now c.make_text.new.self c.in-Ok.ensures.made c.only_adds.ensures c.in-Ok.ensures.stays

pub returns-in-Ok-clause-told : goal.returns-in-Ok-clause-told
returns-in-Ok-clause-told c = λ I names fit.
    ap told.text (text_made-told I names c.args.text.now c.args.heap.now c.make_text.new.self c.in-Ok.made.0 c.in-Ok.ensures.made c.in-Ok.ensures.number fit)
