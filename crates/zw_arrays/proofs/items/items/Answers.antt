use Rattle.zw_arrays.proofs.ItemLemmas.{items-told, are_items}
use Rattle.zw_arrays.proofs.items.items.Goals as goal

pub returns-clause-told : goal.returns-clause-told
returns-clause-told c = λ I names fit. items-told I names c.args.heap.now c.args.array.0 c.items.result.now fit c.items.ensures.items

pub returns-clause-held : goal.returns-clause-held
returns-clause-held c = are_items c.args.heap.now c.args.array.0 c.items.result.now c.is_sound.ensures.sound c.items.ensures.items
