use Rattle.std.proofs.Common.{[], map, string_bytes, ap, sym}
use Rattle.zw_def_world.specs.Act.{gives}
use Rattle.zw_def_world.specs.Making.{makes_text}
use Rattle.zw_def_world.specs.StringRows.{makes_pieces}
use Rattle.zw_def_world.specs.Value as told
use Rattle.zw_strings.specs.declared.work.Work.TheVariants as w
use Rattle.zw_strings.proofs.NamingLemmas.{adds_values, grows_same}
use Rattle.zw_strings.proofs.WorkLemmas.{ended-performs, work-performs}
use Rattle.zw_strings.proofs.work.perform.Goals as goal

pub returns-in-Ended-clause-performs : goal.returns-in-Ended-clause-performs
returns-in-Ended-clause-performs c = λ call leaves.
    ended-performs call c.args.heap.now c.args.names.now c.args.meter.now.left c.args.work c.in-Ended.end c.in-Ended.is leaves

pub returns-in-Text-clause-adds : goal.returns-in-Text-clause-adds
returns-in-Text-clause-adds c = adds_values c.args.heap.now c.text.new.heap c.text.ensures.adds

pub returns-in-Text-clause-performs : goal.returns-in-Text-clause-performs
returns-in-Text-clause-performs c = λ call leaves.
    work-performs call (λ s I. makes_text c.as_str.result.now) c.args.heap.now c.text.new.heap c.args.names.now c.args.names.now c.args.meter.now.left c.text.new.meter.left
    c.args.work (w.Text c.in-Text.made) c.in-Text.is leaves (λ s I. ap makes_text (sym c.as_str.ensures.value)) c.text.ensures.adds.adds (grows_same c.args.names.now) c.text.result (c.text.ensures.performs c.args.names.now)

pub returns-in-Texts-clause-adds : goal.returns-in-Texts-clause-adds
returns-in-Texts-clause-adds c = adds_values c.args.heap.now c.array_of_texts.new.heap c.array_of_texts.ensures.adds

pub returns-in-Texts-clause-performs : goal.returns-in-Texts-clause-performs
returns-in-Texts-clause-performs c = λ call leaves.
    work-performs call (λ s I. makes_pieces [] (map string_bytes c.deref.result.now)) c.args.heap.now c.array_of_texts.new.heap c.args.names.now c.args.names.now c.args.meter.now.left c.array_of_texts.new.meter.left
    c.args.work (w.Texts c.in-Texts.made) c.in-Texts.is leaves (λ s I. ap (λ ts. makes_pieces [] (map string_bytes ts)) (sym c.deref.ensures.value)) c.array_of_texts.ensures.adds.adds (grows_same c.args.names.now) c.array_of_texts.result (c.array_of_texts.ensures.performs c.args.names.now)

pub returns-in-Symbol-clause-performs : goal.returns-in-Symbol-clause-performs
returns-in-Symbol-clause-performs c = λ call leaves.
    work-performs call (λ s I. gives (told.symbol c.as_str-in-Symbol.result.now)) c.args.heap.now c.symbol.new.heap c.args.names.now c.symbol.new.names c.args.meter.now.left c.args.meter.now.left
    c.args.work (w.Symbol c.in-Symbol.name) c.in-Symbol.is leaves (λ s I. ap (λ u. gives (told.symbol u)) (sym c.as_str-in-Symbol.ensures.value)) c.symbol.ensures.adds.adds c.symbol.ensures.grows c.symbol.result (c.symbol.ensures.performs c.args.meter.now.left)
