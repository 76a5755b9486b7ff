use Rattle.std.proofs.Common.{ap, ◌∙◌, refl}
use Rattle.zw_def_world.specs.Equality.{among}
use Rattle.zw_def_world.specs.Site.{yes_or_no}
use Rattle.zw_def_world.specs.Value.{items_in}
use Rattle.zw_heap.specs.Telling.{tell}
use Rattle.zw_heap.specs.declared.value.Value.TheVariants as v
use Rattle.zw_calls.proofs.PerformLemmas.{at_once}
use Rattle.zw_arrays.specs.Answer.{answer_seen}
use Rattle.zw_arrays.proofs.ArrayLemmas.{goes_on}
use Rattle.zw_arrays.proofs.array_read.includes.Goals as goal

pub returns-in-Some-clause-performs : goal.returns-in-Some-clause-performs
returns-in-Some-clause-performs c = λ names.
    let h = c.args.heap.now in
    let later = c.is_among.new.meter.left in
    let found = c.in-Some.found in
    goes_on h names c.args.meter.now.left later later (λ I. among (tell I c.args.value) (items_in (tell I (v.Array c.args.array)))) (λ I. yes_or_no found)
    (λ I p fit agrees e.
    ap (λ us. among (tell I c.args.value) us p) (c.items.ensures.told I names fit)
    ∙ c.is_among.ensures.told I names p fit e
    ∙ ap (λ a. answer_seen a (record p { left = later })) c.in-Some.is)
    c.yes_or_no.result (at_once h names later (λ I. yes_or_no found) (λ s I. yes_or_no found) (λ s I. refl) c.yes_or_no.result c.yes_or_no.ensures)

pub returns-in-None-clause-performs : goal.returns-in-None-clause-performs
returns-in-None-clause-performs c = λ names. record {
  told = λ s I p fit agrees e.
      ap (λ us. among (tell I c.args.value) us p) (c.items.ensures.told I names fit)
      ∙ c.is_among.ensures.told I names p fit e
      ∙ ap (λ a. answer_seen a (record p { left = c.is_among.new.meter.left })) c.in-None.is;
  held = tt;
  done = tt;
}
