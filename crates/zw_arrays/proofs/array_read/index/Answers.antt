use Rattle.std.proofs.Common.{pos, Some, ap, ◌∙◌, refl}
use Rattle.zw_def_world.specs.Act.{gives}
use Rattle.zw_def_world.specs.ArrayRows.{index_from}
use Rattle.zw_def_world.specs.Value.{int, items_in}
use Rattle.zw_heap.specs.Telling.{tell}
use Rattle.zw_heap.specs.declared.value.Value.TheVariants as v
use Rattle.zw_calls.proofs.PerformLemmas.{all_at_once}
use Rattle.zw_arrays.specs.Answer.{place_seen}
use Rattle.zw_arrays.proofs.ArrayLemmas.{all_go_on}
use Rattle.zw_arrays.proofs.array_read.index.Goals as goal

pub returns-in-Some-Some-clause-performs : goal.returns-in-Some-Some-clause-performs
returns-in-Some-Some-clause-performs c = λ names.
    let h = c.args.heap.now in
    let later = c.position.new.meter.left in
    let n = c.in-Some-Some.place in
    all_go_on h names c.args.meter.now.left later later (λ I. index_from 0 (tell I c.args.value) (items_in (tell I (v.Array c.args.array)))) (λ I. gives (int (pos n)))
    (λ I p fit agrees e.
    ap (λ us. index_from 0 (tell I c.args.value) us p) (c.items.ensures.told I names fit)
    ∙ c.position.ensures.told I names p fit e
    ∙ ap (λ a. place_seen a (record p { left = later })) (c.in-Some-Some.is ∙ ap Some c.in-Some-Some.field-0-is))
    c.count.result (all_at_once h names later (λ I. gives (int (pos n))) (λ s I. gives (int (pos n))) (λ s I. refl) c.count.result c.count.ensures)

pub returns-in-Some-None-clause-performs : goal.returns-in-Some-None-clause-performs
returns-in-Some-None-clause-performs c = λ names. record {
  told = λ s I p fit agrees e.
      ap (λ us. index_from 0 (tell I c.args.value) us p) (c.items.ensures.told I names fit)
      ∙ c.position.ensures.told I names p fit e
      ∙ ap (λ a. place_seen a (record p { left = c.position.new.meter.left })) (c.in-Some-None.is ∙ ap Some c.in-Some-None.field-0-is);
  held = tt;
  done = tt;
}

pub returns-in-None-clause-performs : goal.returns-in-None-clause-performs
returns-in-None-clause-performs c = λ names. record {
  told = λ s I p fit agrees e.
      ap (λ us. index_from 0 (tell I c.args.value) us p) (c.items.ensures.told I names fit)
      ∙ c.position.ensures.told I names p fit e
      ∙ ap (λ a. place_seen a (record p { left = c.position.new.meter.left })) c.in-None.is;
  held = tt;
  done = tt;
}
