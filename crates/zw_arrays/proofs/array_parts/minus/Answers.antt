use Rattle.std.proofs.Common.{[], map, ap, ◌∙◌, sym}
use Rattle.zw_def_world.specs.ArrayRows.{without_items}
use Rattle.zw_def_world.specs.Making.{makes_array}
use Rattle.zw_def_world.specs.Value.{items_in}
use Rattle.zw_heap.specs.Telling.{tell}
use Rattle.zw_heap.specs.declared.value.Value.TheVariants as v
use Rattle.zw_arrays.specs.Answer.{kept_seen}
use Rattle.zw_arrays.proofs.ArrayLemmas.{all_go_on}
use Rattle.zw_arrays.proofs.array_parts.minus.Goals as goal

pub returns-in_default-clause-performs : goal.returns-in_default-clause-performs
returns-in_default-clause-performs c = λ names. record {
  told = λ s I p fit agrees e.
      (λ j. without_items (c.items_of-others.ensures.told I names fit j) [] (c.items.ensures.told I names fit j) p)
      ∙ c.in_ok-kept.ensures.told I names p fit e
      ∙ ap (λ k. kept_seen k I (record p { left = c.without_items.new.meter.left })) c.in_default.is;
  held = tt;
  done = tt;
}

pub returns-clause-performs : goal.returns-clause-performs
returns-clause-performs c = λ names.
    let g = c.array_of.new.heap in
    let made = c.as_slice.result.now in
    let middle = c.without_items.new.meter.left in
    all_go_on g names c.args.meter.now.left middle c.array_of.new.meter.left (λ I. without_items (items_in (tell I c.args.other)) [] (items_in (tell I (v.Array c.args.array)))) (λ I. makes_array (map (tell I) made))
    (λ I p fit agrees e.
    let old = c.array_of.ensures.adds.adds I names fit in
    (λ j. without_items (c.items_of-others.ensures.told I names old j) [] (c.items.ensures.told I names old j) p)
    ∙ c.in_ok-kept.ensures.told I names p old e
    ∙ ap (λ k. kept_seen k I (record p { left = middle })) c.in-Some.is
    ∙ ap (λ xs. makes_array (map (tell I) xs) (record p { left = middle })) (sym c.as_slice.ensures.value)) c.array_of.result (c.array_of.ensures.performs names)
