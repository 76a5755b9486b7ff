use Rattle.std.proofs.Common.{filter, map, ap, sym, subst, ◌∙◌}
use Rattle.std.specs.List.{All}
use Rattle.zw_def_world.specs.ArrayRows.{is_some_value}
use Rattle.zw_def_world.specs.Making.{makes_array}
use Rattle.zw_def_world.specs.Value.{items_in}
use Rattle.zw_heap.specs.Telling.{tell}
use Rattle.zw_heap.specs.declared.value.Value.TheVariants as v
use Rattle.zw_arrays.specs.Item.{IsItem}
use Rattle.zw_arrays.proofs.ArrayLemmas.{all_fitting}
use Rattle.zw_arrays.proofs.array_parts.compact.Goals as goal

pub returns-clause-performs : goal.returns-clause-performs
returns-clause-performs c = λ names.
    let g = c.array_of.new.heap in
    let made = c.as_slice.result.now in
    all_fitting g names c.args.meter.now.left c.array_of.new.meter.left (λ I. makes_array (filter is_some_value (items_in (tell I (v.Array c.args.array))))) (λ I. makes_array (map (tell I) made))
    (λ I fit. let old = c.array_of.ensures.adds.adds I names fit in ap makes_array (ap (filter is_some_value) (c.items.ensures.told I names old) ∙ sym (c.in_ok-some.ensures.told I) ∙ ap (map (tell I)) (sym c.as_slice.ensures.value))) c.array_of.result (c.array_of.ensures.performs names)

pub array_of-requires : goal.array_of-requires
array_of-requires c =
    let h = c.args.heap.now in
    record { items = subst (All (IsItem h)) (sym c.as_slice.ensures.value) (c.in_ok-some.ensures.items h c.items.ensures.held) }
