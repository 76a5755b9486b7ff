use Rattle.std.proofs.Common.{◌≡◌, reverse, map, ap, ◌∙◌}
use Rattle.zw_def_world.specs.Making.{makes_array}
use Rattle.zw_def_world.specs.Value.{items_in}
use Rattle.zw_heap.specs.Telling.{tell}
use Rattle.zw_heap.specs.declared.value.Value.TheVariants as v
use Rattle.zw_arrays.proofs.ArrayLemmas.{all_fitting, reversed-is}
use Rattle.zw_arrays.proofs.array_parts.reversed.Goals as goal

pub returns-clause-performs : goal.returns-clause-performs
returns-clause-performs c = λ names.
    let g = c.array_of.new.heap in
    let made = c.as_slice.result.now in
    let all : made ≡ reverse c.items.result.now = c.as_slice.ensures.value ∙ c.reverse.ensures.items ∙ ap reverse c.in_ok-reversed.ensures.items in
    all_fitting g names c.args.meter.now.left c.array_of.new.meter.left (λ I. makes_array (reverse (items_in (tell I (v.Array c.args.array))))) (λ I. makes_array (map (tell I) made))
    (λ I fit. let old = c.array_of.ensures.adds.adds I names fit in ap makes_array (reversed-is (tell I) (items_in (tell I (v.Array c.args.array))) c.items.result.now (c.items.ensures.told I names old) made all)) c.array_of.result (c.array_of.ensures.performs names)
