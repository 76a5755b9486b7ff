use Rattle.std.proofs.Common.{◌≡◌, FitsSigned, pos, length, map, min, take, ap, ◌∙◌}
use Rattle.std.specs.Int.{w64}
use Rattle.std.proofs.lemmas.Int.{to_z-of_z}
use Rattle.zw_def_world.specs.IntegerRows.{counted}
use Rattle.zw_def_world.specs.Making.{makes_array}
use Rattle.zw_def_world.specs.Value.{items_in}
use Rattle.zw_heap.specs.Telling.{tell}
use Rattle.zw_heap.specs.declared.value.Value.TheVariants as v
use Rattle.zw_arrays.proofs.ArrayLemmas.{all_fitting, counted-is, counted-up, taken-is}
use Rattle.zw_arrays.proofs.array_parts.take.Goals as goal

pub returns-clause-performs : goal.returns-clause-performs
returns-clause-performs c = λ names.
    let g = c.array_of.new.heap in
    let made = c.as_slice.result.now in
    let xs = c.items-items.result.now in
    let n = c.in-Ok.count in
    let fits : FitsSigned w64 c.args.count = c.ranges.count in
    let tried = simp to_z-of_z at c.in-Ok.ensures in
    let is : c.args.count ≡ pos n = counted-is c.args.count n tried.0 tried.1 in
    let all : made ≡ take (min n (length xs)) xs = c.as_slice.ensures.value ∙ c.in_ok-taken.ensures.items ∙ ap (λ m. take m xs) c.min.ensures in
    all_fitting g names c.args.meter.now.left c.array_of.new.meter.left (λ I. counted (λ m. makes_array (take m (items_in (tell I (v.Array c.args.array))))) c.args.count) (λ I. makes_array (map (tell I) made))
    (λ I fit.
    let old = c.array_of.ensures.adds.adds I names fit in
    let us = items_in (tell I (v.Array c.args.array)) in
    counted-up (λ m. makes_array (take m us)) c.args.count n is
    ∙ ap makes_array (taken-is (tell I) us xs (c.items-items.ensures.told I names old) n made all)) c.array_of.result (c.array_of.ensures.performs names)
