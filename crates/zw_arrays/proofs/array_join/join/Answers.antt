use Rattle.std.proofs.Common.{get_or, map, ap, ◌∙◌, sym}
use Rattle.zw_def_world.specs.Act.{read, reading}
use Rattle.zw_def_world.specs.ArrayRows.{join_texts}
use Rattle.zw_def_world.specs.Making.{makes_text}
use Rattle.zw_def_world.specs.Value as told
use Rattle.zw_heap.specs.Telling.{tell}
use Rattle.zw_heap.specs.declared.value.Value.TheVariants as v
use Rattle.zw_calls.proofs.CallLemmas.{agrees_before}
use Rattle.zw_arrays.proofs.ArrayLemmas.{all_go_on}
use Rattle.zw_arrays.proofs.array_join.join.Goals as goal

pub returns-in-Ok-clause-performs : goal.returns-in-Ok-clause-performs
returns-in-Ok-clause-performs c =
    let h = c.args.heap.now in
    let g = c.text.new.heap in
    let names = c.args.names.now in
    let left = c.args.meter.now.left in
    let made = c.as_str.result.now in
    all_go_on g names left left c.text.new.meter.left
    (λ I. reading (λ w. join_texts w (told.text_in (get_or (map (tell I) c.args.args.now) 0 told.nil)) (told.items_in (tell I (v.Array c.args.array)))) makes_text) (λ I. makes_text made)
    (λ I p fit agrees e.
    let old = c.text.ensures.adds.adds I names fit in
    let before = agrees_before I p.world h g c.text.ensures.adds agrees in
    (λ j. read (join_texts p.world (c.text_at-separator.ensures I old j) (c.items.ensures.told I names old j)) makes_text p)
    ∙ ap (λ o. read o makes_text p) (c.in-Ok.ensures.told I p.world old before)
    ∙ ap (λ t. makes_text t p) (sym c.as_str.ensures.value)
    ∙ ap (λ n. makes_text made (record p { left = n })) e)
    c.text.result (c.text.ensures.performs names)
