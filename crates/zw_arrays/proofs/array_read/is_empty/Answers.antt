use Rattle.std.proofs.Common.{◌==◌, length, ap, ◌∙◌, refl, sym}
use Rattle.std.proofs.lemmas.List.{length-map}
use Rattle.zw_def_world.specs.Site.{yes_or_no}
use Rattle.zw_def_world.specs.Value.{items_in}
use Rattle.zw_heap.specs.Telling.{tell}
use Rattle.zw_heap.specs.declared.value.Value.TheVariants as v
use Rattle.zw_calls.proofs.PerformLemmas.{at_once}
use Rattle.zw_arrays.proofs.ArrayLemmas.{fitting}
use Rattle.zw_arrays.proofs.array_read.is_empty.Goals as goal

pub returns : goal.returns
returns c = λ names left.
    let h = c.args.heap.now in
    let answer = c.is_empty.result in
    fitting h names left left (λ I. yes_or_no (length (items_in (tell I (v.Array c.args.array))) == 0)) (λ I. yes_or_no answer)
    (λ I fit. ap (λ n. yes_or_no (n == 0)) (ap length (c.items.ensures.told I names fit) ∙ length-map c.items.result.now (tell I)) ∙ ap yes_or_no (sym c.is_empty.ensures))
    c.yes_or_no.result (at_once h names left (λ I. yes_or_no answer) (λ s I. yes_or_no answer) (λ s I. refl) c.yes_or_no.result c.yes_or_no.ensures)
