use Rattle.std.proofs.Common.{length, ap, arith, ◌∙◌}
use Rattle.std.proofs.lemmas.List.{length-append}
use Rattle.zw_heap.specs.Heap.{Held}
use Rattle.zw_heap.specs.declared.value.Value.TheVariants as v
use Rattle.zw_prims_tests.proofs.array.answered.Goals as goal

pub told-requires-clause-receiver : goal.told-requires-clause-receiver
told-requires-clause-receiver g c =
    let size = ap (λ (h : Held). length h.arrays) c.in_ok-receiver.ensures.made ∙ length-append c.values.new.heap.arrays _ in
    c.in_ok-args.ensures.stays (v.Array c.in_ok-receiver.receiver) (omega (arith, size, c.in_ok-receiver.ensures.number))
