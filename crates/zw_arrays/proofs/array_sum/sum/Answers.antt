use Rattle.std.proofs.Common.{pos, FitsSigned, IfSome, map, ap, ◌∙◌, refl, sym, subst}
use Rattle.std.specs.Int.{w128}
use Rattle.std.proofs.lemmas.Int.{to_z-of_z}
use Rattle.zw_def_world.specs.Act.{Act}
use Rattle.zw_def_world.specs.ArrayRows.{integers_tested, sum_of}
use Rattle.zw_def_world.specs.Making.{makes_integer}
use Rattle.zw_def_world.specs.Value.{items_in}
use Rattle.zw_heap.specs.Heap.{sizes_of}
use Rattle.zw_heap.specs.Sound.{IsIn}
use Rattle.zw_heap.specs.Telling.{tell}
use Rattle.zw_heap.specs.declared.value.Value.TheVariants as v
use Rattle.zw_calls.specs.Fault.{fault_seen}
use Rattle.zw_calls.specs.Integer.{IsInRange}
use Rattle.zw_calls.proofs.PerformLemmas.{all_at_once}
use Rattle.zw_arrays.specs.Sum.{after_items}
use Rattle.zw_arrays.proofs.ArrayLemmas.{all_fitting, ok-in_range}
use Rattle.zw_arrays.proofs.ItemLemmas.{items-held}
use Rattle.zw_arrays.proofs.array_sum.sum.Goals as goal

pub wrong_kind-requires-clause-held : goal.wrong_kind-requires-clause-held
wrong_kind-requires-clause-held c =
    let h = c.args.heap.now in
    subst (λ o. IfSome o (IsIn (sizes_of h))) c.in-Some.is (c.first_other.ensures.held (sizes_of h) (items-held h c.items-items.result.now c.items-items.ensures.held))

pub returns-in-Some : goal.returns-in-Some
returns-in-Some c = λ left. record {
  told = λ s I p fit agrees e.
      let us = items_in (tell I (v.Array c.args.array)) in
      let act = makes_integer (sum_of (pos 0) us) in
      ap (λ vs. integers_tested vs act p) (c.items-items.ensures.told I c.args.names.now fit)
      ∙ ap (λ (a : Act). a p) (c.first_other.ensures.told I act)
      ∙ ap (λ o. after_items I o act p) c.in-Some.is
      ∙ c.in_ok-fault.ensures I p fit agrees
      ∙ ap (λ n. fault_seen c.in_ok-fault.fault (record p { left = n })) e;
  held = tt;
  done = tt;
}

pub returns : goal.returns
returns c = λ left.
    let h = c.args.heap.now in
    let names = c.args.names.now in
    let z = c.total.result in
    let fits : FitsSigned w128 z = record { sfits = c.total.type_inv } in
    let tried = simp to_z-of_z at c.try_from.ensures in
    let exact : IsInRange c.ok.result z = subst (λ o. IsInRange o z) (sym c.ok.ensures.value) (ok-in_range c.try_from.result z tried) in
    all_fitting h names left left (λ I. integers_tested (items_in (tell I (v.Array c.args.array))) (makes_integer (sum_of (pos 0) (items_in (tell I (v.Array c.args.array)))))) (λ I. makes_integer z)
    (λ I fit.
    ap (λ us. integers_tested us (makes_integer (sum_of (pos 0) us))) (c.items-items.ensures.told I names fit)
    ∙ c.first_other.ensures.told I (makes_integer (sum_of (pos 0) (map (tell I) c.items-items.result.now)))
    ∙ ap (λ o. after_items I o (makes_integer (sum_of (pos 0) (map (tell I) c.items-items.result.now)))) c.in_default.is
    ∙ ap makes_integer (c.total.ensures I))
    c.integer.result (all_at_once h names left (λ I. makes_integer z) (λ s I. makes_integer z) (λ s I. refl) c.integer.result (c.integer.ensures z exact))
