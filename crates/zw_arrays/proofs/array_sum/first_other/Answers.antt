use Rattle.std.proofs.Common.{◌+◌, ◌≤◌, length, get_or, map, drop, cond, ap, ◌∙◌, refl, sym, arith}
use Rattle.std.proofs.Math.ListN.{drop_of_length-le}
use Rattle.zw_def_world.specs.ArrayRows.{integers_tested}
use Rattle.zw_def_world.specs.Fault.{wrong_kind}
use Rattle.zw_heap.specs.Telling.{tell}
use Rattle.zw_heap.specs.declared.value.Value.TheVariants as v
use Rattle.zw_arrays.proofs.EqualityLemmas.{drop-read}
use Rattle.zw_arrays.proofs.array_sum.first_other.Goals as goal

pub returns-then-not-has-clause-told : goal.returns-then-not-has-clause-told
returns-then-not-has-clause-told c = λ I act.
    let i = c.loop-item.item-index in
    let xs = c.args.items.now in
    let x = get_or xs i v.Nil in
    c.loop-item.invariant I act
    ∙ ap (λ ys. integers_tested (map (tell I) ys) act) (drop-read xs i x c.loop-item-test.true refl)
    ∙ ap (λ b. cond b (integers_tested (map (tell I) (drop (i + 1) xs)) act) (wrong_kind (tell I x) "Integer")) (sym (c.has.ensures I) ∙ c.if-not-has.true)

pub loop-item-preserved : goal.loop-item-preserved
loop-item-preserved c = λ I act.
    let i = c.loop-item.item-index in
    let xs = c.args.items.now in
    let x = get_or xs i v.Nil in
    c.loop-item.invariant I act
    ∙ ap (λ ys. integers_tested (map (tell I) ys) act) (drop-read xs i x c.loop-item-test.true refl)
    ∙ ap (λ b. cond b (integers_tested (map (tell I) (drop (i + 1) xs)) act) (wrong_kind (tell I x) "Integer")) (sym (c.has.ensures I) ∙ c.if-not-has.false)

pub returns-clause-told : goal.returns-clause-told
returns-clause-told c = λ I act.
    let xs = c.args.items.now in
    let past : length xs ≤ c.loop-item.item-index = omega arith in
    c.loop-item.invariant I act ∙ ap (λ ys. integers_tested (map (tell I) ys) act) (drop_of_length-le xs past)
