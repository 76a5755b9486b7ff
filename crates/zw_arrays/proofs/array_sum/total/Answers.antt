use Rattle.std.proofs.Common.{◌≡◌, ◌+◌, ◌≤◌, ◌*◌, ◌^◌, ◌+ℤ◌, ◌≤ℤ◌, neg_ℤ, pos, FitsSigned, to_z, of_z, length, get_or, map, drop, ap, ◌∙◌, refl, sym, subst, arith}
use Rattle.std.specs.Int.{w64, w128}
use Rattle.std.proofs.lemmas.Int.{ints, to_z-of_z}
use Rattle.std.proofs.Math.ListN.{drop_of_length-le}
use Rattle.zw_def_world.specs.ArrayRows.{sum_of}
use Rattle.zw_heap.specs.Telling.{tell}
use Rattle.zw_heap.specs.declared.value.Value.TheVariants as v
use Rattle.zw_arrays.proofs.EqualityLemmas.{drop-read}
use Rattle.zw_arrays.proofs.array_sum.total.Goals as goal

pub loop-item-preserved : goal.loop-item-preserved
loop-item-preserved c =
    let i = c.loop-item.item-index in
    let xs = c.args.items.now in
    let x = get_or xs i v.Nil in
    let n = c.integer_in.result in
    let fits : FitsSigned w64 n = record { sfits = c.integer_in.type_inv } in
    let same : c.from-total.result ≡ n = c.from-total.ensures ∙ to_z-of_z w64 n fits in
    let wide : FitsSigned w128 c.from-total.result = record { sfits = c.from-total.type_inv } in
    let t = to_z w128 c.loop-item.total-bits in
    let low : neg_ℤ (pos (2 ^ 63 * (i + 1))) ≤ℤ (t +ℤ n) = omega (arith, ints) in
    let high : (t +ℤ n) ≤ℤ pos (2 ^ 63 * (i + 1)) = omega (arith, ints) in
    let both : FitsSigned w128 (t +ℤ n) = omega (arith, ints) in
    let is : to_z w128 (of_z w128 (t +ℤ to_z w128 (of_z w128 c.from-total.result))) ≡ t +ℤ n =
    ap (λ z. to_z w128 (of_z w128 (t +ℤ z))) (to_z-of_z w128 c.from-total.result wide ∙ same) ∙ to_z-of_z w128 (t +ℤ n) both
    in
    record {
      low = subst (λ z. neg_ℤ (pos (2 ^ 63 * (i + 1))) ≤ℤ z) (sym is) low;
      high = subst (λ z. z ≤ℤ pos (2 ^ 63 * (i + 1))) (sym is) high;
      told = λ I.
          ap (λ z. sum_of z (map (tell I) (drop (i + 1) xs))) (is ∙ ap (λ z. t +ℤ z) (sym (c.integer_in.ensures I)))
          ∙ ap (λ ys. sum_of t (map (tell I) ys)) (sym (drop-read xs i x c.loop-item-test.true refl))
          ∙ c.loop-item.invariant.told I;
    }

pub returns : goal.returns
returns c = λ I.
    let xs = c.args.items.now in
    let past : length xs ≤ c.loop-item.item-index = omega arith in
    sym (c.loop-item.invariant.told I)
    ∙ ap (λ ys. sum_of (to_z w128 c.loop-item.total-bits) (map (tell I) ys)) (drop_of_length-le xs past)
