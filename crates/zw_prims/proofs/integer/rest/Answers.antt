use Rattle.std.proofs.Common.{◌≡◌, pos, neg_ℤ, ◌-ℤ◌, ap, ◌∙◌, arith, rules, ◌<ℤ◌}
use Rattle.std.specs.Int.{int_rem_euclid, cast_signed, cast_unsigned, w64, w128}
use Rattle.std.proofs.lemmas.Int.{ints}
use Rattle.zw_prims.proofs.DivisionLemmas.{rest-below}
use Rattle.zw_prims.proofs.integer.rest.Goals as goal

pub returns-then-divisor-lt0 : goal.returns-then-divisor-lt0
returns-then-divisor-lt0 c =
    let low : c.args.divisor <ℤ pos 0 = omega (arith, ints) in
    let is : c.rem_euclid.result ≡ int_rem_euclid (neg_ℤ c.args.number) (neg_ℤ c.args.divisor) = search rules in
    let bound = c.rem_euclid.ensures.upper_bound in
    let narrowed : cast_signed w64 (cast_unsigned w64 (cast_signed w128 (cast_unsigned w128 (pos 0 -ℤ cast_signed w128 (cast_unsigned w128 c.rem_euclid.result))))) ≡ neg_ℤ c.rem_euclid.result = omega (arith, ints, bound) in
    narrowed ∙ ap neg_ℤ is ∙ rest-below c.args.number c.args.divisor low
