use Rattle.std.proofs.Common.{◌≡◌, ◌<◌, ◌≤◌, ◌-◌, map, length, string_bytes, refl, sym, ap, subst, ◌∙◌, arith}
use Rattle.std.proofs.lemmas.List.{length-map}
use Rattle.zw_def_world.specs.Making.{max_items}
use Rattle.zw_def_world.specs.Value as told
use Rattle.zw_heap.specs.Telling.{tell}
use Rattle.zw_strings.proofs.MadeLemmas.{array_performs, unpaid_array_performs, unpaid_less, unpaid_performs}
use Rattle.zw_strings.proofs.texts.array_of_texts.Goals as goal

pub returns-in-Some-clause-performs : goal.returns-in-Some-clause-performs
returns-in-Some-clause-performs c = λ names.
    unpaid_performs (map string_bytes c.args.texts.now) names c.args.meter.now.left c.pay_texts.new.meter.left c.in_ok-end.field-0 c.in_ok-end.ensures.pays c.args.heap.now c.in-Some.end c.in-Some.is

pub returns-then-not-tick-clause-performs : goal.returns-then-not-tick-clause-performs
returns-then-not-tick-clause-performs c = λ names.
    let ts = map string_bytes c.args.texts.now in
    let later = c.pay_texts.new.meter.left in
    let same : length ts ≡ length c.args.texts.now = length-map c.args.texts.now string_bytes in
    let few : length ts ≤ max_items = omega (arith, same, c.if-texts-gt-MAX_ITEMS.false) in
    let less : later < length ts = subst (λ n. later < n) (sym same) (unpaid_less (length c.args.texts.now) later c.if-not-tick.ensures.answer.1) in
    unpaid_array_performs ts names c.args.meter.now.left later c.in_ok-end.field-0 c.in_ok-end.ensures.pays c.args.heap.now c.tick.new.self.left c.in_default.is few less c.if-not-tick.ensures.left

pub new_array-requires-clause-few : goal.new_array-requires-clause-few
new_array-requires-clause-few c = omega (arith, ap length c.deref.ensures.value, c.in_ok-items.ensures.count, c.if-texts-gt-MAX_ITEMS.false)

pub returns-clause-performs : goal.returns-clause-performs
returns-clause-performs c = λ names.
    let ts = map string_bytes c.args.texts.now in
    let later = c.pay_texts.new.meter.left in
    let same : length ts ≡ length c.args.texts.now = length-map c.args.texts.now string_bytes in
    let few : length ts ≤ max_items = omega (arith, same, c.if-texts-gt-MAX_ITEMS.false) in
    let enough : length ts ≤ later = subst (λ n. n ≤ later) (sym same) (c.if-not-tick.ensures.answer.0 refl) in
    let costs : c.tick.new.self.left ≡ later - length ts = c.if-not-tick.ensures.left ∙ ap (λ n. later - n) (sym same) in
    let made = c.in_ok-new_array.ensures in
    array_performs ts names c.args.meter.now.left later c.in_ok-end.field-0 c.in_ok-end.ensures.pays c.new_texts.new.heap c.new_array.new.heap c.tick.new.self.left c.in_ok-items.items.items c.in_ok-new_array.field-0 c.in_default.is few enough costs
    made.adds.adds c.in_ok-items.ensures.told (λ I known fit. made.told I known fit ∙ ap (λ vs. told.array (told.array_of (map (tell I) vs))) c.deref.ensures.value) made.held
