use Rattle.std.proofs.Common.{◌≡◌, ◌+◌, ◌≤◌, ◌<◌, ◌/◌, ◌-◌, map, length, string_bytes, refl, sym, ap, subst, ◌∙◌, arith}
use Rattle.std.proofs.lemmas.List.{length-map}
use Rattle.zw_def_world.specs.Act.{Act, ends, lost, out_of_steps}
use Rattle.zw_def_world.specs.Making.{max_text}
use Rattle.zw_calls.specs.End.{end_seen}
use Rattle.zw_strings.proofs.MadeLemmas.{text-at, unpaid_less}
use Rattle.zw_strings.proofs.PieceLemmas.{PaidFor, all_paid, ends_long, ends_unpaid, one_more_paid}
use Rattle.zw_strings.proofs.texts.pay_texts.Goals as goal

pub returns-then-len-gt-MAX_TEXT-clause-pays : goal.returns-then-len-gt-MAX_TEXT-clause-pays
returns-then-len-gt-MAX_TEXT-clause-pays c =
    let all = c.args.texts.now in
    let i = c.loop-text.text-index in
    let item = c.text-item.result in
    let t = string_bytes item in
    let once = c.in_ok-raise.ensures in
    let within : i < length (map string_bytes all) = omega (arith, c.loop-text-test.true, length-map all string_bytes) in
    let long : max_text < length t = omega (arith, c.if-len-gt-MAX_TEXT.true, c.len.ensures) in (
      once.done,
      once.held,
      λ made I p e.
          ends_long (map string_bytes all) i c.args.meter.now.left c.loop-text.meter.left t within (text-at all i item c.loop-text-test.true c.text-item.is) c.loop-text.invariant.paid long
          (end_seen I (ends lost) c.in_ok-raise.field-0) (λ q. ap (λ (act : Act). act q) (once.told I (ends lost))) made p e,
    )

pub returns-then-not-tick-clause-pays : goal.returns-then-not-tick-clause-pays
returns-then-not-tick-clause-pays c =
    let all = c.args.texts.now in
    let i = c.loop-text.text-index in
    let item = c.text-item.result in
    let t = string_bytes item in
    let left = c.loop-text.meter.left in
    let within : i < length (map string_bytes all) = omega (arith, c.loop-text-test.true, length-map all string_bytes) in
    let same : c.len-in-loop-text.result ≡ length t = omega (arith, c.len-in-loop-text.ensures) in
    let few : length t ≤ max_text = omega (arith, c.if-len-gt-MAX_TEXT.false, c.len.ensures) in
    let less : left < length t / 64 = subst (λ n. left < n / 64) same (unpaid_less (c.len-in-loop-text.result / 64) left c.if-not-tick.ensures.answer.1) in (
      tt,
      λ s. tt,
      λ made I p e.
          ends_unpaid (map string_bytes all) i c.args.meter.now.left left t within (text-at all i item c.loop-text-test.true c.text-item.is) c.loop-text.invariant.paid few less made p e
          ∙ ap (λ n. ends out_of_steps (record p { left = n })) (sym c.if-not-tick.ensures.left),
    )

pub loop-text-preserved : goal.loop-text-preserved
loop-text-preserved c =
    let all = c.args.texts.now in
    let i = c.loop-text.text-index in
    let item = c.text-item.result in
    let t = string_bytes item in
    let left = c.loop-text.meter.left in
    let within : i < length (map string_bytes all) = omega (arith, c.loop-text-test.true, length-map all string_bytes) in
    let same : c.len-in-loop-text.result ≡ length t = omega (arith, c.len-in-loop-text.ensures) in
    let few : length t ≤ max_text = omega (arith, c.if-len-gt-MAX_TEXT.false, c.len.ensures) in
    let enough : length t / 64 ≤ left = subst (λ n. n / 64 ≤ left) same (c.if-not-tick.ensures.answer.0 refl) in
    let later : left - length t / 64 ≡ c.tick.new.self.left = sym (c.if-not-tick.ensures.left ∙ ap (λ n. left - n / 64) same) in
    record {
      paid = subst (PaidFor (map string_bytes all) (i + 1) c.args.meter.now.left) later (one_more_paid (map string_bytes all) i c.args.meter.now.left left t within (text-at all i item c.loop-text-test.true c.text-item.is) c.loop-text.invariant.paid few enough);
      depth = c.if-not-tick.ensures.depth ∙ c.loop-text.invariant.depth;
    }

pub returns-clause-pays : goal.returns-clause-pays
returns-clause-pays c =
    let texts = map string_bytes c.args.texts.now in
    all_paid texts c.loop-text.text-index c.args.meter.now.left c.loop-text.meter.left (omega (arith, length-map c.args.texts.now string_bytes, c.loop-text-test.false, c.loop-text.auto.text-index-end)) c.loop-text.invariant.paid
