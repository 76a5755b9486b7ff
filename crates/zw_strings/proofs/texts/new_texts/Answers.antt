use Rattle.std.proofs.Common.{◌∷◌, [], map, length, string_bytes, length-append, ap, ◌∙◌, arith}
use Rattle.std.proofs.lemmas.List.{length-map}
use Rattle.zw_heap.specs.Heap.{sizes_of}
use Rattle.zw_heap.specs.Sound.{IsIn}
use Rattle.zw_calls.proofs.CallLemmas.{adds_both}
use Rattle.zw_calls.specs.Flat.{IsFlat}
use Rattle.zw_strings.specs.Pieces.{AreShort}
use Rattle.zw_strings.proofs.MadeLemmas.{more-told, more_all, short_at}
use Rattle.zw_strings.proofs.texts.new_texts.Goals as goal

pub new_text-requires : goal.new_text-requires
new_text-requires c =
    let all = c.args.texts.now in
    let few : AreShort (map string_bytes all) = c.requires.few in
    short_at all c.loop-text.text-index c.text-item.result c.loop-text-test.true c.text-item.is c.as_str.result.now few
    (omega (arith, c.loop-text-test.true, length-map all string_bytes)) c.as_str.ensures.value

pub loop-text-preserved : goal.loop-text-preserved
loop-text-preserved c =
    let all = c.args.texts.now in
    let h = c.loop-text.heap in
    let g = c.new_text.new.heap in
    let xs = c.loop-text.made.items in
    let ys = c.push.new.self.items in
    let x = c.in_ok-new_text.field-0 in
    let one = c.in_ok-new_text.ensures in
    let before = c.loop-text.invariant in
    let pushed = c.in_ok-push.ensures.items in
    record {
      adds = adds_both c.args.heap.now h g before.adds one.adds;
      count = ap length pushed ∙ omega (arith, length-append xs (x ∷ []), before.count);
      held = more_all (IsIn (sizes_of g)) xs ys x pushed (λ k d lt. one.adds.stays _ (before.held k d lt)) one.held;
      flat = more_all IsFlat xs ys x pushed before.flat one.flat;
      told = λ I names fit. more-told all c.loop-text.text-index c.text-item.result c.loop-text-test.true c.text-item.is I xs ys x c.as_str.result.now pushed (before.told I names (one.adds.adds I names fit)) (one.told I names fit) c.as_str.ensures.value;
    }
