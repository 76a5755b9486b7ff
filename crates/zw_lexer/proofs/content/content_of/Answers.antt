use Rattle.std.proofs.Common.{◌≡◌, ◌+◌, ◌<◌, ◌≤◌, ◌++◌, [], true, false, length, drop, arith, rules, ap, sym, ◌∙◌, append-nil, Some, None, option_map, refl}
use Rattle.std.specs.Str.{encode_utf8_all}
use Rattle.std.proofs.lemmas.List.{length-drop, take_rest}
use Rattle.zw_lexer.specs.Content.{element_seen, ends_at, opens_at, element_by}
use Rattle.zw_lexer.proofs.ContentLemmas.{onto, at_quote, at_opening, at_fault, at_end, more_held}
use Rattle.zw_lexer.proofs.content.content_of.Goals as goal

pub returns-then-ends-clause-read : goal.returns-then-ends-clause-read
returns-then-ends-clause-read c =
    let (front, bytes, read) = c.elements.invariant.read in
    let rest = drop c.elements.at c.args.characters.now in
    let lt : 0 < length rest = omega (arith, length-drop c.elements.at c.args.characters.now, c.elements-test.true) in
    let ends : ends_at c.args.start rest ≡ true = search rules in
    let last = at_quote (ends_at c.args.start) (opens_at c.args.start) (element_by c.args.start) rest lt ends in
    (record { held = front ++ []; opens = false; size = c.elements.at + 1 }, read ∙ ap (onto front c.elements.at) last, (bytes ∙ ap encode_utf8_all (sym (append-nil front)), refl, refl))

pub returns-then-opens-clause-read : goal.returns-then-opens-clause-read
returns-then-opens-clause-read c =
    let (front, bytes, read) = c.elements.invariant.read in
    let rest = drop c.elements.at c.args.characters.now in
    let lt : 0 < length rest = omega (arith, length-drop c.elements.at c.args.characters.now, c.elements-test.true) in
    let ends : ends_at c.args.start rest ≡ false = search rules in
    let opens : opens_at c.args.start rest ≡ true = ap (opens_at c.args.start) (sym (take_rest c.args.characters.now c.elements.at)) ∙ sym c.opens.ensures.value ∙ c.if-opens.true in
    let last = at_opening (ends_at c.args.start) (opens_at c.args.start) (element_by c.args.start) rest lt ends opens in
    (record { held = front ++ []; opens = true; size = c.elements.at + 2 }, read ∙ ap (onto front c.elements.at) last, (bytes ∙ ap encode_utf8_all (sym (append-nil front)), refl, refl))

pub returns-in-None-clause-read : goal.returns-in-None-clause-read
returns-in-None-clause-read c =
    let (front, bytes, read) = c.elements.invariant.read in
    let rest = drop c.elements.at c.args.characters.now in
    let lt : 0 < length rest = omega (arith, length-drop c.elements.at c.args.characters.now, c.elements-test.true) in
    let ends : ends_at c.args.start rest ≡ false = search rules in
    let opens : opens_at c.args.start rest ≡ false = ap (opens_at c.args.start) (sym (take_rest c.args.characters.now c.elements.at)) ∙ sym c.opens.ensures.value ∙ c.if-opens.false in
    let element : element_by c.args.start rest ≡ None = ap (element_by c.args.start) (sym (take_rest c.args.characters.now c.elements.at)) ∙ sym c.element_at.ensures.value ∙ ap (option_map element_seen) c.in-None.is in
    read ∙ ap (onto front c.elements.at) (at_fault (ends_at c.args.start) (opens_at c.args.start) (element_by c.args.start) rest lt ends opens element)

pub returns-clause-read : goal.returns-clause-read
returns-clause-read c =
    let (front, bytes, read) = c.elements.invariant.read in
    let rest = drop c.elements.at c.args.characters.now in
    let none : length rest ≡ 0 = omega (arith, length-drop c.elements.at c.args.characters.now, c.elements-test.false) in
    read ∙ ap (onto front c.elements.at) (at_end (ends_at c.args.start) (opens_at c.args.start) (element_by c.args.start) rest none)

pub elements-preserved : goal.elements-preserved
elements-preserved c =
    let rest = drop c.elements.at c.args.characters.now in
    let lt : 0 < length rest = omega (arith, length-drop c.elements.at c.args.characters.now, c.elements-test.true) in
    let ends : ends_at c.args.start rest ≡ false = search rules in
    let opens : opens_at c.args.start rest ≡ false = ap (opens_at c.args.start) (sym (take_rest c.args.characters.now c.elements.at)) ∙ sym c.opens.ensures.value ∙ c.if-opens.false in
    let element : element_by c.args.start rest ≡ Some (element_seen c.in-Some.element) = ap (element_by c.args.start) (sym (take_rest c.args.characters.now c.elements.at)) ∙ sym c.element_at.ensures.value ∙ ap (option_map element_seen) c.in-Some.is in
    let few : c.in-Some.element.size ≤ length rest = rw (sym (take_rest c.args.characters.now c.elements.at)) c.in-Some.ensures.within.1 in
    let more : 0 < c.in-Some.element.size = c.in-Some.ensures.within.0 in
    record {
      within = omega (arith, few, length-drop c.elements.at c.args.characters.now, c.elements.invariant.within);
      read = more_held (ends_at c.args.start) (opens_at c.args.start) (element_by c.args.start) c.args.characters.now c.elements.at (element_seen c.in-Some.element) _ _ ends opens element more few c.elements.invariant.read c.in_ok-push-in-Some.ensures.bytes;
    }
