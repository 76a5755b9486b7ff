use Rattle.std.proofs.Common.{◌≡◌, get_or, string_bytes, ◌++◌, ap, ◌∙◌, refl, arith}
use Rattle.std.proofs.lemmas.List.{length-append}
use Rattle.zw_heap.specs.declared.value.Value.TheVariants as v
use Rattle.zw_show.specs.IsTold.{IsTooLong, built_in_of}
use Rattle.zw_arrays.specs.Joined.{IsEverTooLong, joined_of, separated}
use Rattle.zw_arrays.proofs.BuiltInLemmas.{all-there}
use Rattle.zw_arrays.proofs.JoinLemmas.{handed-on, next-long}
use Rattle.zw_arrays.proofs.array_join.joined.Goals as goal

pub returns-in_err-text-clause-refused : goal.returns-in_err-text-clause-refused
returns-in_err-text-clause-refused c =
    let h = c.args.heap.now in
    let names = c.args.names.now in
    let i = c.loop-index.index in
    let xs = c.args.items.now in
    let x = get_or xs i v.Nil in
    let separator = c.args.separator.now in
    let written = string_bytes c.loop-index.joined ++ separated separator i in
    handed-on c.from_residual.result c.in_err-text.field-0.0 (IsTooLong h names (built_in_of x)) (IsEverTooLong h names (joined_of separator xs)) c.from_residual.ensures.1
    (λ too I w fit agrees.
    let there = all-there I names h w fit agrees c.is_sound.ensures.sound (λ class low. c.tells_exceptions.ensures I names w class fit agrees low) xs c.requires.items in
    let sizes = length-append written too.0 in
    let long = next-long w separator I xs i x c.loop-index-test.true refl (string_bytes c.loop-index.joined) written (written ++ too.0) too.0 refl refl (too.1 I w fit agrees) there (omega (arith, too.2, sizes)) in
    (long.0, c.loop-index.invariant.told I w fit agrees ∙ long.1, long.2))
    c.in_err-text.ensures.refused

pub returns-then-len-gt-MAX_TEXT-clause-refused : goal.returns-then-len-gt-MAX_TEXT-clause-refused
returns-then-len-gt-MAX_TEXT-clause-refused c = λ I w fit agrees.
    let h = c.args.heap.now in
    let names = c.args.names.now in
    let i = c.loop-index.index in
    let xs = c.args.items.now in
    let separator = c.args.separator.now in
    let written = string_bytes c.push_separator.new.joined in
    let later = string_bytes c.push_str.new.self in
    let text = string_bytes c.in_ok-text.text in
    let there = all-there I names h w fit agrees c.is_sound.ensures.sound (λ class low. c.tells_exceptions.ensures I names w class fit agrees low) xs c.requires.items in
    let whole : later ≡ written ++ text = c.in_ok-push_str.ensures.bytes ∙ ap (λ t. written ++ t) c.as_str.ensures.value in
    let long = next-long w separator I xs i (get_or xs i v.Nil) c.loop-index-test.true refl (string_bytes c.loop-index.joined) written later text
    c.in_ok-push_separator.ensures whole (c.in_ok-text.ensures.told I w fit agrees) there (omega (arith, c.len.ensures))
    in
    (long.0, c.loop-index.invariant.told I w fit agrees ∙ long.1, long.2)
