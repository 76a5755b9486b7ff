use Rattle.std.proofs.Common.{◌≡◌, ◌∷◌, le-leb, arith, rules}
use Rattle.std.specs.Str.{chars}
use Rattle.std.proofs.lemmas.Str.{chars_past_char}
use Rattle.zw_names.proofs.parts.is_constant.Goals as goal

pub returns-in-Some-A-to-Z : goal.returns-in-Some-A-to-Z
returns-in-Some-A-to-Z c =
    let first = c.in-Some-A-to-Z.field-0 in
    let cut : chars c.args.text.now ≡ first ∷ chars c.as_str.result.now = chars_past_char _ _ _ c.utf8.text (search (rules, c.in-Some-A-to-Z.ensures.steps, c.chars-chars.ensures.rest, c.as_str.ensures)) in
    rw (cut, le-leb 65 first (omega arith), le-leb first 90 (omega arith)) c.continues.ensures
