-- What a call that writes leaves.
use Rattle.std.specs.Prelude.{◌≡◌, ℕ, ◌<◌, nat_lt, ◌++◌, length, Result, Ok, Err, string_bytes, if◌then◌else◌}
use Rattle.std.specs.Char.{encode_utf8}
use Rattle.zw_base.specs.declared.fault.Fault.{Fault}
use Rattle.zw_base.specs.declared.fault.Fault.TheVariants.{Refused, Memory}
use Rattle.zw_def.specs.Text.{Text}
use Rattle.zw_def_world.specs.Quote.{escaped, escaped_in}
use Rattle.zw_show.specs.declared.fault.TooLong.{TooLong}
use Rattle.zw_show.specs.declared.writer.Writer.{Writer}

-- all of the piece is written, or it does not fit
abbrev pub Writes : {X : Type 0} → Writer → Writer → Text → Result X (Fault TooLong) → Type 0
Writes old new piece (Ok x) =
    (string_bytes new.text ≡ string_bytes old.text ++ piece) × (new.most ≡ old.most)
Writes old new piece (Err (Refused refusal)) = old.most < length (string_bytes old.text ++ piece)
Writes old new piece (Err Memory) = Unit {0}

-- a character of a text without quotes; those past the first 128 stand for themselves
abbrev pub escaped_char : ℕ → Text
escaped_char c = if nat_lt c 128 then escaped c else encode_utf8 c

-- a character of a text in double quotes, before the rest of the text
abbrev pub quoted_char : ℕ → Text → Text
quoted_char c rest = if nat_lt c 128 then escaped_in c rest else encode_utf8 c
