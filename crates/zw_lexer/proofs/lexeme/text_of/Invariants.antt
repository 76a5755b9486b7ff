use Rattle.std.proofs.Common.{◌≡◌, string_bytes, take}
use Rattle.std.specs.Str.{encode_utf8_all}
use Rattle.zw_lexer.proofs.lexeme.text_of.Given as goal

abbrev pub invariant-loop-character : goal.invariant-loop-character
invariant-loop-character l = string_bytes l.text ≡ encode_utf8_all (take l.character-index l.characters)
