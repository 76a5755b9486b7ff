use Rattle.std.proofs.Common.{◌≡◌, ◌<◌, ◌+◌, ◌^◌, drop, length}
use Rattle.std.specs.Str.{encode_utf8_all}
use Rattle.zw_def_syntax.specs.Character.{after_characters}
use Rattle.zw_lexer.specs.Place.{place_seen}
use Rattle.zw_lexer.proofs.place.Place.after.Given as goal

abbrev pub invariant-loop-character : goal.invariant-loop-character
invariant-loop-character l = record {
  line : l.place.line + length (drop l.character-index l.characters) < 2 ^ 64;
  byte : l.place.byte + length (encode_utf8_all (drop l.character-index l.characters)) < 2 ^ 64;
  place : after_characters (drop l.character-index l.characters) (place_seen l.place) ≡ after_characters l.characters (place_seen l.self);
}
