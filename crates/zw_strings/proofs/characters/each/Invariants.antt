use Rattle.std.proofs.Common.{◌≡◌, map, take, string_bytes, encode_utf8}
use Rattle.zw_strings.proofs.characters.each.Given as goal

abbrev pub invariant-loop-character : goal.invariant-loop-character
invariant-loop-character l = map string_bytes l.made.items ≡ map encode_utf8 (take l.character-index l.character-items)
