use Rattle.std.proofs.Common.{◌≡◌, ◌+◌, ◌≤◌, ◌∷◌, [], List, ℕ, suc, drop, length, arith, rules, ap, sym, ◌∙◌}
use Rattle.std.specs.Char.{len_utf8}
use Rattle.std.proofs.lemmas.List.{drop_more}
use Rattle.zw_def_syntax.specs.Character.{after_character, after_characters}
use Rattle.zw_lexer.specs.Place.{place_seen}
use Rattle.zw_lexer.proofs.PlaceLemmas.{bytes, bytes_more, line_after}
use Rattle.zw_lexer.proofs.place.Place.after.Goals as goal

pub after_character-place-requires : goal.after_character-place-requires
after_character-place-requires c =
    let rest = drop (c.loop-character.character-index + 1) c.args.characters.now in
    let first : drop c.loop-character.character-index c.args.characters.now ≡ c.character-item.result ∷ rest = search (rules, drop_more) in
    let size : length (drop c.loop-character.character-index c.args.characters.now) ≡ suc (length rest) = ap (λ (cs : List ℕ). length cs) first in
    let room : bytes (drop c.loop-character.character-index c.args.characters.now) ≡ len_utf8 c.character-item.result + bytes rest = ap bytes first ∙ bytes_more c.character-item.result rest in
    (omega (arith, size, c.loop-character.invariant.line), omega (arith, room, c.loop-character.invariant.byte))

pub loop-character-preserved : goal.loop-character-preserved
loop-character-preserved c =
    let rest = drop (c.loop-character.character-index + 1) c.args.characters.now in
    let first : drop c.loop-character.character-index c.args.characters.now ≡ c.character-item.result ∷ rest = search (rules, drop_more) in
    let size : length (drop c.loop-character.character-index c.args.characters.now) ≡ suc (length rest) = ap (λ (cs : List ℕ). length cs) first in
    let room : bytes (drop c.loop-character.character-index c.args.characters.now) ≡ len_utf8 c.character-item.result + bytes rest = ap bytes first ∙ bytes_more c.character-item.result rest in
    let place : place_seen c.after_character-place.result ≡ after_character c.character-item.result (place_seen c.loop-character.place) = search rules in
    let line : c.after_character-place.result.line ≤ c.loop-character.place.line + 1 = rw (ap (λ p. p.line) place) (line_after (c.character-item.result ∷ []) (place_seen c.loop-character.place)) in
    let byte : c.after_character-place.result.byte ≡ c.loop-character.place.byte + len_utf8 c.character-item.result = ap (λ p. p.byte) place in
    record {
      line = omega (arith, size, line, c.loop-character.invariant.line);
      byte = omega (arith, room, byte, c.loop-character.invariant.byte);
      place = ap (after_characters rest) place ∙ sym (ap (λ cs. after_characters cs (place_seen c.loop-character.place)) first) ∙ c.loop-character.invariant.place;
    }
