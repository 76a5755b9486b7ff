use Rattle.std.proofs.Common.{◌≡◌, ◌≤◌, ◌<◌, ◌+◌, ◌-◌, ◌^◌, [], map, drop, length}
use Rattle.zw_def_syntax.specs.Scan.{scanned}
use Rattle.zw_lexer.specs.Place.{place_seen, nest_seen}
use Rattle.zw_lexer.specs.Scan.{raw_seen, onto}
use Rattle.zw_lexer.proofs.PlaceLemmas.{bytes}
use Rattle.zw_lexer.proofs.scan.scan_from.Given as goal

abbrev pub invariant-pieces : goal.invariant-pieces
invariant-pieces l = record {
  within : l.at ≤ length l.characters;
  line : l.reader.place.line + length (drop l.at l.characters) < 2 ^ 64;
  byte : l.reader.place.byte + bytes (drop l.at l.characters) < 2 ^ 64;
  read : onto (map raw_seen l.reader.tokens.items) (scanned 0 (nest_seen l.reader.nest.items) (place_seen l.reader.place) (drop l.at l.characters)) ≡ scanned 0 [] (place_seen l.fn.first) l.characters;
}

abbrev pub decreases-pieces : goal.decreases-pieces
decreases-pieces l = length l.characters - l.at
