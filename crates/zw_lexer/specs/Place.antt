-- What places and openings stand for.
use Rattle.std.specs.Prelude.{◌<◌, ◌+◌, ◌^◌, List, map, reverse, length}
use Rattle.std.specs.Str.{encode_utf8_all}
use Rattle.zw_def_syntax.specs.Character as defined
use Rattle.zw_def_syntax.specs.Scan as defined_scan
use Rattle.zw_lexer.specs.declared.place.Place.{Place}
use Rattle.zw_lexer.specs.declared.place.Opening.{Opening}

abbrev pub place_seen : Place → defined.Place
place_seen place = record { line = place.line; byte = place.byte; last = place.last }

abbrev pub opening_seen : Opening → defined_scan.Opening
opening_seen o = record { quote = o.quote; brace = o.brace }

-- the texts that are open, the innermost first; the code has it last
abbrev pub nest_seen : List Opening → List defined_scan.Opening
nest_seen os = reverse (map opening_seen os)

-- the lines and bytes after so many characters more are numbers of the machine
abbrev pub HasRoom : Place → defined.Characters → Type 0
HasRoom place cs = (place.line + length cs < 2 ^ 64) × (place.byte + length (encode_utf8_all cs) < 2 ^ 64)
