-- What a scan stands for.
use Rattle.std.specs.Prelude.{◌≡◌, Some, Result, Ok, Err, ℕ, List, [], ◌∷◌, ◌++◌, map, option_map, reverse}
use Rattle.zw_def_syntax.specs.Character.{Characters}
use Rattle.zw_def_syntax.specs.Token as defined
use Rattle.zw_def_syntax.specs.Piece as defined_piece
use Rattle.zw_def_syntax.specs.Scan.{Opening, Scanned, with_piece}
use Rattle.zw_lexer.specs.declared.lexeme.Piece.{Piece}
use Rattle.zw_lexer.specs.declared.scan.Raw.{Raw}
use Rattle.zw_lexer.specs.declared.scan.Scan.{Scan}
use Rattle.zw_lexer.specs.declared.scan.Reader.{Reader}
use Rattle.zw_lexer.specs.Fault.{fault_seen}
use Rattle.zw_lexer.specs.Lexeme.{lexeme_seen}
use Rattle.zw_lexer.specs.Place.{place_seen, nest_seen}

abbrev pub raw_seen : Raw → defined.Token
raw_seen raw = record {
  kind = lexeme_seen raw.lexeme;
  line = raw.span.line;
  start = raw.span.start;
  stop = raw.span.end;
  blank_before = raw.span.blank_before;
  blank_after = raw.span.blank_after;
}

abbrev pub scan_seen : Scan → Scanned
scan_seen scan = record { tokens = map raw_seen scan.tokens.items; fault = option_map fault_seen scan.fault }

-- tokens that stand in a list with the next one last
abbrev pub turned : List Raw → List defined.Token
turned raws = reverse (map raw_seen raws)

-- ---- what is read so far

-- tokens before those of a scan
abbrev pub onto : List defined.Token → Scanned → Scanned
onto front scan = record { tokens = front ++ scan.tokens; fault = scan.fault }

-- the innermost text that is open has its `#{` on this line
abbrev pub with_brace : ℕ → List Opening → List Opening
with_brace brace [] = []
with_brace brace (o ∷ os) = record { quote = o.quote; brace = brace } ∷ os

-- what a reader has read, before what `more` makes of the texts that are open
abbrev pub after_read : Reader → (List Opening → Scanned) → Scanned
after_read reader more = onto (map raw_seen reader.tokens.items) (more (nest_seen reader.nest.items))

-- a piece from a reader's place to another, after what it has read and before what follows
abbrev pub after_piece : Reader → Reader → Piece → Characters → (List Opening → Scanned) → Scanned
after_piece old new piece rest more =
    onto (map raw_seen old.tokens.items)
    (with_piece (option_map lexeme_seen piece.lexeme)
    (place_seen old.place) (place_seen new.place) rest (nest_seen old.nest.items) more)

-- the scan ends with these tokens and the fault of the reading
abbrev pub EndsAs : List defined.Token → Result defined_piece.Piece defined.Fault → Scanned → Type 0
EndsAs tokens (Err fault) scan = scan ≡ record { tokens = tokens; fault = Some fault }
EndsAs tokens (Ok piece) scan = ⊥
