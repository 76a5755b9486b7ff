-- Where tokens stand in a text: in order, with nothing between them but blanks, comments and line ends.
use Rattle.std.specs.Prelude.{◌≡◌, ◌<◌, ◌≤◌, ℕ, Bool, true, false, List, [], ◌∷◌, ◌++◌, ◌+◌, ◌==◌, ◌⊎◌, not, if◌then◌else◌, codes, length, drop, IsTrue, MatchBool}
use Rattle.std.specs.Char.{len_utf8}
use Rattle.std.specs.Str.{chars, encode_utf8_all}
use Rattle.zw_def.specs.Text.{Text}
use Rattle.zw_def_syntax.specs.Token.{Kind, Token}
use Rattle.zw_def_syntax.specs.Character.{Characters, is_blank, is_line_feed, begins, number_sign, byte_order_mark}
use Rattle.zw_def_syntax.specs.Lexed.{is_newline}

-- no character is left on the line
abbrev pub ends_line : Characters → Bool
ends_line [] = true
ends_line (c ∷ cs) = is_line_feed c

-- Blanks, line ends and comments, which go to the end of their line. The first argument tells whether they begin
-- within a comment, and the last what follows them.
abbrev pub is_gap : Bool → Characters → Characters → Bool
is_gap false [] rest = true
is_gap true [] rest = ends_line rest
is_gap true (c ∷ cs) rest = is_gap (not (is_line_feed c)) cs rest
is_gap false (c ∷ cs) rest =
    if is_blank c then is_gap false cs rest
    else if c == number_sign then is_gap true cs rest
    else if is_line_feed c then is_gap false cs rest
    else if begins (codes "\r\n") (c ∷ cs) then is_gap false cs rest
    else false

-- a separator that is no `;` is a line end
abbrev pub IsOwn : Kind → Characters → Type 0
IsOwn kind own = IsTrue (is_newline kind) → (own ≡ codes "\n") ⊎ (own ≡ codes "\r\n")

-- characters after so many bytes are a gap, then the first token's own, and so on, and a gap in the end
abbrev pub Covers : ℕ → Characters → List Token → Type 0
Covers byte cs [] = IsTrue (is_gap false cs [])
Covers byte cs (t ∷ ts) =
    (gap own rest : Characters) × (cs ≡ gap ++ (own ++ rest))
    × IsTrue (is_gap false gap (own ++ rest)) × IsOwn t.kind own × (0 < length own)
    × (t.start ≡ byte + length (encode_utf8_all gap)) × (t.stop ≡ t.start + length (encode_utf8_all own))
    × Covers t.stop rest ts

-- the tokens of a text, after a byte order mark at its start
abbrev pub CoversText : Text → List Token → Type 0
CoversText text tokens =
    MatchBool (begins (byte_order_mark ∷ []) (chars text))
    (Covers (len_utf8 byte_order_mark) (drop 1 (chars text)) tokens)
    (Covers 0 (chars text) tokens)

-- each token ends after it begins, and before the next one begins
abbrev pub InOrder : ℕ → List Token → Type 0
InOrder byte [] = Unit {0}
InOrder byte (t ∷ ts) = (byte ≤ t.start) × (t.start < t.stop) × InOrder t.stop ts
