-- The tokens of a text: its words are told apart, and the line ends that separate no statements are dropped.
use Rattle.std.specs.Prelude.{Bool, true, false, List, [], ◌∷◌, ◌++◌, ◌&&◌, ◌||◌, not, if◌then◌else◌, codes, drop, Option, Some, None, Result, Ok, Err}
use Rattle.std.specs.Option.{option_map_or}
use Rattle.std.specs.List.{list_any}
use Rattle.std.specs.Char.{len_utf8}
use Rattle.std.specs.Str.{bytes_eq, chars, is_utf8}
use Rattle.zw_def.specs.Text.{Text}
use Rattle.zw_def_syntax.specs.Token.{Kind, Token, Fault, newline, identifier, constant, keyword, sign, not_utf8, outside_word}
use Rattle.zw_def_syntax.specs.Character.{Characters, Place, begins, words, byte_order_mark}
use Rattle.zw_def_syntax.specs.Scan.{Scanned, scanned}

-- ---- words

-- the keywords (ISO/IEC 30170, 8.7.2)
unfoldable pub keywords : Text
keywords =
    codes "and begin break class def do else elsif end ensure false if module "
    ++ codes "next nil not or rescue return self super then true unless until while"

-- the keywords of Ruby that this language does not have
unfoldable pub outside_words : Text
outside_words = codes "BEGIN END __ENCODING__ __FILE__ __LINE__ alias case defined? for in redo retry undef when yield"

abbrev pub is_among : Text → Text → Bool
is_among all word = list_any (bytes_eq word) (words all)

abbrev pub is_sign : Text → Kind → Bool
is_sign text (sign s) = bytes_eq s text
is_sign text _ = false

abbrev pub is_keyword : Text → Kind → Bool
is_keyword text (keyword k) = bytes_eq k text
is_keyword text _ = false

abbrev pub is_newline : Kind → Bool
is_newline newline = true
is_newline _ = false

-- the first token's kind passes the test
abbrev pub first_kind : (Kind → Bool) → List Token → Bool
first_kind test [] = false
first_kind test (t ∷ ts) = test t.kind

-- `self` directly after `def`, with a `.` after it, stays a keyword
abbrev pub is_singleton : Text → List Token → Bool
is_singleton word later = bytes_eq word (codes "self") && first_kind (is_sign (codes ".")) later

-- after these tokens a word is a plain name: directly after `.`, and directly after `def`
abbrev pub is_name_after : Option Kind → Text → List Token → Bool
is_name_after None word later = false
is_name_after (Some k) word later =
    is_sign (codes ".") k || (is_keyword (codes "def") k && not (is_singleton word later))

-- what a word is, where it would be of this kind as a plain name; None where the language does not have it
abbrev pub word_kind : Kind → Bool → Text → Option Kind
word_kind plain is_name word =
    if is_name then Some plain
    else if is_among outside_words word then None
    else if is_among keywords word then Some (keyword word)
    else Some plain

abbrev pub kind_after : Option Kind → Kind → List Token → Option Kind
kind_after before (identifier word) later = word_kind (identifier word) (is_name_after before word later) word
kind_after before (constant word) later = word_kind (constant word) (is_name_after before word later) word
kind_after before kind later = Some kind

-- ---- line ends

-- a line end before `)`, `]` and `.` is dropped
abbrev pub is_closer : Kind → Bool
is_closer kind = is_sign (codes ")") kind || is_sign (codes "]") kind || is_sign (codes ".") kind

abbrev pub before_tokens : Token → List Token → List Token
before_tokens t later = if is_newline t.kind && first_kind is_closer later then later else t ∷ later

unfoldable pub without_ends_before : List Token → List Token
without_ends_before [] = []
without_ends_before (t ∷ ts) = before_tokens t (without_ends_before ts)

-- after these tokens a line end is dropped: a sign but `)`, `]` and `;`, one of the keywords `and`, `or` and `not`, and
-- where there is none
abbrev pub goes_on : Kind → Bool
goes_on (sign s) = not (is_among (codes ") ] ;") s)
goes_on (keyword k) = is_among (codes "and not or") k
goes_on _ = false

abbrev pub drops_end : Option Kind → Bool
drops_end before = option_map_or goes_on before true

abbrev pub with_kind : Token → (Token → Result (List Token) Fault) → Option Kind → Result (List Token) Fault
with_kind t more (Some kind) = more (record t { kind = kind })
with_kind t more None = Err (record { line = t.line; reason = outside_word })

abbrev pub prefixed : Token → Result (List Token) Fault → Result (List Token) Fault
prefixed t (Ok ts) = Ok (t ∷ ts)
prefixed t (Err fault) = Err fault

-- the tokens with their words told apart and without those line ends, where `before` is the token before them
unfoldable pub settled : Option Kind → List Token → Result (List Token) Fault
settled before [] = Ok []
settled before (t ∷ ts) =
    if is_newline t.kind && drops_end before then settled before ts
    else with_kind t (λ u. prefixed u (settled (Some u.kind) ts)) (kind_after before t.kind ts)

-- ---- the tokens of a text

-- the first fault from the left decides
abbrev pub up_to_fault : Option Fault → Result (List Token) Fault → Result (List Token) Fault
up_to_fault None tokens = tokens
up_to_fault (Some fault) (Ok tokens) = Err fault
up_to_fault (Some fault) (Err first) = Err first

abbrev pub settled_scan : Scanned → Result (List Token) Fault
settled_scan scan = up_to_fault scan.fault (settled None (without_ends_before scan.tokens))

abbrev pub first_place : Place
first_place = record { line = 1; byte = 0; last = None }

-- the place after a byte order mark at the start
abbrev pub place_after_mark : Place
place_after_mark = record first_place { byte = len_utf8 byte_order_mark }

-- a byte order mark at the start is passed over
abbrev pub scan_of : Characters → Scanned
scan_of cs =
    if begins (byte_order_mark ∷ []) cs then scanned 0 [] place_after_mark (drop 1 cs)
    else scanned 0 [] first_place cs

unfoldable pub lexed : Text → Result (List Token) Fault
lexed text = if is_utf8 text then settled_scan (scan_of (chars text)) else Err (record { line = 1; reason = not_utf8 })
