-- Tokens stand in order, with nothing between them but blanks, comments and line ends.
use Rattle.std.proofs.Common.{◌≡◌, ℕ, zero, suc, ◌+◌, ◌-◌, ◌<◌, ◌≤◌, arith, Bool, true, false, List, [], ◌∷◌, ◌++◌, length, take, drop, Option, Some, None, Result, Ok, Err, refl, ap, sym, ◌∙◌, subst, append_assoc, append-nil, if◌then◌else◌, ◌&&◌, take-append-drop}
use Rattle.std.specs.Str.{chars, is_utf8}
use Rattle.std.specs.Bool.{MatchBool}
use Rattle.std.proofs.lemmas.Option.{same_Some}
use Rattle.std.proofs.lemmas.Str.{length-le-encodes}
use Rattle.zw_def.specs.Text.{Text}
use Rattle.zw_def_syntax.specs.Piece.{Piece, gap}
use Rattle.zw_def_syntax.specs.Word.{word}
use Rattle.zw_def_syntax.specs.Scan.{Opening, Scanned, scanned, with_piece, open_after, at_end, piece_in}
use Rattle.std.proofs.lemmas.List.{length-drop, length-take}
use Rattle.zw_def_syntax.specs.Token.{Kind, Token, Fault, newline, identifier, constant, integer, sign, symbol, keyword, not_utf8, text, text_begin, text_middle, text_end, class_variable, instance_variable}
use Rattle.zw_def_syntax.specs.Character.{Characters, Place, after_characters, begins}
use Rattle.zw_def_syntax.specs.Lexed.{is_newline, first_kind, is_closer, is_among, outside_words, keywords, is_name_after, word_kind, kind_after, drops_end, with_kind, prefixed, settled, without_ends_before, up_to_fault, settled_scan, first_place, scan_of, lexed}
use Rattle.zw_def_syntax.specs.Spans.{is_gap, Covers, CoversText, InOrder}
use Rattle.zw_lexer.proofs.PlaceLemmas.{bytes, bytes_both, byte_after}
use Rattle.zw_lexer.proofs.ScanLemmas.{size_of_piece, scanned_piece, scanned_fault}
use Rattle.zw_lexer.proofs.GapLemmas.{gaps_joined, Fits, piece_fits}

-- ---- tokens over their characters

-- characters of a gap before what tokens cover
gap_before : (byte : ℕ) (own rest : Characters) (ts : List Token) → Fits None own rest → Covers (byte + bytes own) rest ts → Covers byte (own ++ rest) ts
gap_before byte own rest [] fits covers = subst (λ cs. is_gap false cs [] ≡ true) (ap (λ r. own ++ r) (append-nil rest)) (ap (λ r. is_gap false (own ++ r) []) (append-nil rest) ∙ fits rest [] (sym (append-nil rest)) covers)
gap_before byte own rest (t ∷ ts) fits (gap, more, later, split, is, kind, some, start, stop, covers) = (
  own ++ gap,
  more,
  later,
  ap (λ r. own ++ r) split ∙ sym (append_assoc own gap (more ++ later)),
  fits gap (more ++ later) split is,
  kind,
  some,
  start ∙ omega (arith, bytes_both own gap),
  stop,
  covers,
)

covers_by : (kind : Option Kind) (first last : Place) (own rest : Characters) (nest : List Opening) (more : List Opening → Scanned) → Fits kind own rest → 0 < length own → last.byte ≡ first.byte + bytes own
    → ((later : List Opening) → (more later).fault ≡ None → Covers last.byte rest (more later).tokens)
    → (with_piece kind first last rest nest more).fault ≡ None → Covers first.byte (own ++ rest) (with_piece kind first last rest nest more).tokens
covers_by None first last own rest nest more fits some byte covers none = gap_before first.byte own rest (more nest).tokens fits (subst (λ b. Covers b rest (more nest).tokens) byte (covers nest none))
covers_by (Some kind) first last own rest nest more fits some byte covers none =
    let later = open_after kind first.line last.line nest in
    ([], own, rest, refl, refl, fits, some, omega arith, byte, covers later none)

-- the tokens that are read from a place on cover all characters, unless there is a fault
pub scanned_covers : (n : ℕ) (nest : List Opening) (place : Place) (cs : Characters) → length cs ≤ n → (scanned 0 nest place cs).fault ≡ None → Covers place.byte cs (scanned 0 nest place cs).tokens
unfolding scanned
scanned_covers n nest place [] few none = at nest where
  at : (nest : List Opening) → Covers place.byte [] (at_end nest).tokens
  at [] = refl
  at (o ∷ os) = refl
scanned_covers zero nest place (c ∷ cs) few none = absurd (omega (arith, few))
scanned_covers (suc n) nest place (c ∷ cs) few none = at (piece_in nest place (c ∷ cs)) refl (λ later place' rest f. scanned_covers n later place' rest f) where
  at : (r : Result Piece Fault) → piece_in nest place (c ∷ cs) ≡ r → ((later : List Opening) (place' : Place) (rest : Characters) → length rest ≤ n → (scanned 0 later place' rest).fault ≡ None → Covers place'.byte rest (scanned 0 later place' rest).tokens)
      → Covers place.byte (c ∷ cs) (scanned 0 nest place (c ∷ cs)).tokens
  at (Err fault) e rest = let g : Some fault ≡ None = sym (ap (λ s. s.fault) (scanned_fault nest place (c ∷ cs) fault (omega arith) e)) ∙ none in cc
  at (Ok piece) e rest =
      let all = c ∷ cs in
      let own = take piece.size all in
      let left = drop piece.size all in
      let last = after_characters own place in
      let (some, most) = size_of_piece nest place all piece (omega arith) e in
      let read = scanned_piece nest place all piece (omega arith) e in
      let size : length left ≡ length all - piece.size = length-drop piece.size all in
      let covers = covers_by piece.kind place last own left nest (λ later. scanned 0 later last left) (piece_fits nest place all piece (omega arith) e)
      (omega (arith, length-take piece.size all, some, most)) (byte_after own place)
      (λ later f. rest later last left (omega (arith, size, some, few)) f) (sym (ap (λ s. s.fault) read) ∙ none) in
      subst (λ ds. Covers place.byte ds (scanned 0 nest place all).tokens) (take-append-drop piece.size all) (subst (λ s. Covers place.byte (own ++ left) s.tokens) (sym read) covers)

abbrev ok_or : Result (List Token) Fault → List Token → List Token
ok_or (Ok ts) other = ts
ok_or (Err fault) other = other

abbrev all_of : List Token → Result (List Token) Fault
all_of ts = Ok ts

same_Ok : (ts us : List Token) → all_of ts ≡ all_of us → ts ≡ us
same_Ok ts us e = ap (λ r. ok_or r ts) e

-- ---- line ends that are dropped, and words that are told apart

both_true : (a b : Bool) → a && b ≡ true → a ≡ true
both_true true b e = refl
both_true false b e = e

-- a line end is a gap
drop_end : (byte : ℕ) (cs : Characters) (t : Token) (ts : List Token) → is_newline t.kind ≡ true → Covers byte cs (t ∷ ts) → Covers byte cs ts
drop_end byte cs t [] e (gap, own, rest, split, is, kind, some, start, stop, covers) =
    subst (λ ds. is_gap false ds [] ≡ true) (sym split) (gaps_joined false gap own rest [] (kind e) (ap (λ r. is_gap false gap (own ++ r)) (append-nil rest) ∙ is) covers)
drop_end byte cs t (u ∷ us) e (gap, own, rest, split, is, kind, some, start, stop, (gap', own', rest', split', is', kind', some', start', stop', covers)) = (
  gap ++ (own ++ gap'),
  own',
  rest',
  split ∙ ap (λ r. gap ++ (own ++ r)) split' ∙ ap (λ r. gap ++ r) (sym (append_assoc own gap' (own' ++ rest'))) ∙ sym (append_assoc gap (own ++ gap') (own' ++ rest')),
  gaps_joined false gap own gap' (own' ++ rest') (kind e) (ap (λ r. is_gap false gap (own ++ r)) (sym split') ∙ is) is',
  kind',
  some',
  omega (arith, start', stop, start, bytes_both gap (own ++ gap'), bytes_both own gap'),
  stop',
  covers,
)

-- the same with other tokens after the first
covers_rest : (byte : ℕ) (cs : Characters) (t : Token) (ts us : List Token) → ((byte : ℕ) (cs : Characters) → Covers byte cs ts → Covers byte cs us) → Covers byte cs (t ∷ ts) → Covers byte cs (t ∷ us)
covers_rest byte cs t ts us f (gap, own, rest, split, is, kind, some, start, stop, covers) = (gap, own, rest, split, is, kind, some, start, stop, f t.stop rest covers)

covers_before : (ts : List Token) (byte : ℕ) (cs : Characters) → Covers byte cs ts → Covers byte cs (without_ends_before ts)
unfolding without_ends_before
covers_before [] byte cs covers = covers
covers_before (t ∷ ts) byte cs covers = at (is_newline t.kind) (first_kind is_closer (without_ends_before ts)) refl (covers_rest byte cs t ts (without_ends_before ts) (covers_before ts) covers) where
  at : (a b : Bool) → is_newline t.kind ≡ a → Covers byte cs (t ∷ without_ends_before ts) → Covers byte cs (if a && b then without_ends_before ts else t ∷ without_ends_before ts)
  at true true e covers = drop_end byte cs t (without_ends_before ts) e covers
  at true false e covers = covers
  at false b e covers = covers

word_no_line : (plain : Kind) (is_name : Bool) (word : Text) (k : Kind) → is_newline plain ≡ false → word_kind plain is_name word ≡ Some k → is_newline k ≡ false
word_no_line plain is_name word k none e = at is_name (is_among outside_words word) (is_among keywords word) e where
  at : (a b d : Bool) → (if a then Some plain else if b then None else if d then Some (keyword word) else Some plain) ≡ Some k → is_newline k ≡ false
  at true b d e = ap is_newline (sym (same_Some plain k e)) ∙ none
  at false true d e = cc
  at false false true e = ap is_newline (sym (same_Some (keyword word) k e))
  at false false false e = ap is_newline (sym (same_Some plain k e)) ∙ none

-- what is told to be no line end was none
line_end_stays : (before : Option Kind) (kind k : Kind) (later : List Token) → kind_after before kind later ≡ Some k → is_newline k ≡ true → is_newline kind ≡ true
line_end_stays before (identifier word) k later e f = let g = word_no_line (identifier word) (is_name_after before word later) word k refl e in cc
line_end_stays before (constant word) k later e f = let g = word_no_line (constant word) (is_name_after before word later) word k refl e in cc
line_end_stays before newline k later e f = refl
line_end_stays before (integer n) k later e f = ap is_newline (same_Some (integer n) k e) ∙ f
line_end_stays before (instance_variable x) k later e f = ap is_newline (same_Some (instance_variable x) k e) ∙ f
line_end_stays before (class_variable x) k later e f = ap is_newline (same_Some (class_variable x) k e) ∙ f
line_end_stays before (symbol x) k later e f = ap is_newline (same_Some (symbol x) k e) ∙ f
line_end_stays before (text x) k later e f = ap is_newline (same_Some (text x) k e) ∙ f
line_end_stays before (text_begin x) k later e f = ap is_newline (same_Some (text_begin x) k e) ∙ f
line_end_stays before (text_middle x) k later e f = ap is_newline (same_Some (text_middle x) k e) ∙ f
line_end_stays before (text_end x) k later e f = ap is_newline (same_Some (text_end x) k e) ∙ f
line_end_stays before (keyword x) k later e f = ap is_newline (same_Some (keyword x) k e) ∙ f
line_end_stays before (sign x) k later e f = ap is_newline (same_Some (sign x) k e) ∙ f

covers_kind : (byte : ℕ) (cs : Characters) (t : Token) (k : Kind) (ts us : List Token) → (is_newline k ≡ true → is_newline t.kind ≡ true) → ((byte : ℕ) (cs : Characters) → Covers byte cs ts → Covers byte cs us) → Covers byte cs (t ∷ ts) → Covers byte cs (record t { kind = k } ∷ us)
covers_kind byte cs t k ts us same f (gap, own, rest, split, is, kind, some, start, stop, covers) = (gap, own, rest, split, is, (λ h. kind (same h)), some, start, stop, f t.stop rest covers)

covers_settled : (before : Option Kind) (ts us : List Token) (byte : ℕ) (cs : Characters) → settled before ts ≡ Ok us → Covers byte cs ts → Covers byte cs us
unfolding settled
covers_settled before [] us byte cs e covers = subst (Covers byte cs) (same_Ok [] us e) covers
covers_settled before (t ∷ ts) us byte cs e covers =
    at (is_newline t.kind) (drops_end before) (kind_after before t.kind ts) refl refl (λ b vs bt ds g c. covers_settled b ts vs bt ds g c) e
  where
    more : (k : Kind) (r : Result (List Token) Fault) → kind_after before t.kind ts ≡ Some k → ((vs : List Token) → r ≡ Ok vs → (bt : ℕ) (ds : Characters) → Covers bt ds ts → Covers bt ds vs) → prefixed (record t { kind = k }) r ≡ Ok us → Covers byte cs us
    more k (Ok vs) told rest g = subst (Covers byte cs) (same_Ok (record t { kind = k } ∷ vs) us g) (covers_kind byte cs t k ts vs (line_end_stays before t.kind k ts told) (rest vs refl) covers)
    more k (Err fault) told rest g = cc

    at : (a b : Bool) (o : Option Kind) → is_newline t.kind ≡ a → kind_after before t.kind ts ≡ o → ((b : Option Kind) (vs : List Token) (bt : ℕ) (ds : Characters) → settled b ts ≡ Ok vs → Covers bt ds ts → Covers bt ds vs)
        → (if a && b then settled before ts else with_kind t (λ u. prefixed u (settled (Some u.kind) ts)) o) ≡ Ok us → Covers byte cs us
    at true true o p q rest g = rest before us byte cs g (drop_end byte cs t ts p covers)
    at true false (Some k) p q rest g = more k (settled (Some k) ts) q (λ vs h bt ds c. rest (Some k) vs bt ds h c) g
    at true false None p q rest g = cc
    at false b (Some k) p q rest g = more k (settled (Some k) ts) q (λ vs h bt ds c. rest (Some k) vs bt ds h c) g
    at false b None p q rest g = cc

-- ---- the tokens of a text

scan_covers : (place : Place) (cs : Characters) (us : List Token) → settled_scan (scanned 0 [] place cs) ≡ Ok us → Covers place.byte cs us
scan_covers place cs us e = at (scanned 0 [] place cs).fault refl e where
  at : (o : Option Fault) → (scanned 0 [] place cs).fault ≡ o → up_to_fault o (settled None (without_ends_before (scanned 0 [] place cs).tokens)) ≡ Ok us → Covers place.byte cs us
  at None none g = covers_settled None _ us place.byte cs g (covers_before _ place.byte cs (scanned_covers (length cs) [] place cs (omega arith) none))
  at (Some fault) f g = by (settled None (without_ends_before (scanned 0 [] place cs).tokens)) g where
    by : (r : Result (List Token) Fault) → up_to_fault (Some fault) r ≡ Ok us → Covers place.byte cs us
    by (Ok ts) h = cc
    by (Err first) h = cc

pub text_covers : (bytes : Text) (us : List Token) → lexed bytes ≡ Ok us → CoversText bytes us
unfolding lexed
text_covers bytes us e = at (is_utf8 bytes) e where
  whole : (b : Bool) → settled_scan (if b then scanned 0 [] (record first_place { byte = 3 }) (drop 1 (chars bytes)) else scanned 0 [] first_place (chars bytes)) ≡ Ok us → MatchBool b (Covers 3 (drop 1 (chars bytes)) us) (Covers 0 (chars bytes) us)
  whole true g = scan_covers (record first_place { byte = 3 }) (drop 1 (chars bytes)) us g
  whole false g = scan_covers first_place (chars bytes) us g

  at : (b : Bool) → (if b then settled_scan (scan_of (chars bytes)) else Err (record { line = 1; reason = not_utf8 })) ≡ Ok us → CoversText bytes us
  at true g = whole (begins (65279 ∷ []) (chars bytes)) g
  at false g = cc

covers_order : (byte : ℕ) (cs : Characters) (ts : List Token) → Covers byte cs ts → InOrder byte ts
covers_order byte cs [] covers = tt
covers_order byte cs (t ∷ ts) (gap, own, rest, split, is, kind, some, start, stop, covers) = (
  omega (arith, start),
  omega (arith, stop, some, length-le-encodes own),
  covers_order t.stop rest ts covers,
)

order_from : (from : ℕ) (ts : List Token) → InOrder from ts → InOrder 0 ts
order_from from [] order = tt
order_from from (t ∷ ts) (begins, ends, rest) = (omega arith, ends, rest)

pub text_in_order : (bytes : Text) (us : List Token) → lexed bytes ≡ Ok us → InOrder 0 us
text_in_order bytes us e = at (begins (65279 ∷ []) (chars bytes)) (text_covers bytes us e) where
  at : (b : Bool) → MatchBool b (Covers 3 (drop 1 (chars bytes)) us) (Covers 0 (chars bytes) us) → InOrder 0 us
  at true covers = order_from 3 us (covers_order 3 _ us covers)
  at false covers = covers_order 0 _ us covers
