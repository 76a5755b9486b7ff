-- Gaps, which are blanks, comments and line ends, and the characters that a piece has of its own.
use Rattle.std.proofs.Common.{◌≡◌, ℕ, suc, ◌+◌, ◌<◌, ◌⊎◌, inl, inr, arith, Bool, true, false, not, cond, List, [], ◌∷◌, ◌++◌, length, take, drop, Option, Some, None, Result, Ok, Err, refl, ap, sym, ◌∙◌, subst, if◌then◌else◌, ◌&&◌, ◌==◌, codes}
use Rattle.std.specs.List.{take_while, prefix_len}
use Rattle.std.specs.Str.{encode_utf8_all}
use Rattle.std.specs.List.{list_all}
use Rattle.std.specs.Option.{option_map_or}
use Rattle.std.specs.Str.Parse.{digits_value}
use Rattle.std.proofs.lemmas.Bool.{eqb-true}
use Rattle.zw_def.specs.Text.{Text, is_digit, is_upper}
use Rattle.zw_def_syntax.specs.Piece.{Piece, Reading, token, gap, refused}
use Rattle.zw_def_syntax.specs.Word.{name, word, word_token, symbol_token, variable, variable_token, is_at}
use Rattle.zw_def_syntax.specs.Number.{digits, is_number_part, number_token, number_of, is_number}
use Rattle.zw_def_syntax.specs.Content.{Content, single_content, double_content, text_token, single_token, double_token}
use Rattle.zw_def_syntax.specs.Scan.{sign_at, sign_token, comment, is_no_line_feed, begins_symbol, symbol_or_sign_at, token_at, piece_at, Opening, located, closing_at, piece_in}
use Rattle.std.proofs.lemmas.List.Folds.{length-prefix_len}
use Rattle.zw_lexer.proofs.FrontLemmas.{front_passes}
use Rattle.zw_def_syntax.specs.Token.{Kind, Fault, Reason, newline, identifier, constant, integer, sign, text, text_begin, text_middle, text_end, class_variable, instance_variable, outside_number, outside_character, nameless_variable}
use Rattle.zw_def_syntax.specs.Character.{Characters, Place, is_blank, is_line_feed, begins, first_is, is_name_start}
use Rattle.zw_def_syntax.specs.Lexed.{is_newline}
use Rattle.zw_def_syntax.specs.Spans.{ends_line, is_gap, IsOwn}

-- ---- gaps

-- a front of more characters begins as they do
begins_more : (front cs ds : Characters) → begins front cs ≡ true → begins front (cs ++ ds) ≡ true
begins_more [] cs ds e = refl
begins_more (f ∷ fs) [] ds e = cc
begins_more (f ∷ fs) (c ∷ cs) ds e = at (f == c) (begins_more fs cs ds) e where
  at : (b : Bool) → (begins fs cs ≡ true → begins fs (cs ++ ds) ≡ true) → b && begins fs cs ≡ true → b && begins fs (cs ++ ds) ≡ true
  at true rest e = rest e
  at false rest e = e

abbrev gap_by : Bool → Bool → Bool → Bool → Bool → Bool → Bool
gap_by blank hash feed pair after commented = if blank then after else if hash then commented else if feed then after else if pair then after else false

-- gaps with a line end between them are one
pub gaps_joined : (s : Bool) (gap own more rest : Characters) → (own ≡ codes "\n") ⊎ (own ≡ codes "\r\n") → is_gap s gap (own ++ (more ++ rest)) ≡ true → is_gap false more rest ≡ true → is_gap s (gap ++ (own ++ more)) rest ≡ true
gaps_joined false [] own more rest (inl n) e f = ap (λ o. is_gap false (o ++ more) rest) n ∙ f
gaps_joined false [] own more rest (inr n) e f = ap (λ o. is_gap false (o ++ more) rest) n ∙ f
gaps_joined true [] own more rest (inl n) e f = ap (λ o. is_gap true (o ++ more) rest) n ∙ f
gaps_joined true [] own more rest (inr n) e f = let g : false ≡ true = ap (λ o. ends_line (o ++ (more ++ rest))) (sym n) ∙ e in cc
gaps_joined true (c ∷ cs) own more rest n e f = gaps_joined (not (is_line_feed c)) cs own more rest n e f
gaps_joined false (c ∷ cs) own more rest n e f =
    at (is_blank c) (c == 35) (is_line_feed c) (begins (codes "\r\n") (c ∷ cs)) (begins (codes "\r\n") (c ∷ cs ++ (own ++ more))) (begins_more (codes "\r\n") (c ∷ cs) (own ++ more))
    (λ h. gaps_joined false cs own more rest n h f) (λ h. gaps_joined true cs own more rest n h f) e
  where
    at : (blank hash feed pair pair' : Bool) → (pair ≡ true → pair' ≡ true)
        → (is_gap false cs (own ++ (more ++ rest)) ≡ true → is_gap false (cs ++ (own ++ more)) rest ≡ true) → (is_gap true cs (own ++ (more ++ rest)) ≡ true → is_gap true (cs ++ (own ++ more)) rest ≡ true)
        → gap_by blank hash feed pair (is_gap false cs (own ++ (more ++ rest))) (is_gap true cs (own ++ (more ++ rest))) ≡ true
        → gap_by blank hash feed pair' (is_gap false (cs ++ (own ++ more)) rest) (is_gap true (cs ++ (own ++ more)) rest) ≡ true
    at true hash feed pair pair' longer plain commented e = plain e
    at false true feed pair pair' longer plain commented e = commented e
    at false false true pair pair' longer plain commented e = plain e
    at false false false true true longer plain commented e = plain e
    at false false false true false longer plain commented e = let g : false ≡ true = longer refl in cc
    at false false false false pair' longer plain commented e = cc

-- a comment before a gap
commented_gap : (more rest : Characters) → ends_line (more ++ rest) ≡ true → is_gap false more rest ≡ true → is_gap true more rest ≡ true
commented_gap [] rest e f = e
commented_gap (c ∷ cs) rest e f = subst (λ d. is_gap false (d ∷ cs) rest ≡ true → is_gap true (d ∷ cs) rest ≡ true) (sym (eqb-true c 10 e)) (λ h. h) f

within_comment : (xs more rest : Characters) → list_all is_no_line_feed xs ≡ true → is_gap true more rest ≡ true → is_gap true (xs ++ more) rest ≡ true
within_comment [] more rest e f = f
within_comment (x ∷ xs) more rest e f = at (is_line_feed x) (within_comment xs more rest) e where
  at : (b : Bool) → (list_all is_no_line_feed xs ≡ true → is_gap true more rest ≡ true → is_gap true (xs ++ more) rest ≡ true) → not b && list_all is_no_line_feed xs ≡ true → is_gap (not b) (xs ++ more) rest ≡ true
  at true rest e = cc
  at false all e = all e f

comment_ends : (cs : Characters) → ends_line (drop (prefix_len is_no_line_feed cs) cs) ≡ true
comment_ends [] = refl
comment_ends (c ∷ cs) = at (is_line_feed c) refl (comment_ends cs) where
  at : (b : Bool) → is_line_feed c ≡ b → ends_line (drop (prefix_len is_no_line_feed cs) cs) ≡ true → ends_line (drop (cond (not b) (1 + prefix_len is_no_line_feed cs) 0) (c ∷ cs)) ≡ true
  at true e rest = e
  at false e rest = let one : 1 + prefix_len is_no_line_feed cs ≡ suc (prefix_len is_no_line_feed cs) = omega arith in ap (λ n. ends_line (drop n (c ∷ cs))) one ∙ rest

-- ---- the characters of a piece

-- a gap may stand before what goes on as a gap, and a token has characters of its own
abbrev pub Fits : Option Kind → Characters → Characters → Type 0
Fits None own rest = (more later : Characters) → rest ≡ more ++ later → is_gap false more later ≡ true → is_gap false (own ++ more) later ≡ true
Fits (Some kind) own rest = IsOwn kind own

abbrev FitsAt : Characters → Reading → Type 0
FitsAt cs (Ok piece) = Fits piece.kind (take piece.size cs) (drop piece.size cs)
FitsAt cs (Err reason) = Unit {0}

-- a reading is no line end
abbrev NoLineEnd : Reading → Type 0
NoLineEnd (Ok piece) = (kind : Kind) × (piece.kind ≡ Some kind) × (is_newline kind ≡ false)
NoLineEnd (Err reason) = Unit {0}

no_line_end : (cs : Characters) (r : Reading) → NoLineEnd r → FitsAt cs r
no_line_end cs (Ok piece) (kind, e, none) = subst (λ k. Fits k (take piece.size cs) (drop piece.size cs)) (sym e) (λ h. let g : false ≡ true = sym none ∙ h in cc)
no_line_end cs (Err reason) n = tt

word_plain : (cs : Characters) → NoLineEnd (word_token cs)
word_plain cs = at (first_is is_upper cs) where
  at : (b : Bool) → (kind : Kind) × (Some (if b then constant (encode_utf8_all (word cs)) else identifier (encode_utf8_all (word cs))) ≡ Some kind) × (is_newline kind ≡ false)
  at true = (_, refl, refl)
  at false = (_, refl, refl)

number_plain : (part rest : Characters) → NoLineEnd (number_of part rest)
number_plain part rest = at (is_number part rest) where
  at : (b : Bool) → NoLineEnd (if b then token (integer (digits_value 10 (digits part))) (length part) else refused outside_number)
  at true = (_, refl, refl)
  at false = tt

variable_plain : (kind : Text → Kind) (size : ℕ) (cs : Characters) → ((t : Text) → is_newline (kind t) ≡ false) → NoLineEnd (variable kind size cs)
variable_plain kind size cs none = at (first_is is_name_start cs) where
  at : (b : Bool) → NoLineEnd (if b then token (kind (encode_utf8_all (name cs))) (size + length (name cs)) else refused nameless_variable)
  at true = (_, refl, none _)
  at false = tt

variables_plain : (cs : Characters) → NoLineEnd (variable_token cs)
variables_plain cs = at (first_is is_at cs) where
  at : (b : Bool) → NoLineEnd (if b then variable class_variable 2 (drop 1 cs) else variable instance_variable 1 cs)
  at true = variable_plain class_variable 2 (drop 1 cs) (λ t. refl)
  at false = variable_plain instance_variable 1 cs (λ t. refl)

text_plain : (whole front : Text → Kind) (r : Result Content Reason) → ((t : Text) → is_newline (whole t) ≡ false) → ((t : Text) → is_newline (front t) ≡ false) → NoLineEnd (text_token whole front r)
text_plain whole front (Ok c) a b = at c.opens where
  at : (o : Bool) → (kind : Kind) × (Some ((if o then front else whole) (encode_utf8_all c.held)) ≡ Some kind) × (is_newline kind ≡ false)
  at true = (_, refl, b _)
  at false = (_, refl, a _)
text_plain whole front (Err reason) a b = tt

sign_plain : (o : Option Text) → NoLineEnd (option_map_or (λ s. token (sign s) (length s)) o (refused outside_character))
sign_plain (Some s) = (_, refl, refl)
sign_plain None = tt

symbol_or_sign_plain : (last : Option ℕ) (cs : Characters) → NoLineEnd (symbol_or_sign_at last cs)
symbol_or_sign_plain last cs = at (begins_symbol last cs) where
  at : (b : Bool) → NoLineEnd (if b then symbol_token (drop 1 cs) else sign_token cs)
  at true = (_, refl, refl)
  at false = sign_plain (sign_at cs)

token_plain : (last : Option ℕ) (c : ℕ) (cs : Characters) → NoLineEnd (token_at last (c ∷ cs))
token_plain last c cs = at (is_name_start c) (is_digit c) (c == 64) (c == 39) (c == 34) where
  at : (a b d e f : Bool) → NoLineEnd (if a then word_token (c ∷ cs) else if b then number_token (c ∷ cs) else if d then variable_token cs else if e then single_token cs else if f then double_token cs else symbol_or_sign_at last (c ∷ cs))
  at true b d e f = word_plain (c ∷ cs)
  at false true d e f = number_plain (take_while is_number_part (c ∷ cs)) (drop (length (take_while is_number_part (c ∷ cs))) (c ∷ cs))
  at false false true e f = variables_plain cs
  at false false false true f = text_plain text text_begin (single_content cs) (λ t. refl) (λ t. refl)
  at false false false false true = text_plain text text_begin (double_content cs) (λ t. refl) (λ t. refl)
  at false false false false false = symbol_or_sign_plain last (c ∷ cs)

-- what begins with others has them at its front
front_of : (front cs : Characters) → begins front cs ≡ true → take (length front) cs ≡ front
front_of [] cs e = refl
front_of (f ∷ fs) [] e = cc
front_of (f ∷ fs) (c ∷ cs) e = at (f == c) refl (front_of fs cs) e where
  at : (b : Bool) → (f == c) ≡ b → (begins fs cs ≡ true → take (length fs) cs ≡ fs) → b && begins fs cs ≡ true → c ∷ take (length fs) cs ≡ f ∷ fs
  at true p rest e = (λ i. sym (eqb-true f c p) i ∷ rest e i)
  at false p rest e = cc

comment_fits : (cs more later : Characters) → drop (prefix_len is_no_line_feed cs) cs ≡ more ++ later → is_gap false more later ≡ true → is_gap true (take (prefix_len is_no_line_feed cs) cs ++ more) later ≡ true
comment_fits cs more later e f = within_comment (take (prefix_len is_no_line_feed cs) cs) more later (front_passes is_no_line_feed cs) (commented_gap more later (sym (ap ends_line e) ∙ comment_ends cs) f)

comment_at : (cs : Characters) → FitsAt (35 ∷ cs) (comment (35 ∷ cs))
comment_at cs = subst (λ n. Fits None (take n (35 ∷ cs)) (drop n (35 ∷ cs))) (sym size) (comment_fits cs) where
  size : length (take_while is_no_line_feed (35 ∷ cs)) ≡ suc (prefix_len is_no_line_feed cs)
  size = length-prefix_len is_no_line_feed (35 ∷ cs) ∙ omega arith

plain_fits : (last : Option ℕ) (c : ℕ) (cs : Characters) → FitsAt (c ∷ cs) (piece_at last (c ∷ cs))
unfolding piece_at
plain_fits last c cs = at (is_blank c) (c == 35) (begins (codes "\n") (c ∷ cs)) (begins (codes "\r\n") (c ∷ cs)) refl refl refl refl where
  hash : (c == 35) ≡ true → FitsAt (c ∷ cs) (comment (c ∷ cs))
  hash q = subst (λ d. FitsAt (d ∷ cs) (comment (d ∷ cs))) (sym (eqb-true c 35 q)) (comment_at cs)

  at : (a b d e : Bool) → is_blank c ≡ a → (c == 35) ≡ b → begins (codes "\n") (c ∷ cs) ≡ d → begins (codes "\r\n") (c ∷ cs) ≡ e
      → FitsAt (c ∷ cs) (if a then gap 1 else if b then comment (c ∷ cs) else if d then token newline 1 else if e then token newline 2 else token_at last (c ∷ cs))
  at true b d e p q r s = λ more later rest f. ap (λ a. if a then is_gap false more later else if c == 35 then is_gap true more later else if is_line_feed c then is_gap false more later else if begins (codes "\r\n") (c ∷ more) then is_gap false more later else false) p ∙ f
  at false true d e p q r s = hash q
  at false false true e p q r s = λ h. inl (front_of (codes "\n") (c ∷ cs) r)
  at false false false true p q r s = λ h. inr (front_of (codes "\r\n") (c ∷ cs) s)
  at false false false false p q r s = no_line_end (c ∷ cs) _ (token_plain last c cs)

abbrev FitsIn : Characters → Result Piece Fault → Type 0
FitsIn cs (Ok piece) = Fits piece.kind (take piece.size cs) (drop piece.size cs)
FitsIn cs (Err fault) = Unit {0}

located_fits : (cs : Characters) (line : ℕ) (r : Reading) → FitsAt cs r → FitsIn cs (located line r)
located_fits cs line (Ok piece) f = f
located_fits cs line (Err reason) f = tt

closing_fits : (nest : List Opening) (place : Place) (c : ℕ) (cs : Characters) → FitsIn (c ∷ cs) (closing_at nest place (c ∷ cs))
closing_fits [] place c cs = tt
closing_fits (o ∷ os) place c cs = located_fits (c ∷ cs) o.quote _ (no_line_end (c ∷ cs) _ (text_plain text_end text_middle (double_content cs) (λ t. refl) (λ t. refl)))

pub piece_fits : (nest : List Opening) (place : Place) (cs : Characters) (piece : Piece) → 0 < length cs → piece_in nest place cs ≡ Ok piece → Fits piece.kind (take piece.size cs) (drop piece.size cs)
piece_fits nest place [] piece more e = absurd (omega (arith, more))
piece_fits nest place (c ∷ cs) piece more e = subst (FitsIn (c ∷ cs)) e (at (begins (codes "}") (c ∷ cs))) where
  at : (b : Bool) → FitsIn (c ∷ cs) (if b then closing_at nest place (c ∷ cs) else located place.line (piece_at place.last (c ∷ cs)))
  at true = closing_fits nest place c cs
  at false = located_fits (c ∷ cs) place.line _ (plain_fits place.last c cs)
