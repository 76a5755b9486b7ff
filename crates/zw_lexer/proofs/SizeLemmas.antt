-- Each piece has a character, and no more than there are.
use Rattle.std.proofs.Common.{◌≡◌, ℕ, zero, suc, ◌+◌, ◌-◌, ◌<◌, ◌≤◌, arith, Bool, true, false, not, cond, List, [], ◌∷◌, length, take, drop, find, Option, Some, None, Result, Ok, Err, refl, sym, subst, if◌then◌else◌, ◌&&◌, ◌||◌, ◌==◌, codes}
use Rattle.std.specs.Option.{option_map_or}
use Rattle.std.specs.List.{take_while, prefix_len, list_all}
use Rattle.std.specs.Str.{encode_utf8_all}
use Rattle.std.specs.Str.Parse.{digits_value}
use Rattle.std.proofs.lemmas.Bool.{eqb-true}
use Rattle.std.proofs.lemmas.List.{length-append, length-drop}
use Rattle.std.proofs.lemmas.List.Folds.{length-prefix_len}
use Rattle.std.proofs.lemmas.List.Sums.{prefix_len-le-length}
use Rattle.unicode_ident.specs.Ident.{is_xid_continue}
use Rattle.zw_def.specs.Text.{Text, pieces, is_digit, is_upper}
use Rattle.zw_def_syntax.specs.Token.{integer, outside_number, outside_escape, Kind, Reason, Fault, newline, nameless_variable, instance_variable, class_variable, text, text_begin, text_middle, text_end, sign, outside_character}
use Rattle.zw_def_syntax.specs.Character.{Characters, Place, is_blank, begins, first_is, is_name_start}
use Rattle.zw_def_syntax.specs.Piece.{Piece, Reading, token, gap, refused}
use Rattle.zw_def_syntax.specs.Word.{name, mark, word, setter, name_and, symbol_name, word_token, symbol_token, variable, variable_token, is_mark, is_equals, is_after_equals, is_at}
use Rattle.zw_def_syntax.specs.Number.{digits, number_token, number_of, is_number, is_number_part}
use Rattle.zw_def_syntax.specs.Content.{Content, Element, content, one_more as longer, with_character, text_token, single_token, double_token, continued_token}
use Rattle.zw_def_syntax.specs.Scan.{signs, sign_at, sign_token, comment, is_no_line_feed, begins_symbol, symbol_or_sign_at, marked_at, token_at, line_end_at, piece_at, Opening, located, closing_at, piece_in}

-- a reading has one character at least and so many at most
abbrev pub IsWithin : ℕ → Reading → Type 0
IsWithin n (Ok piece) = (0 < piece.size) × (piece.size ≤ n)
IsWithin n (Err reason) = Unit {0}

-- ---- names

take_while_few : (p : ℕ → Bool) (cs : Characters) → length (take_while p cs) ≤ length cs
take_while_few p cs = omega (arith, length-prefix_len p cs, prefix_len-le-length p cs)

name_few : (cs : Characters) → length (name cs) ≤ length cs
name_few [] = omega arith
name_few (c ∷ cs) = at (is_name_start c) where
  at : (b : Bool) → length (if b then c ∷ take_while is_xid_continue cs else []) ≤ length (c ∷ cs)
  at true = omega (arith, take_while_few is_xid_continue cs)
  at false = omega arith

mark_few : (cs : Characters) → length (mark cs) ≤ length cs
mark_few [] = omega arith
mark_few (c ∷ cs) = at (is_mark c && not (first_is is_equals cs)) where
  at : (b : Bool) → length (if b then c ∷ [] else []) ≤ length (c ∷ cs)
  at true = omega arith
  at false = omega arith

setter_few : (cs : Characters) → length (setter cs) ≤ length cs
setter_few [] = omega arith
setter_few (c ∷ cs) = at (is_equals c && not (first_is is_after_equals cs)) where
  at : (b : Bool) → length (if b then c ∷ [] else []) ≤ length (c ∷ cs)
  at true = omega arith
  at false = omega arith

word_few : (cs : Characters) → length (word cs) ≤ length cs
word_few cs = at (first_is is_upper cs) where
  at : (b : Bool) → length (if b then name cs else name_and mark cs) ≤ length cs
  at true = name_few cs
  at false =
      let rest = drop (length (name cs)) cs in
      omega (arith, name_few cs, mark_few rest, length-append (name cs) (mark rest), length-drop (length (name cs)) cs)

symbol_few : (cs : Characters) → length (symbol_name cs) ≤ length cs
symbol_few cs =
    let rest = drop (length (word cs)) cs in
    omega (arith, word_few cs, setter_few rest, length-append (word cs) (setter rest), length-drop (length (word cs)) cs)

-- a name that begins has a character
name_some : (c : ℕ) (cs : Characters) → is_name_start c ≡ true → 0 < length (name (c ∷ cs))
name_some c cs e = rw e (omega arith)

word_some : (c : ℕ) (cs : Characters) → is_name_start c ≡ true → 0 < length (word (c ∷ cs))
word_some c cs e = at (is_upper c) where
  at : (b : Bool) → 0 < length (if b then name (c ∷ cs) else name_and mark (c ∷ cs))
  at true = name_some c cs e
  at false =
      let rest = drop (length (name (c ∷ cs))) (c ∷ cs) in
      omega (arith, name_some c cs e, length-append (name (c ∷ cs)) (mark rest))

word_within : (c : ℕ) (cs : Characters) → is_name_start c ≡ true → IsWithin (length (c ∷ cs)) (word_token (c ∷ cs))
word_within c cs e = (word_some c cs e, word_few (c ∷ cs))

symbol_within : (cs : Characters) → IsWithin (length cs + 1) (symbol_token cs)
symbol_within cs = (omega arith, omega (arith, symbol_few cs))

variable_by : (kind : Text → Kind) (size : ℕ) (cs : Characters) → 0 < size → IsWithin (length cs + size) (variable kind size cs)
variable_by kind size cs more = at (first_is is_name_start cs) where
  at : (b : Bool) → IsWithin (length cs + size) (if b then token (kind (encode_utf8_all (name cs))) (size + length (name cs)) else refused nameless_variable)
  at true = (omega (arith, more), omega (arith, name_few cs))
  at false = tt

variable_within : (cs : Characters) → IsWithin (length cs + 1) (variable_token cs)
variable_within cs = at cs (first_is is_at cs) refl where
  at : (cs : Characters) (b : Bool) → first_is is_at cs ≡ b → IsWithin (length cs + 1) (if b then variable class_variable 2 (drop 1 cs) else variable instance_variable 1 cs)
  at [] true e = cc
  at (c ∷ cs) true e = let n : length cs + 2 ≡ length (c ∷ cs) + 1 = omega arith in subst (λ n. IsWithin n (variable class_variable 2 cs)) n (variable_by class_variable 2 cs (omega arith))
  at cs false e = variable_by instance_variable 1 cs (omega arith)

-- ---- numbers

number_by : (part rest : Characters) (n : ℕ) → 0 < length part → length part ≤ n → IsWithin n (number_of part rest)
number_by part rest n more few = at (is_number part rest) where
  at : (b : Bool) → IsWithin n (if b then token (integer (digits_value 10 (digits part))) (length part) else refused outside_number)
  at true = (more, few)
  at false = tt

number_within : (c : ℕ) (cs : Characters) → is_digit c ≡ true → IsWithin (length (c ∷ cs)) (number_token (c ∷ cs))
number_within c cs e = number_by (take_while is_number_part (c ∷ cs)) _ _ (some (is_digit c) e) (take_while_few is_number_part (c ∷ cs)) where
  some : (b : Bool) → b ≡ true → 0 < length (take (cond (b || c == 95) (1 + prefix_len is_number_part cs) 0) (c ∷ cs))
  some true f = let one : 1 + prefix_len is_number_part cs ≡ suc (prefix_len is_number_part cs) = omega arith in rw one (omega arith)
  some false f = cc

-- ---- contents

abbrev ContentWithin : ℕ → Result Content Reason → Type 0
ContentWithin n (Ok c) = (0 < c.size) × (c.size ≤ n)
ContentWithin n (Err reason) = Unit {0}

one_more_within : (n : ℕ) (r : Result Content Reason) → ContentWithin n r → ContentWithin (suc n) (longer r)
one_more_within n (Ok c) (more, few) = (omega (arith, more), omega (arith, few))
one_more_within n (Err reason) w = tt

with_character_within : (n x : ℕ) (r : Result Content Reason) → ContentWithin n r → ContentWithin (suc n) (with_character x r)
with_character_within n x (Ok c) (more, few) = (omega (arith, more), omega (arith, few))
with_character_within n x (Err reason) w = tt

module _ (ends opens : Characters → Bool) (element_of : Characters → Option Element) (two : (cs : Characters) → opens cs ≡ true → 2 ≤ length cs) where
  content_within : (n : ℕ) (cs : Characters) → ContentWithin (length cs) (content ends opens element_of n cs)
  unfolding content
  content_within n [] = tt
  content_within (suc n) (c ∷ cs) = one_more_within (length cs) _ (content_within n cs)
  content_within zero (c ∷ cs) = at (ends (c ∷ cs)) (opens (c ∷ cs)) (element_of (c ∷ cs)) (two (c ∷ cs)) (λ n. content_within n cs) where
    at : (a b : Bool) (e : Option Element) → (b ≡ true → 2 ≤ length (c ∷ cs)) → ((n : ℕ) → ContentWithin (length cs) (content ends opens element_of n cs)) → ContentWithin (length (c ∷ cs)) (if a then Ok (record { held = []; opens = false; size = 1 })
        else if b then Ok (record { held = []; opens = true; size = 2 })
        else option_map_or (λ e. with_character e.character (content ends opens element_of (e.size - 1) cs)) e (Err outside_escape))
    at true b e pair rest = (omega arith, omega arith)
    at false true e pair rest = (omega arith, pair refl)
    at false false (Some e) pair rest = with_character_within (length cs) e.character _ (rest (e.size - 1))
    at false false None pair rest = tt

text_token_within : (n : ℕ) (whole front : Text → Kind) (r : Result Content Reason) → ContentWithin n r → IsWithin (n + 1) (text_token whole front r)
text_token_within n whole front (Ok c) (more, few) = (omega arith, omega (arith, few))
text_token_within n whole front (Err reason) w = tt

-- characters that begin with others are no fewer
pub begins_few : (front cs : Characters) → begins front cs ≡ true → length front ≤ length cs
begins_few [] cs e = omega arith
begins_few (f ∷ fs) [] e = cc
begins_few (f ∷ fs) (c ∷ cs) e = at (f == c) (begins_few fs cs) e where
  at : (b : Bool) → (begins fs cs ≡ true → length fs ≤ length cs) → b && begins fs cs ≡ true → length (f ∷ fs) ≤ length (c ∷ cs)
  at true rest e = omega (arith, rest e)
  at false rest e = cc

single_within : (cs : Characters) → IsWithin (length cs + 1) (single_token cs)
single_within cs = text_token_within (length cs) text text_begin _ (content_within (begins (codes "'")) (λ cs. false) _ (λ cs e. cc) 0 cs)

double_within : (cs : Characters) → IsWithin (length cs + 1) (double_token cs)
double_within cs = text_token_within (length cs) text text_begin _ (content_within (begins (codes "\"")) (begins (codes "#{")) _ (begins_few (codes "#{")) 0 cs)

continued_within : (cs : Characters) → IsWithin (length cs + 1) (continued_token cs)
continued_within cs = text_token_within (length cs) text_end text_middle _ (content_within (begins (codes "\"")) (begins (codes "#{")) _ (begins_few (codes "#{")) 0 cs)

-- ---- signs

abbrev is_some_text : Text → Bool
is_some_text [] = false
is_some_text (b ∷ bs) = true

some_text : (s : Text) → is_some_text s ≡ true → 0 < length s
some_text [] e = cc
some_text (b ∷ bs) e = omega arith

some_signs : list_all is_some_text (pieces 32 signs) ≡ true
unfolding signs
some_signs = refl

found_within : (cs : Characters) (ss : List Text) → list_all is_some_text ss ≡ true → IsWithin (length cs) (option_map_or (λ s. token (sign s) (length s)) (find (λ s. begins s cs) ss) (refused outside_character))
found_within cs [] e = tt
found_within cs (s ∷ ss) e = at (is_some_text s) (begins s cs) (found_within cs ss) refl refl e where
  at : (a b : Bool) → (list_all is_some_text ss ≡ true → IsWithin (length cs) (option_map_or (λ s. token (sign s) (length s)) (find (λ s. begins s cs) ss) (refused outside_character))) → is_some_text s ≡ a → begins s cs ≡ b → a && list_all is_some_text ss ≡ true
      → IsWithin (length cs) (option_map_or (λ s. token (sign s) (length s)) (cond b (Some s) (find (λ s. begins s cs) ss)) (refused outside_character))
  at true true rest p q f = (some_text s p, begins_few s cs q)
  at true false rest p q f = rest f
  at false b rest p q f = cc

sign_within : (cs : Characters) → IsWithin (length cs) (sign_token cs)
unfolding sign_at
sign_within cs = found_within cs (pieces 32 signs) some_signs

-- ---- what stands at a place

comment_within : (cs : Characters) → IsWithin (suc (length cs)) (comment (35 ∷ cs))
comment_within cs =
    let one : 1 + prefix_len is_no_line_feed cs ≡ suc (prefix_len is_no_line_feed cs) = omega arith in
    (rw one (omega arith), take_while_few is_no_line_feed (35 ∷ cs))

begins_one : (last : Option ℕ) (cs : Characters) → begins_symbol last cs ≡ true → IsWithin (length cs) (symbol_token (drop 1 cs))
begins_one last [] e = cc
begins_one last (c ∷ cs) e = let n : length cs + 1 ≡ length (c ∷ cs) = omega arith in subst (λ n. IsWithin n (symbol_token cs)) n (symbol_within cs)

symbol_or_sign_within : (last : Option ℕ) (cs : Characters) → IsWithin (length cs) (symbol_or_sign_at last cs)
symbol_or_sign_within last cs = at (begins_symbol last cs) refl where
  at : (b : Bool) → begins_symbol last cs ≡ b → IsWithin (length cs) (if b then symbol_token (drop 1 cs) else sign_token cs)
  at true e = begins_one last cs e
  at false e = sign_within cs

one_more : (c : ℕ) (cs : Characters) (r : Reading) → IsWithin (length cs + 1) r → IsWithin (length (c ∷ cs)) r
one_more c cs r w = let n : length cs + 1 ≡ length (c ∷ cs) = omega arith in subst (λ n. IsWithin n r) n w

marked_within : (last : Option ℕ) (c : ℕ) (cs : Characters) → IsWithin (length (c ∷ cs)) (marked_at last (c ∷ cs))
marked_within last c cs = at (c == 64) (c == 39) (c == 34) where
  at : (a b d : Bool) → IsWithin (length (c ∷ cs)) (if a then variable_token cs else if b then single_token cs else if d then double_token cs else symbol_or_sign_at last (c ∷ cs))
  at true b d = one_more c cs _ (variable_within cs)
  at false true d = one_more c cs _ (single_within cs)
  at false false true = one_more c cs _ (double_within cs)
  at false false false = symbol_or_sign_within last (c ∷ cs)

token_within : (last : Option ℕ) (c : ℕ) (cs : Characters) → IsWithin (length (c ∷ cs)) (token_at last (c ∷ cs))
token_within last c cs = at (is_name_start c) (is_digit c) refl refl where
  at : (a b : Bool) → is_name_start c ≡ a → is_digit c ≡ b → IsWithin (length (c ∷ cs)) (if a then word_token (c ∷ cs) else if b then number_token (c ∷ cs) else marked_at last (c ∷ cs))
  at true b e f = word_within c cs e
  at false true e f = number_within c cs f
  at false false e f = marked_within last c cs

line_end_within : (last : Option ℕ) (c : ℕ) (cs : Characters) → IsWithin (length (c ∷ cs)) (line_end_at last (c ∷ cs))
line_end_within last c cs = at (begins (codes "\n") (c ∷ cs)) (begins (codes "\r\n") (c ∷ cs)) refl where
  at : (a b : Bool) → begins (codes "\r\n") (c ∷ cs) ≡ b → IsWithin (length (c ∷ cs)) (if a then token newline 1 else if b then token newline 2 else token_at last (c ∷ cs))
  at true b e = (omega arith, omega arith)
  at false true e = (omega arith, begins_few (codes "\r\n") (c ∷ cs) e)
  at false false e = token_within last c cs

plain_within : (last : Option ℕ) (c : ℕ) (cs : Characters) → IsWithin (length (c ∷ cs)) (piece_at last (c ∷ cs))
unfolding piece_at
plain_within last c cs = at (is_blank c) (c == 35) refl where
  at : (a b : Bool) → (c == 35) ≡ b → IsWithin (length (c ∷ cs)) (if a then gap 1 else if b then comment (c ∷ cs) else line_end_at last (c ∷ cs))
  at true b e = (omega arith, omega arith)
  at false true e = subst (λ d. IsWithin (length (c ∷ cs)) (comment (d ∷ cs))) (sym (eqb-true c 35 e)) (comment_within cs)
  at false false e = line_end_within last c cs

-- the same with the line of a fault
abbrev pub SizeWithin : ℕ → Result Piece Fault → Type 0
SizeWithin n (Ok piece) = (0 < piece.size) × (piece.size ≤ n)
SizeWithin n (Err fault) = Unit {0}

located_within : (n line : ℕ) (r : Reading) → IsWithin n r → SizeWithin n (located line r)
located_within n line (Ok piece) w = w
located_within n line (Err reason) w = tt

closing_within : (nest : List Opening) (place : Place) (c : ℕ) (cs : Characters) → SizeWithin (length (c ∷ cs)) (closing_at nest place (c ∷ cs))
closing_within [] place c cs = tt
closing_within (o ∷ os) place c cs = located_within _ o.quote _ (one_more c cs _ (continued_within cs))

pub piece_within : (nest : List Opening) (place : Place) (c : ℕ) (cs : Characters) → SizeWithin (length (c ∷ cs)) (piece_in nest place (c ∷ cs))
piece_within nest place c cs = at (begins (codes "}") (c ∷ cs)) where
  at : (b : Bool) → SizeWithin (length (c ∷ cs)) (if b then closing_at nest place (c ∷ cs) else located place.line (piece_at place.last (c ∷ cs)))
  at true = closing_within nest place c cs
  at false = located_within _ place.line _ (plain_within place.last c cs)
