-- Names, and the tokens that are made of them (ISO/IEC 30170, 8.7.3, identifiers, and 8.7.6.6, symbols).
use Rattle.std.specs.Prelude.{ℕ, Bool, [], ◌∷◌, ◌++◌, ◌+◌, ◌==◌, ◌&&◌, ◌||◌, not, if◌then◌else◌, length, drop}
use Rattle.std.specs.List.{take_while}
use Rattle.std.specs.Str.{encode_utf8_all}
use Rattle.unicode_ident.specs.Ident.{is_xid_continue}
use Rattle.zw_def.specs.Text.{Text, is_upper}
use Rattle.zw_def_syntax.specs.Token.{Kind, identifier, constant, symbol, instance_variable, class_variable, nameless_variable}
use Rattle.zw_def_syntax.specs.Character.{Characters, first_is, is_name_start, question_mark, exclamation_mark, equals_sign, greater_sign, tilde, at_sign}
use Rattle.zw_def_syntax.specs.Piece.{Reading, token, refused}

-- the name at the front: a character that begins one, and all that go on (UAX 31, XID_Continue)
abbrev pub name : Characters → Characters
name [] = []
name (c ∷ cs) = if is_name_start c then c ∷ take_while is_xid_continue cs else []

abbrev pub is_mark : ℕ → Bool
is_mark c = c == question_mark || c == exclamation_mark

abbrev pub is_equals : ℕ → Bool
is_equals c = c == equals_sign

-- a `?` or `!` belongs to the name before it unless `=` follows
abbrev pub mark : Characters → Characters
mark [] = []
mark (c ∷ cs) = if is_mark c && not (first_is is_equals cs) then c ∷ [] else []

-- a name, and what belongs to it by the form that `ending` reads after it
abbrev pub name_and : (Characters → Characters) → Characters → Characters
name_and ending cs = name cs ++ ending (drop (length (name cs)) cs)

-- an identifier, with the mark that belongs to it, or a constant's name, which begins with `A` to `Z`
abbrev pub word : Characters → Characters
word cs = if first_is is_upper cs then name cs else name_and mark cs

-- what a word is, by its first character
abbrev pub word_kind : Characters → Text → Kind
word_kind cs text = if first_is is_upper cs then constant text else identifier text

abbrev pub word_token : Characters → Reading
word_token cs = token (word_kind cs (encode_utf8_all (word cs))) (length (word cs))

-- ---- symbols

-- a character after which a `=` is no part of the symbol before it: `=`, `>` or `~`
abbrev pub is_after_equals : ℕ → Bool
is_after_equals c = c == equals_sign || c == greater_sign || c == tilde

-- a `=` directly after a symbol's name belongs to it unless `=`, `>` or `~` follows
abbrev pub setter : Characters → Characters
setter [] = []
setter (c ∷ cs) = if is_equals c && not (first_is is_after_equals cs) then c ∷ [] else []

abbrev pub symbol_name : Characters → Characters
symbol_name cs = word cs ++ setter (drop (length (word cs)) cs)

-- a symbol, from what follows its `:` on
abbrev pub symbol_token : Characters → Reading
symbol_token cs = token (symbol (encode_utf8_all (symbol_name cs))) (1 + length (symbol_name cs))

-- ---- variables

-- a variable with a sign of this size before its name
abbrev pub variable : (Text → Kind) → ℕ → Characters → Reading
variable kind size cs =
    if first_is is_name_start cs then token (kind (encode_utf8_all (name cs))) (size + length (name cs))
    else refused nameless_variable

abbrev pub is_at : ℕ → Bool
is_at c = c == at_sign

-- a variable, from what follows its first `@` on
abbrev pub variable_token : Characters → Reading
variable_token cs = if first_is is_at cs then variable class_variable 2 (drop 1 cs) else variable instance_variable 1 cs
