-- What is still to be read, and the steps that every rule of the grammar is made of.
use Prim.Native.String.{String}
use Rattle.std.specs.Prelude.{ℕ, zero, suc, ◌+◌, ◌-◌, ◌||◌, Bool, true, false, not, nat_lt, if◌then◌else◌, List, [], ◌∷◌, ◌++◌, codes, drop, length, slice_get, Option, Some, None}
use Rattle.std.specs.Option.{option_map, option_map_or}
use Rattle.std.specs.List.{list_any}
use Rattle.std.specs.Str.{bytes_eq}
use Rattle.zw_def.specs.Text.{Text}
use Rattle.zw_def_syntax.specs.Token.{Kind, Token, identifier, constant, sign}
use Rattle.zw_def_syntax.specs.Word.{is_mark}
use Rattle.zw_def_syntax.specs.Lexed.{is_sign, is_keyword, is_newline, is_among}

pub record Input : Type 0 where
  pub rest : List Token
  -- the variables that are known
  pub known : List Text
  -- how many `(`, `[` and `#{` are open
  pub open_brackets : ℕ

-- ---- what stands here

-- the token that so many others stand before
unfoldable pub token_at : ℕ → Input → Option Token
token_at n i = slice_get i.rest n

abbrev pub kind_at : ℕ → Input → Option Kind
kind_at n i = option_map (λ t. t.kind) (token_at n i)

-- that token is there, and its kind passes the test
abbrev pub kind_is : (Kind → Bool) → ℕ → Input → Bool
kind_is test n i = option_map_or test (kind_at n i) false

-- the token at a place is this sign
abbrev pub sign_at : String → ℕ → Input → Bool
sign_at s = kind_is (is_sign (codes s))

-- the next token is this sign, or this keyword
abbrev pub sign_next : String → Input → Bool
sign_next s = sign_at s 0

abbrev pub keyword_next : String → Input → Bool
keyword_next k = kind_is (is_keyword (codes k)) 0

-- the next token is one of these signs, or of these keywords
abbrev pub is_sign_of : String → Kind → Bool
is_sign_of signs (sign s) = is_among (codes signs) s
is_sign_of signs _ = false

abbrev pub is_keyword_of : String → Kind → Bool
is_keyword_of words (Kind.keyword k) = is_among (codes words) k
is_keyword_of words _ = false

-- a line end or `;`
abbrev pub is_separator : Kind → Bool
is_separator kind = is_newline kind || is_sign (codes ";") kind

-- a name without `?` and `!`, as a variable has it
abbrev pub is_plain : Text → Bool
is_plain x = not (list_any is_mark x)

abbrev pub is_constant : Kind → Bool
is_constant (constant x) = true
is_constant _ = false

abbrev pub is_variable_name : Kind → Bool
is_variable_name (identifier x) = is_plain x
is_variable_name _ = false

unfoldable pub is_known : Text → Input → Bool
is_known x i = list_any (bytes_eq x) i.known

-- ---- parsers

-- what is read, and what is then left; None where the grammar has nothing here
abbrev pub Parser : Type 0 → Type 0
Parser A = Input → Option (A × Input)

abbrev pub and_then : {A B : Type 0} → Option (A × Input) → (A → Parser B) → Option (B × Input)
and_then (Some p) f = f p.0 p.1
and_then None f = None

infixl 10 ◌>>=◌
abbrev pub ◌>>=◌ : {A B : Type 0} → Parser A → (A → Parser B) → Parser B
p >>= f = λ i. and_then (p i) f

infixl 10 ◌>>◌
abbrev pub ◌>>◌ : {A B : Type 0} → Parser A → Parser B → Parser B
p >> q = p >>= (λ _. q)

abbrev pub pure : {A : Type 0} → A → Parser A
pure a = λ i. Some (a, i)

abbrev pub refuse : {A : Type 0} → Parser A
refuse = λ i. None

abbrev pub given : {A : Type 0} → Option A → Parser A
given (Some a) = pure a
given None = refuse

-- what is so here, taking nothing
abbrev pub here : {A : Type 0} → (Input → A) → Parser A
here f = λ i. Some (f i, i)

-- the one where the test holds here, and else the other
abbrev pub if_here : {A : Type 0} → (Input → Bool) → Parser A → Parser A → Parser A
if_here test p q = λ i. (if test i then p else q) i

-- as long as the test holds, one more turn; each turn takes a token, so the number of those left never decides
unfoldable pub turns : {A : Type 0} → ℕ → (Input → Bool) → (A → Parser A) → A → Parser A
turns zero goes_on turn a = pure a
turns (suc n) goes_on turn a = if_here goes_on (turn a >>= λ b. turns n goes_on turn b) (pure a)

abbrev pub repeated : {A : Type 0} → (Input → Bool) → (A → Parser A) → A → Parser A
repeated goes_on turn a = λ i. turns (length i.rest) goes_on turn a i

-- ---- tokens

abbrev pub peek : Parser (Option Kind)
peek = λ i. Some (kind_at 0 i, i)

unfoldable pub next : Input → Input
next i = record i { rest = drop 1 i.rest }

abbrev pub take_token : Parser (Unit {0})
take_token = λ i. Some (tt, next i)

-- takes the next token where the test holds
abbrev pub take_if : (Input → Bool) → Parser (Unit {0})
take_if test = if_here test take_token refuse

abbrev pub take_sign : String → Parser (Unit {0})
take_sign s = take_if (sign_next s)

abbrev pub take_keyword : String → Parser (Unit {0})
take_keyword k = take_if (keyword_next k)

-- takes a name of the kind of names that `name_of` tells
abbrev pub take_name : (Kind → Option Text) → Parser Text
take_name name_of = peek >>= λ kind. option_map_or (λ x. take_token >> pure x) (option_map_or name_of kind None) refuse

abbrev pub word_of : Kind → Option Text
word_of (identifier x) = Some x
word_of (constant x) = Some x
word_of _ = None

abbrev pub constant_of : Kind → Option Text
constant_of (constant x) = Some x
constant_of _ = None

abbrev pub variable_of : Kind → Option Text
variable_of (identifier x) = if is_plain x then Some x else None
variable_of _ = None

-- ---- brackets

abbrev pub max_brackets : ℕ
max_brackets = 250

-- takes a token that opens a bracket
unfoldable pub open_bracket : Parser (Unit {0})
open_bracket = λ i.
    if nat_lt i.open_brackets max_brackets then Some (tt, record (next i) { open_brackets = i.open_brackets + 1 })
    else None

-- takes a token that closes one
unfoldable pub close_bracket : Parser (Unit {0})
close_bracket = λ i. Some (tt, record (next i) { open_brackets = i.open_brackets - 1 })

abbrev pub open_sign : String → Parser (Unit {0})
open_sign s = if_here (sign_next s) open_bracket refuse

abbrev pub close_sign : String → Parser (Unit {0})
close_sign s = if_here (sign_next s) close_bracket refuse

-- ---- variables

-- from here on the variable is known
unfoldable pub learn : Text → Parser (Unit {0})
learn x = λ i. Some (tt, record i { known = i.known ++ x ∷ [] })

-- from here on these variables alone are known
unfoldable pub know : List Text → Parser (Unit {0})
know xs = λ i. Some (tt, record i { known = xs })

-- reads what stands in a body of its own: nothing is known at its start, and after it what was known before
unfoldable pub apart : {A : Type 0} → Parser A → Parser A
apart p = λ i. and_then (p (record i { known = [] })) (λ a j. Some (a, record j { known = i.known }))
