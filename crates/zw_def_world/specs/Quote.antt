-- Texts with their control characters and quotes written out.
use Rattle.std.specs.Prelude.{ℕ, Bool, false, ◌||◌, ◌==◌, nat_lt, List, [], ◌∷◌, ◌++◌, codes, Result, Ok, if◌then◌else◌}
use Rattle.std.specs.Fmt.{digits}
use Rattle.std.specs.Str.{bytes_eq}
use Rattle.zw_def.specs.Text.{Text}
use Rattle.zw_def_syntax.specs.Token.{Kind, Token, symbol as symbol_token, Fault}
use Rattle.zw_def_syntax.specs.Lexed.{lexed}

-- ---- texts in double quotes (ISO/IEC 30170, 8.7.6.3.3)

abbrev pub control_text : ℕ → Text
control_text b = codes "\\u{" ++ digits 16 false b ++ codes "}"

abbrev pub is_control : ℕ → Bool
is_control b = nat_lt b 32 || b == 127

-- a byte of a text in double quotes
abbrev pub escaped : ℕ → Text
escaped b =
    if b == 92 then codes "\\\\"
    else if b == 10 then codes "\\n"
    else if b == 9 then codes "\\t"
    else if b == 13 then codes "\\r"
    else if is_control b then control_text b
    else b ∷ []

abbrev pub begins_interpolation : Text → Bool
begins_interpolation [] = false
begins_interpolation (b ∷ bs) = b == 123 || b == 36 || b == 64

abbrev pub escaped_in : ℕ → Text → Text
escaped_in b later =
    if b == 34 then codes "\\\""
    else if b == 35 then (if begins_interpolation later then codes "\\#" else b ∷ [])
    else escaped b

abbrev pub quoted_rest : Text → Text
quoted_rest [] = codes "\""
quoted_rest (b ∷ bs) = escaped_in b bs ++ quoted_rest bs

abbrev pub quoted : Text → Text
quoted t = 34 ∷ quoted_rest t

-- a text without quotes, as in a fault line
abbrev pub escaped_text : Text → Text
escaped_text [] = []
escaped_text (b ∷ bs) = escaped b ++ escaped_text bs

-- ---- symbols

abbrev pub is_symbol_kind : Text → Kind → Bool
is_symbol_kind t (symbol_token s) = bytes_eq s t
is_symbol_kind t _ = false

abbrev pub is_one_symbol : Text → Result (List Token) Fault → Bool
is_one_symbol t (Ok (token ∷ [])) = is_symbol_kind t token.kind
is_one_symbol t _ = false

-- bare where `:` and the text are one symbol token and nothing else
abbrev pub symbol_text : Text → Text
symbol_text t = 58 ∷ (if is_one_symbol t (lexed (58 ∷ t)) then t else quoted t)
