-- Tokens that are told alike whatever names are made later have their names in the table: a number past its end would be
-- told by whatever name is made there.
use Rattle.std.proofs.Common.{◌≡◌, ℕ, ◌+◌, ◌-◌, ◌<◌, ◌≤◌, ◌⊎◌, inl, inr, List, [], ◌∷◌, ◌++◌, length, get_or, drop, Ok, Result, refl, ap, sym, ◌∙◌, arith, append_assoc}
use Rattle.std.proofs.Math.ListN.{replicate}
use Rattle.std.proofs.Math.Seq.{get_or-append_seam}
use Rattle.std.proofs.lemmas.Bool.{cases_lt}
use Rattle.std.proofs.lemmas.List.{length-append, length-replicate}
use Rattle.std.proofs.lemmas.Option.{unwrap_or-slice_get}
use Rattle.zw_def.specs.Text.{Text}
use Rattle.zw_def.specs.Names.{OnlyGrows, text_of}
use Rattle.zw_def_syntax.specs.Token as defined
use Rattle.zw_lexer.specs.declared.token.TokenKind.{TokenKind}
use Rattle.zw_lexer.specs.declared.token.TokenKind.TheVariants as t
use Rattle.zw_lexer.specs.declared.token.Token.{Token}
use Rattle.zw_lexer.specs.Held.{HoldsName, HoldNames}
use Rattle.zw_lexer.specs.Token.{kind_seen, tokens_seen, AreTokens}

-- ---- a number past the end

-- names up to a number, and a text there
abbrev padded : List Text → ℕ → Text → List Text
padded names n text = names ++ (replicate (n - length names) [] ++ text ∷ [])

text_of-padded : (names : List Text) (n : ℕ) (text : Text) → length names ≤ n → text_of (padded names n text) n ≡ text
text_of-padded names n text past =
    let fill : List Text = replicate (n - length names) [] in
    let size : length (names ++ fill) ≡ n = omega (arith, past, length-append names fill, length-replicate {A = Text} (n - length names) []) in
    let shape : padded names n text ≡ (names ++ fill) ++ text ∷ [] = sym (append_assoc names fill (text ∷ [])) in
    unwrap_or-slice_get (padded names n text) n []
    ∙ ap (λ xs. get_or xs n []) shape
    ∙ ap (λ k. get_or ((names ++ fill) ++ text ∷ []) k []) (sym size)
    ∙ get_or-append_seam (names ++ fill) text [] []

number_held : (names : List Text) (n : ℕ)
    → ((a b : List Text) → OnlyGrows names a → OnlyGrows names b → text_of a n ≡ text_of b n) → n < length names
number_held names n alike = by (cases_lt n (length names))
  where
    by : (n < length names) ⊎ (length names ≤ n) → n < length names
    by (inl within) = within
    by (inr past) =
        let one : Text = 65 ∷ [] in
        let e : [] ≡ one =
        sym (text_of-padded names n [] past)
        ∙ alike (padded names n []) (padded names n one) (_, refl) (_, refl)
        ∙ text_of-padded names n one past in
        cc

-- ---- tokens

abbrev name_in : defined.Kind → Text
name_in (defined.identifier x) = x
name_in (defined.constant x) = x
name_in (defined.instance_variable x) = x
name_in (defined.class_variable x) = x
name_in (defined.symbol x) = x
name_in _ = []

kind_held : (names : List Text) (kind : TokenKind)
    → ((a b : List Text) → OnlyGrows names a → OnlyGrows names b → kind_seen a kind ≡ kind_seen b kind) → HoldsName names kind
kind_held names t.Newline alike = tt
kind_held names (t.Identifier name) alike = number_held names name.0 (λ a b g h. ap name_in (alike a b g h))
kind_held names (t.Constant name) alike = number_held names name.0 (λ a b g h. ap name_in (alike a b g h))
kind_held names (t.Integer n) alike = tt
kind_held names (t.InstanceVariable name) alike = number_held names name.0 (λ a b g h. ap name_in (alike a b g h))
kind_held names (t.ClassVariable name) alike = number_held names name.0 (λ a b g h. ap name_in (alike a b g h))
kind_held names (t.Symbol name) alike = number_held names name.0 (λ a b g h. ap name_in (alike a b g h))
kind_held names (t.Text text) alike = tt
kind_held names (t.TextBegin text) alike = tt
kind_held names (t.TextMiddle text) alike = tt
kind_held names (t.TextEnd text) alike = tt
kind_held names (t.Keyword word) alike = tt
kind_held names (t.Sign sign) alike = tt

abbrev first_in : List defined.Token → defined.Kind
first_in [] = defined.newline
first_in (token ∷ tokens) = token.kind

alike_held : (names : List Text) (tokens : List Token)
    → ((a b : List Text) → OnlyGrows names a → OnlyGrows names b → tokens_seen a tokens ≡ tokens_seen b tokens) → HoldNames names tokens
alike_held names [] alike = tt
alike_held names (token ∷ tokens) alike = (
  kind_held names token.kind (λ a b g h. ap first_in (alike a b g h)),
  alike_held names tokens (λ a b g h. ap (drop 1) (alike a b g h)),
)

abbrev result_in : Result (List defined.Token) defined.Fault → List defined.Token
result_in (Ok tokens) = tokens
result_in _ = []

pub names_held : (names : List Text) (reading : Result (List defined.Token) defined.Fault) (tokens : List Token) → AreTokens names reading tokens → HoldNames names tokens
names_held names reading tokens told = alike_held names tokens (λ a b g h. ap result_in (sym (told a g) ∙ told b h))
