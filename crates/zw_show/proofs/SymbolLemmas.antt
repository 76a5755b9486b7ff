-- Whether one token is the symbol of a text.
use Rattle.std.proofs.Common.{◌≡◌, Bool, true, false, ℕ, zero, suc, ◌+◌, ◌-◌, ◌<◌, ◌≤◌, ◌⊎◌, inl, inr, List, [], ◌∷◌, ◌++◌, length, nat_eq, slice_get, get_or, Some, Result, refl, ap, sym, ◌∙◌, arith, unwrap_or}
use Rattle.std.specs.Str.{bytes_eq}
use Rattle.std.proofs.lemmas.Bool.{cases_lt}
use Rattle.std.proofs.lemmas.List.{length-append, get_or-append-add, append-nil}
use Rattle.std.proofs.lemmas.Option.{slice_get_within, slice_get_read}
use Rattle.std.proofs.lemmas.Slice.Eq.{bytes_eq-Decides}
use Rattle.zw_def.specs.Text.{Text}
use Rattle.zw_def.specs.Names.{IsDistinct, OnlyGrows, text_of}
use Rattle.zw_def.proofs.NameLemmas.{named_as, OnlyGrows-trans}
use Rattle.zw_def_syntax.specs.Token as defined
use Rattle.zw_def_world.specs.Quote.{is_one_symbol, is_symbol_kind}
use Rattle.zw_lexer.specs.declared.token.Token.{Token}
use Rattle.zw_lexer.specs.declared.token.TokenKind.{TokenKind}
use Rattle.zw_lexer.specs.Token.{AreTokens, kind_seen}
use Rattle.zw_names.specs.declared.names.Name.{Name}
use Rattle.zw_lexer.specs.declared.token.TokenKind.TheVariants as t

many : {X : Type 0} → X → ℕ → List X
many x zero = []
many x (suc n) = x ∷ many x n

many-length : {X : Type 0} (x : X) (n : ℕ) → length (many x n) ≡ n
unfolding many
many-length x zero = refl
many-length x (suc n) = let h = many-length x n in omega (arith, h)

many-at : {X : Type 0} (x d : X) (n i : ℕ) → i < n → get_or (many x n) i d ≡ x
unfolding many
many-at x d zero i lt = absurd (omega (arith, lt))
many-at x d (suc n) zero lt = refl
many-at x d (suc n) (suc i) lt = many-at x d n i (omega (arith, lt))

no_pair : (n m : ℕ) → (n ≡ m → ⊥) → nat_eq n m ≡ false
no_pair n m h = search (arith, h)

longer_not : (text : Text) → bytes_eq (text ++ 0 ∷ []) text ≡ false
longer_not text = by (bytes_eq (text ++ 0 ∷ []) text) refl
  where
    by : (b : Bool) → bytes_eq (text ++ 0 ∷ []) text ≡ b → b ≡ false
    by true e =
        let same = ap (λ (s : Text). length s) ((bytes_eq-Decides (text ++ 0 ∷ []) text).0 e) in
        let len = length-append text (0 ∷ []) in absurd (omega (arith, same, len))
    by false e = refl

-- a token whose name has the number m, by a table in which the text has the number n
pub symbol_by : (old new : List Text) (text : Text) (n : ℕ) (name : Name) (token : Token) → token.kind ≡ t.Symbol name → (reading : Result (List defined.Token) defined.Fault)
    → OnlyGrows old new → IsDistinct new → slice_get new n ≡ Some text → AreTokens old reading (token ∷ []) → nat_eq n name.0 ≡ is_one_symbol text reading
symbol_by old new text n name token kind reading grows distinct at are = by (cases_lt name.0 (length new))
  where
    told : (all : List Text) → OnlyGrows old all → is_one_symbol text reading ≡ bytes_eq (text_of all name.0) text
    told all g = ap (is_one_symbol text) (are all g) ∙ ap (λ kd. is_symbol_kind text (kind_seen all kd)) kind

    by : (name.0 < length new) ⊎ (length new ≤ name.0) → nat_eq n name.0 ≡ is_one_symbol text reading
    by (inl lt) = sym (named_as new n name.0 text distinct at lt) ∙ sym (told new grows)
    by (inr le) =
        let other : Text = text ++ 0 ∷ [] in
        let pad = many other (name.0 + 1) in
        let all = new ++ pad in
        let within = slice_get_within new n text at in
        let len = length-append new pad in
        let plen = many-length other (name.0 + 1) in
        let place : length new + (name.0 - length new) ≡ name.0 = omega (arith, le) in
        let there : get_or all name.0 other ≡ other = ap (λ k. get_or all k other) (sym place) ∙ get_or-append-add new pad (name.0 - length new) other ∙ many-at other other (name.0 + 1) (name.0 - length new) (omega arith) in
        let read : slice_get all name.0 ≡ Some other = slice_get_read all (length all) name.0 other refl (omega (arith, len, plen)) (sym there) in
        no_pair n name.0 (λ e. omega (arith, e, within, le)) ∙ sym (told all (OnlyGrows-trans old new all grows (pad, refl)) ∙ ap (λ o. bytes_eq (unwrap_or o []) text) read ∙ longer_not text)

-- ---- other tokens

pub not_one : (old : List Text) (text : Text) (tokens : List Token) (reading : Result (List defined.Token) defined.Fault) → (length tokens ≡ 1 → ⊥) → AreTokens old reading tokens → false ≡ is_one_symbol text reading
not_one old text [] reading h are = sym (ap (is_one_symbol text) (are old ([], sym (append-nil old))))
not_one old text (x ∷ []) reading h are = absurd (h refl)
not_one old text (x ∷ y ∷ more) reading h are = sym (ap (is_one_symbol text) (are old ([], sym (append-nil old))))

kind_not : (names : List Text) (text : Text) (kind : TokenKind) → ((name : Name) → kind ≡ t.Symbol name → ⊥) → is_symbol_kind text (kind_seen names kind) ≡ false
kind_not names text t.Newline h = refl
kind_not names text (t.Identifier x) h = refl
kind_not names text (t.Constant x) h = refl
kind_not names text (t.Integer x) h = refl
kind_not names text (t.InstanceVariable x) h = refl
kind_not names text (t.ClassVariable x) h = refl
kind_not names text (t.Symbol x) h = absurd (h x refl)
kind_not names text (t.Text x) h = refl
kind_not names text (t.TextBegin x) h = refl
kind_not names text (t.TextMiddle x) h = refl
kind_not names text (t.TextEnd x) h = refl
kind_not names text (t.Keyword x) h = refl
kind_not names text (t.Sign x) h = refl

pub one_of : (tokens : List Token) (x : Token) → 1 ≤ length tokens → length tokens < 2 → x ≡ get_or tokens 0 x → tokens ≡ x ∷ []
one_of [] x a b e = absurd (omega (arith, a))
one_of (y ∷ []) x a b e = ap (λ z. z ∷ []) (sym e)
one_of (y ∷ z ∷ more) x a b e = absurd (omega (arith, b))

pub other_kind : (old : List Text) (text : Text) (token : Token) (reading : Result (List defined.Token) defined.Fault) → ((name : Name) → token.kind ≡ t.Symbol name → ⊥) → AreTokens old reading (token ∷ []) → false ≡ is_one_symbol text reading
other_kind old text token reading h are = sym (ap (is_one_symbol text) (are old ([], sym (append-nil old))) ∙ kind_not old text token.kind h)
