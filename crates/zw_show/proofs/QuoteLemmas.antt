-- Texts in quotes, character by character.
use Rattle.std.proofs.Common.{◌≡◌, Bool, true, false, ℕ, ◌<◌, ◌≤◌, ◌⊎◌, inl, inr, List, [], ◌∷◌, ◌++◌, length, cond, nat_lt, refl, ap, sym, ◌∙◌, subst, arith, append_assoc, Result, Ok, Err, string_bytes}
use Rattle.std.specs.Char.{encode_utf8}
use Rattle.std.specs.Result.{IsErrAnd}
use Rattle.std.proofs.Math.Utf8.{encode}
use Rattle.std.proofs.lemmas.Bool.{cases_lt}
use Rattle.std.proofs.lemmas.List.{length-append}
use Rattle.std.proofs.lemmas.Str.{encode_ascii}
use Rattle.zw_base.specs.declared.fault.Fault.{Fault}
use Rattle.zw_base.specs.declared.fault.Fault.TheVariants.{Refused, Memory}
use Rattle.zw_def.specs.Text.{Text}
use Rattle.zw_def_world.specs.Quote.{escaped, escaped_in, escaped_text, quoted_rest}
use Rattle.zw_show.specs.declared.fault.TooLong.{TooLong}
use Rattle.zw_show.specs.declared.writer.Writer.{Writer}
use Rattle.zw_show.specs.Writes.{Writes, escaped_char, quoted_char}

-- ---- bytes past the first 128 stand for themselves

IsHigh : List ℕ → Type 0
IsHigh [] = Unit {0}
IsHigh (b ∷ bs) = (128 ≤ b) × IsHigh bs

escaped-high : (b : ℕ) → 128 ≤ b → escaped b ≡ b ∷ []
escaped-high b le = grind (arith, le)

escaped_in-high : (b : ℕ) (later : Text) → 128 ≤ b → escaped_in b later ≡ b ∷ []
escaped_in-high b later le = grind (arith, le)

high_one_of : (x y : Bool) (p q r : List ℕ) → IsHigh p → IsHigh q → IsHigh r → IsHigh (cond x p (cond y q r))
high_one_of true y p q r a b c = a
high_one_of false true p q r a b c = b
high_one_of false false p q r a b c = c

high_either : (x : Bool) (p q : List ℕ) → IsHigh p → IsHigh q → IsHigh (cond x p q)
high_either true p q a b = a
high_either false p q a b = b

encode-high : (c : ℕ) → 128 ≤ c → IsHigh (encode c)
unfolding encode IsHigh
encode-high c le =
    high_either (nat_lt c 128) (c ∷ []) _ (le, tt)
    (high_one_of (nat_lt c 2048) (nat_lt c 65536) _ _ _ (omega arith, (omega arith, tt)) (omega arith, (omega arith, (omega arith, tt)))
    (omega arith, (omega arith, (omega arith, (omega arith, tt)))))

escaped_text-high : (bs rest : List ℕ) → IsHigh bs → escaped_text (bs ++ rest) ≡ bs ++ escaped_text rest
unfolding IsHigh
escaped_text-high [] rest h = refl
escaped_text-high (b ∷ bs) rest h = ap (λ t. t ++ escaped_text (bs ++ rest)) (escaped-high b h.0) ∙ ap (λ t. b ∷ t) (escaped_text-high bs rest h.1)

quoted_rest-high : (bs rest : List ℕ) → IsHigh bs → quoted_rest (bs ++ rest) ≡ bs ++ quoted_rest rest
unfolding IsHigh
quoted_rest-high [] rest h = refl
quoted_rest-high (b ∷ bs) rest h = ap (λ t. t ++ quoted_rest (bs ++ rest)) (escaped_in-high b (bs ++ rest) h.0) ∙ ap (λ t. b ∷ t) (quoted_rest-high bs rest h.1)

-- ---- a character

pub quoted_rest-char : (c : ℕ) (all rest : Text) → all ≡ encode_utf8 c ++ rest → quoted_rest all ≡ quoted_char c rest ++ quoted_rest rest
quoted_rest-char c all rest e = ap quoted_rest e ∙ by (cases_lt c 128)
  where
    by : (c < 128) ⊎ (128 ≤ c) → quoted_rest (encode_utf8 c ++ rest) ≡ quoted_char c rest ++ quoted_rest rest
    by (inl lt) =
        let t : nat_lt c 128 ≡ true = search (arith, lt) in
        ap (λ bs. quoted_rest (bs ++ rest)) (encode_ascii c lt) ∙ sym (ap (λ b. cond b (escaped_in c rest) (encode_utf8 c) ++ quoted_rest rest) t)
    by (inr le) =
        let t : nat_lt c 128 ≡ false = search (arith, le) in
        quoted_rest-high (encode c) rest (encode-high c le) ∙ sym (ap (λ b. cond b (escaped_in c rest) (encode_utf8 c) ++ quoted_rest rest) t)

pub escaped_text-char : (c : ℕ) (all rest : Text) → all ≡ encode_utf8 c ++ rest → escaped_text all ≡ escaped_char c ++ escaped_text rest
escaped_text-char c all rest e = ap escaped_text e ∙ by (cases_lt c 128)
  where
    by : (c < 128) ⊎ (128 ≤ c) → escaped_text (encode_utf8 c ++ rest) ≡ escaped_char c ++ escaped_text rest
    by (inl lt) =
        let t : nat_lt c 128 ≡ true = search (arith, lt) in
        ap (λ bs. escaped_text (bs ++ rest)) (encode_ascii c lt) ∙ sym (ap (λ b. cond b (escaped c) (encode_utf8 c) ++ escaped_text rest) t)
    by (inr le) =
        let t : nat_lt c 128 ≡ false = search (arith, le) in
        escaped_text-high (encode c) rest (encode-high c le) ∙ sym (ap (λ b. cond b (escaped c) (encode_utf8 c) ++ escaped_text rest) t)

-- ---- what was written, with what is still to be written

-- one more piece
pub one_more : (text more all : Text) (start : Text) (piece rest later : Text) → text ++ rest ≡ start → rest ≡ piece ++ later → more ≡ text ++ piece → more ++ later ≡ start
one_more text more all start piece rest later e cut new =
    ap (λ t. t ++ later) new ∙ append_assoc text piece later ∙ ap (λ t. text ++ t) (sym cut) ∙ e

-- a piece that does not fit
pub no_room : (most : ℕ) (text start piece rest later : Text) → text ++ rest ≡ start → rest ≡ piece ++ later → most < length (text ++ piece) → most < length start
no_room most text start piece rest later e cut lt =
    let a = length-append text piece in
    let b = length-append text rest in
    let d = length-append piece later in
    let f = ap (λ (t : Text). length t) e in
    let g = ap (λ (t : Text). length t) cut in
    omega (arith, lt, a, b, d, f, g)

pub stops : {X : Type 0} (Y : Type 0) (old mid new : Writer) (want rest piece later : Text) → mid.most ≡ old.most → string_bytes mid.text ++ rest ≡ string_bytes old.text ++ want → rest ≡ piece ++ later
    → (f : Fault TooLong) (r : Result X (Fault TooLong)) → r ≡ Err f → Writes {X = Y} mid new piece (Err f) → Writes old new want r
stops {X} Y old mid new want rest piece later most e cut f r is w = subst (Writes old new want) (sym is) (by f w)
  where
    by : (g : Fault TooLong) → Writes {X = Y} mid new piece (Err g) → Writes {X = X} old new want (Err g)
    by (Refused refusal) lt = subst (λ n. n < length (string_bytes old.text ++ want)) most (no_room mid.most (string_bytes mid.text) (string_bytes old.text ++ want) piece rest later e cut lt)
    by Memory lt = tt

pub err_is : {X E : Type 0} (r : Result X E) (f : E) → IsErrAnd r (λ e. e ≡ f) → r ≡ Err f
err_is (Ok x) f a = absurd a
err_is (Err e) f a = ap Err a

-- two pieces, the first of which is written
pub Writes-then : {X : Type 0} (old mid new : Writer) (p q : Text) (r : Result X (Fault TooLong)) → string_bytes mid.text ≡ string_bytes old.text ++ p → mid.most ≡ old.most → Writes mid new q r → Writes old new (p ++ q) r
Writes-then old mid new p q (Ok x) first most w = (w.0 ∙ ap (λ t. t ++ q) first ∙ append_assoc (string_bytes old.text) p q, w.1 ∙ most)
Writes-then old mid new p q (Err (Refused refusal)) first most w =
    let whole = ap (λ t. t ++ q) first ∙ append_assoc (string_bytes old.text) p q in
    subst (λ (t : Text). old.most < length t) whole (subst (λ n. n < length (string_bytes mid.text ++ q)) most w)
Writes-then old mid new p q (Err Memory) first most w = tt
