-- Texts with a letter raised and the others lowered, character by character.
use Rattle.std.proofs.Common.{◌≡◌, ◌<◌, ◌≤◌, ◌⊎◌, inl, inr, ℕ, suc, [], ◌∷◌, ◌++◌, length, map, get_or, encode_utf8, refl, sym, ap, subst, ◌∙◌, append-nil, arith}
use Rattle.std.specs.Char.{to_ascii_uppercase}
use Rattle.std.proofs.lemmas.Bool.{cases_lt}
use Rattle.std.proofs.lemmas.Bool.Decides.{nat_tests}
use Rattle.std.proofs.lemmas.List.{map-append}
use Rattle.std.proofs.lemmas.Str.{encode_ascii, inside_one, length-encode, len_utf8_bounds}
use Rattle.zw_def.specs.Text.{Text}
use Rattle.zw_def.specs.Constant.{raised, lowered, capitalized}

-- the bytes of a character past ASCII
byte_high : (c k : ℕ) (bs : Text) → encode_utf8 c ≡ bs → k < length bs → 128 ≤ c → 128 ≤ get_or bs k 0
byte_high c k bs is lt high = by (cases_lt (get_or bs k 0) 128)
  where
    by : (get_or bs k 0 < 128) ⊎ (128 ≤ get_or bs k 0) → 128 ≤ get_or bs k 0
    by (inl low) = absurd (omega (arith, high, low, inside_one c [] bs k (sym is ∙ sym (append-nil (encode_utf8 c))) (subst (λ t. k < length t) (sym is) lt) low))
    by (inr g) = g

lowered_high : (bs : Text) → ((k : ℕ) → k < length bs → 128 ≤ get_or bs k 0) → map lowered bs ≡ bs
lowered_high [] high = refl
lowered_high (b ∷ bs) high =
    let first : 128 ≤ b = high 0 (omega arith) in
    let same : lowered b ≡ b = grind (arith, nat_tests) in
    (λ i. same i ∷ lowered_high bs (λ k lt. high (suc k) (omega (arith, lt))) i)

first_high : (bs rest : Text) → 0 < length bs → ((k : ℕ) → k < length bs → 128 ≤ get_or bs k 0) → capitalized (bs ++ rest) ≡ bs ++ map lowered rest
first_high [] rest some high = absurd (omega (arith, some))
first_high (b ∷ bs) rest some high =
    let first : 128 ≤ b = high 0 (omega arith) in
    let same : raised b ≡ b = grind (arith, nat_tests) in
    (λ i. same i ∷ (map-append lowered bs rest ∙ ap (λ t. t ++ map lowered rest) (lowered_high bs (λ k lt. high (suc k) (omega (arith, lt))))) i)

pub capitalized_first : (c : ℕ) (t rest : Text) → t ≡ encode_utf8 c ++ rest → capitalized t ≡ encode_utf8 (to_ascii_uppercase c) ++ map lowered rest
capitalized_first c t rest is = ap capitalized is ∙ by (cases_lt c 128)
  where
    by : (c < 128) ⊎ (128 ≤ c) → capitalized (encode_utf8 c ++ rest) ≡ encode_utf8 (to_ascii_uppercase c) ++ map lowered rest
    by (inl low) =
        let same : raised c ≡ to_ascii_uppercase c = grind (arith, nat_tests) in
        let upper : to_ascii_uppercase c < 128 = grind (arith, nat_tests) in
        ap (λ u. capitalized (u ++ rest)) (encode_ascii c low) ∙ ap (λ b. b ∷ map lowered rest) same
        ∙ ap (λ u. u ++ map lowered rest) (sym (encode_ascii (to_ascii_uppercase c) upper))
    by (inr high) =
        let same : to_ascii_uppercase c ≡ c = grind (arith, nat_tests) in
        first_high (encode_utf8 c) rest (omega (arith, length-encode c, len_utf8_bounds c)) (λ k lt. byte_high c k (encode_utf8 c) refl lt high)
        ∙ ap (λ d. encode_utf8 d ++ map lowered rest) (sym same)
