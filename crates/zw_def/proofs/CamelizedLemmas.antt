-- A base name, letter by letter, and character by character.
use Rattle.std.proofs.Common.{◌≡◌, ◌≢◌, ◌<◌, ◌≤◌, ◌⊎◌, inl, inr, ◌++◌, ◌==◌, ℕ, Bool, true, false, List, [], ◌∷◌, length, get_or, map, cond, refl, sym, ap, ◌∙◌, arith, subst, append-nil, encode_utf8}
use Rattle.std.specs.List.{All, concat, onto_first}
use Rattle.std.proofs.lemmas.Bool.{cases_lt}
use Rattle.std.proofs.lemmas.Bool.Decides.{nat_tests}
use Rattle.std.proofs.lemmas.Grind.{get_or_default_zero}
use Rattle.std.proofs.lemmas.List.Elements.{All-head, All-tail}
use Rattle.std.proofs.lemmas.Str.{encode_ascii, inside_one, length-encode, len_utf8_bounds}
use Rattle.zw_def.specs.Text.{pieces}
use Rattle.zw_def.specs.Constant.{camelized, capitalized, raised, lowered}

-- the name that the bytes give, at the begin of a part or within one
abbrev pub letters : Bool → List ℕ → List ℕ
letters begins [] = []
letters begins (b ∷ bs) = cond (b == 95) (letters true bs) (cond begins (raised b) (lowered b) ∷ letters false bs)

-- the pieces, of which the first has begun
abbrev pub within : List (List ℕ) → List ℕ
within [] = []
within (piece ∷ pieces) = map lowered piece ++ concat (map capitalized pieces)

pub record Both (bs : List ℕ) : Type 0 where
  pub begun : concat (map capitalized (pieces 95 bs)) ≡ letters true bs
  pub inside : within (pieces 95 bs) ≡ letters false bs

begin : (b : ℕ) (ps : List (List ℕ)) → concat (map capitalized (onto_first b ps)) ≡ raised b ∷ within ps
begin b [] = refl
begin b (p ∷ ps) = refl

go_on : (b : ℕ) (ps : List (List ℕ)) → within (onto_first b ps) ≡ lowered b ∷ within ps
go_on b [] = refl
go_on b (p ∷ ps) = refl

both_by : (b : ℕ) (bs : List ℕ) (t : Bool) → (b == 95) ≡ t → Both bs → Both (b ∷ bs)
both_by b bs true is both = record {
  begun = rw is both.begun;
  inside = rw is both.begun;
}
both_by b bs false is both = record {
  begun = rw is (begin b (pieces 95 bs) ∙ ap (λ l. raised b ∷ l) both.inside);
  inside = rw is (go_on b (pieces 95 bs) ∙ ap (λ l. lowered b ∷ l) both.inside);
}

both : (bs : List ℕ) → Both bs
both [] = record { begun = refl; inside = refl }
both (b ∷ bs) = both_by b bs _ refl (both bs)

pub camelized_letters : (base : List ℕ) → camelized base ≡ letters true base
camelized_letters base = (both base).begun

-- ---- characters in UTF-8

-- bytes past ASCII stay as they are
letters_high : (bs rest : List ℕ) → All (λ b. 128 ≤ b) bs → letters false (bs ++ rest) ≡ bs ++ letters false rest
letters_high [] rest high = refl
letters_high (b ∷ bs) rest high =
    let first : 128 ≤ b = All-head (λ b. 128 ≤ b) b bs high in
    let other : (b == 95) ≡ false = grind (arith, nat_tests) in
    let same : lowered b ≡ b = grind (arith, nat_tests) in
    ap (λ t. cond t (letters true (bs ++ rest)) (lowered b ∷ letters false (bs ++ rest))) other
    ∙ (λ i. same i ∷ letters_high bs rest (All-tail (λ b. 128 ≤ b) b bs high) i)

letters_high_first : (begins : Bool) (b : ℕ) (bs rest : List ℕ) → 128 ≤ b → All (λ b. 128 ≤ b) bs → letters begins (b ∷ bs ++ rest) ≡ b ∷ bs ++ letters false rest
letters_high_first begins b bs rest first high =
    let other : (b == 95) ≡ false = grind (arith, nat_tests) in
    ap (λ t. cond t (letters true (bs ++ rest)) (cond begins (raised b) (lowered b) ∷ letters false (bs ++ rest))) other
    ∙ (λ i. same begins i ∷ letters_high bs rest high i)
  where
    same : (t : Bool) → cond t (raised b) (lowered b) ≡ b
    same true = grind (arith, nat_tests)
    same false = grind (arith, nat_tests)

encode_high : (c : ℕ) → 128 ≤ c → All (λ b. 128 ≤ b) (encode_utf8 c)
encode_high c high k d lt = by (cases_lt (get_or (encode_utf8 c) k 0) 128) where
  by : (get_or (encode_utf8 c) k 0 < 128) ⊎ (128 ≤ get_or (encode_utf8 c) k 0) → 128 ≤ get_or (encode_utf8 c) k d
  by (inl low) = absurd (omega (arith, high, low, inside_one c [] (encode_utf8 c) k (sym (append-nil (encode_utf8 c))) lt low))
  by (inr g) = rw (get_or_default_zero (encode_utf8 c) k d lt) g

letters_past : (begins : Bool) (c : ℕ) (bs rest : List ℕ) → encode_utf8 c ≡ bs → 0 < length bs → 128 ≤ c → letters begins (bs ++ rest) ≡ bs ++ letters false rest
letters_past begins c [] rest is some high = absurd (omega arith)
letters_past begins c (b ∷ bs) rest is some high =
    let all : All (λ b. 128 ≤ b) (b ∷ bs) = subst (All (λ b. 128 ≤ b)) is (encode_high c high) in
    letters_high_first begins b bs rest (All-head (λ b. 128 ≤ b) b bs all) (All-tail (λ b. 128 ≤ b) b bs all)

-- the character `_` ends a part
pub letters-part : (begins : Bool) (c : ℕ) (bs rest : List ℕ) → bs ≡ encode_utf8 c ++ rest → c ≡ 95 → letters begins bs ≡ letters true rest
letters-part begins c bs rest front is = ap (letters begins) (front ∙ ap (λ x. encode_utf8 x ++ rest) is ∙ ap (λ e. e ++ rest) (encode_ascii 95 (omega arith)))

-- a letter is raised or lowered where it is ASCII, and any other character stays as it is
pub letters-character : (begins : Bool) (c : ℕ) (bs rest : List ℕ) → bs ≡ encode_utf8 c ++ rest → c ≢ 95 → letters begins bs ≡ encode_utf8 (cond begins (raised c) (lowered c)) ++ letters false rest
letters-character begins c bs rest front other = ap (letters begins) front ∙ by (cases_lt c 128) where
  same : 128 ≤ c → (t : Bool) → cond t (raised c) (lowered c) ≡ c
  same high true = grind (arith, nat_tests)
  same high false = grind (arith, nat_tests)

  low : c < 128 → (t : Bool) → cond t (raised c) (lowered c) < 128
  low below true = grind (arith, nat_tests)
  low below false = grind (arith, nat_tests)

  by : (c < 128) ⊎ (128 ≤ c) → letters begins (encode_utf8 c ++ rest) ≡ encode_utf8 (cond begins (raised c) (lowered c)) ++ letters false rest
  by (inl below) =
      let is : (c == 95) ≡ false = grind (arith, nat_tests) in
      ap (λ e. letters begins (e ++ rest)) (encode_ascii c below)
      ∙ ap (λ t. cond t (letters true rest) (cond begins (raised c) (lowered c) ∷ letters false rest)) is
      ∙ ap (λ e. e ++ letters false rest) (sym (encode_ascii (cond begins (raised c) (lowered c)) (low below begins)))
  by (inr high) =
      letters_past begins c (encode_utf8 c) rest refl (subst (λ n. 0 < n) (sym (length-encode c)) (len_utf8_bounds c).0) high
      ∙ ap (λ x. encode_utf8 x ++ letters false rest) (sym (same high begins))
