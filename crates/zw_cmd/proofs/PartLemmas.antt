-- The parts of a line, and the first of some lines.
use Rattle.std.proofs.Common.{◌≡◌, ◌≢◌, ◌≤◌, ◌<◌, ◌+◌, ◌++◌, ◌==◌, cond, not, ℕ, suc, Bool, true, false, List, [], ◌∷◌, Option, Some, None, MatchOption, length, take, drop, get_or, nat_lt, refl, sym, ap, ◌∙◌, take-append-drop, arith}
use Rattle.std.specs.List.{position, position_or_len, onto_first}
use Rattle.std.proofs.lemmas.Bool.Decides.{nat_tests}
use Rattle.std.proofs.lemmas.List.{take_all}
use Rattle.std.proofs.lemmas.List.Splits.{join_with_byte-slice_split}
use Rattle.std.specs.Str.Pattern.{RFindsChar}
use Rattle.std.proofs.lemmas.Str.Pattern.{NoCharPasses-char, drop_at_char}
use Rattle.std.proofs.Math.ListN.{drop_of_length-le}
use Rattle.zw_def.proofs.PieceLemmas.{pieces_nonempty, pieces-none}
use Rattle.zw_def.specs.Text.{Text, pieces, joined}
use Rattle.zw_def.specs.Line.{line_of, after_line}
use Rattle.zw_def_session.specs.Commands.{is_line_end, without_return, last_of, before_last, last_word, before_last_space}

-- ---- a line without its CR

pub without_return-cr : (front : Text) → without_return (front ++ 13 ∷ []) ≡ front
without_return-cr [] = refl
without_return-cr (b ∷ []) = refl
without_return-cr (b ∷ c ∷ more) = ap (λ t. b ∷ t) (without_return-cr (c ∷ more))

one_by : (b : ℕ) (t : Bool) → t ≡ (b == 13) → b ≢ 13 → cond t [] (b ∷ []) ≡ b ∷ []
one_by b true is other = absurd (other (grind (arith, nat_tests)))
one_by b false is other = refl

pub without_return-none : (line : Text) → ((front : Text) → line ≢ front ++ 13 ∷ []) → without_return line ≡ line
without_return-none [] other = refl
without_return-none (b ∷ []) other = one_by b (b == 13) refl (λ cr. other [] (ap (λ x. x ∷ []) cr))
without_return-none (b ∷ c ∷ more) other =
    ap (λ t. b ∷ t) (without_return-none (c ∷ more) (λ front is. other (b ∷ front) (ap (λ t. b ∷ t) is)))

-- ---- the first of some lines

line_place : (bytes : Text) → line_of bytes ≡ take (position_or_len is_line_end bytes) bytes
line_place [] = refl
line_place (b ∷ bs) = by (b == 10) (position_or_len is_line_end bs) (line_place bs) where
  by : (t : Bool) (n : ℕ) → line_of bs ≡ take n bs → cond t [] (b ∷ line_of bs) ≡ take (cond (not t) (1 + n) 0) (b ∷ bs)
  by true n rest = refl
  by false n rest = let size : suc n ≡ 1 + n = omega arith in ap (λ t. b ∷ t) rest ∙ ap (λ k. take k (b ∷ bs)) size

after_place : (bytes : Text) → after_line bytes ≡ drop (position_or_len is_line_end bytes + 1) bytes
after_place [] = refl
after_place (b ∷ bs) = by (b == 10) (position_or_len is_line_end bs) (after_place bs) where
  by : (t : Bool) (n : ℕ) → after_line bs ≡ drop (n + 1) bs → cond t bs (after_line bs) ≡ drop (cond (not t) (1 + n) 0 + 1) (b ∷ bs)
  by true n rest = refl
  by false n rest = let size : suc (n + 1) ≡ 1 + n + 1 = omega arith in rest ∙ ap (λ k. drop k (b ∷ bs)) size

-- at the place of the first LF, and where there is none
pub first_line : (bytes : Text) (place : Option ℕ) → place ≡ position is_line_end bytes → MatchOption place ((line_of bytes ≡ bytes) × (after_line bytes ≡ [])) (λ at. (line_of bytes ≡ take at bytes) × (after_line bytes ≡ drop (at + 1) bytes))
first_line bytes place is = by (nat_lt n (length bytes)) refl place is where
  n : ℕ
  n = position_or_len is_line_end bytes

  by : (t : Bool) → t ≡ nat_lt n (length bytes) → (p : Option ℕ) → p ≡ cond t (Some n) None → MatchOption p ((line_of bytes ≡ bytes) × (after_line bytes ≡ [])) (λ at. (line_of bytes ≡ take at bytes) × (after_line bytes ≡ drop (at + 1) bytes))
  by true within None is = absurd (cc)
  by true within (Some at) is =
      let e : at ≡ n = grind arith in
      (line_place bytes ∙ ap (λ k. take k bytes) (sym e), after_place bytes ∙ ap (λ k. drop (k + 1) bytes) (sym e))
  by false within (Some at) is = absurd (cc)
  by false within None is =
      let past : length bytes ≤ n = grind (arith, nat_tests) in
      (line_place bytes ∙ take_all n bytes past, after_place bytes ∙ drop_of_length-le bytes (omega arith))

-- ---- the last word of a rest

-- no byte is a space
abbrev pub HasNoSpace : Text → Type 0
HasNoSpace text = (i : ℕ) → i < length text → get_or text i 0 ≢ 32

pub last_word-none : (rest : Text) → HasNoSpace rest → (before_last_space rest ≡ []) × (last_word rest ≡ rest)
last_word-none rest none = (ap (λ ps. joined 32 (before_last ps)) (pieces-none 32 rest none), ap (last_of []) (pieces-none 32 rest none))

-- the pieces of a front, a space and a word are those of the front and the word
pieces_more : (front word : Text) → HasNoSpace word → pieces 32 (front ++ 32 ∷ word) ≡ pieces 32 front ++ word ∷ []
pieces_more [] word none = ap (λ ps. [] ∷ ps) (pieces-none 32 word none)
pieces_more (b ∷ bs) word none = ap (λ ps. cond (b == 32) ([] ∷ ps) (onto_first b ps)) (pieces_more bs word none) ∙ by (b == 32) (pieces 32 bs) (pieces_nonempty 32 bs) where
  by : (t : Bool) (ps : List Text) → 0 < length ps → cond t ([] ∷ (ps ++ word ∷ [])) (onto_first b (ps ++ word ∷ [])) ≡ cond t ([] ∷ ps) (onto_first b ps) ++ word ∷ []
  by true ps some = refl
  by false [] some = absurd (omega (arith, some))
  by false (p ∷ ps) some = refl

last_more : (t : Text) (ps : List Text) (word : Text) → last_of t (ps ++ word ∷ []) ≡ word
last_more t [] word = refl
last_more t (p ∷ ps) word = last_more p ps word

before_more : (ps : List Text) (word : Text) → before_last (ps ++ word ∷ []) ≡ ps
before_more [] word = refl
before_more (p ∷ []) word = refl
before_more (p ∷ q ∷ more) word = ap (λ ts. p ∷ ts) (before_more (q ∷ more) word)

pub last_word-space : (rest front word : Text) → rest ≡ front ++ 32 ∷ word → HasNoSpace word → (before_last_space rest ≡ front) × (last_word rest ≡ word)
last_word-space rest front word is none =
    let cut : pieces 32 rest ≡ pieces 32 front ++ word ∷ [] = ap (pieces 32) is ∙ pieces_more front word none in
    (ap (λ ps. joined 32 (before_last ps)) cut ∙ ap (joined 32) (before_more (pieces 32 front) word) ∙ join_with_byte-slice_split 32 front, ap (last_of []) cut ∙ last_more [] (pieces 32 front) word)

-- where the last space is found
pub last_word-found : (rest front word : Text) (i j : ℕ) → RFindsChar 32 rest (Some (i, j)) → 32 < 128 → front ≡ take i rest → word ≡ drop j rest → (before_last_space rest ≡ front) × (last_word rest ≡ word)
last_word-found rest front word i j found low is after =
    last_word-space rest front word
    (sym (take-append-drop i rest) ∙ ap (λ t. take i rest ++ t) (drop_at_char 32 rest i j found.1 low) ∙ (λ k. sym is k ++ 32 ∷ sym after k))
    (λ k less. NoCharPasses-char 32 word k (rw after found.0) low less)
