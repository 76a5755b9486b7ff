-- The number that the digits at the begin of a text write.
use Rattle.std.proofs.Common.{◌≡◌, ◌+◌, ◌*◌, ◌<◌, ◌≤◌, ℕ, suc, true, List, [], ◌∷◌, length, get_or, take, drop, take_while, cond, Option, None, refl, sym, ap, subst, ◌∙◌, arith}
use Rattle.zw_lemmas.proofs.ListLemmas.{drop-at}
use Rattle.std.specs.List.{prefix_len}
use Rattle.std.specs.Option.{SomeIff}
use Rattle.std.specs.Str.Parse.{digits_value_after}
use Rattle.std.specs.Char.{digit_value}
use Rattle.zw_def.specs.Text.{Text, is_digit}

abbrev pub number_after : ℕ → Text → ℕ
number_after n t = digits_value_after 10 n (take_while is_digit t)

no_less : (n : ℕ) (ds : List ℕ) → n ≤ digits_value_after 10 n ds
no_less n [] = omega arith
no_less n (c ∷ cs) = omega (arith, no_less (n * 10 + digit_value c) cs)

pub more-digits : (n b d : ℕ) (bs : Text) → is_digit b ≡ true → digit_value b ≡ d → number_after n (b ∷ bs) ≡ number_after (n * 10 + d) bs
more-digits n b d bs digit value =
    ap (λ t. digits_value_after 10 n (take (cond t (1 + prefix_len is_digit bs) 0) (b ∷ bs))) digit
    ∙ one-on
    ∙ ap (λ v. digits_value_after 10 (n * 10 + v) (take_while is_digit bs)) value
  where
    one-on : digits_value_after 10 n (take (1 + prefix_len is_digit bs) (b ∷ bs)) ≡ digits_value_after 10 (n * 10 + digit_value b) (take_while is_digit bs)
    one-on = let e : 1 + prefix_len is_digit bs ≡ suc (prefix_len is_digit bs) = omega arith in ap (λ m. digits_value_after 10 n (take m (b ∷ bs))) e

-- ---- at a place of a text

-- the byte at a place is a digit, and goes into the number
pub digit_there : (t : Text) (i n all : ℕ) → i < length t → is_digit (get_or t i 0) ≡ true → number_after n (drop i t) ≡ all → number_after (n * 10 + digit_value (get_or t i 0)) (drop (i + 1) t) ≡ all
digit_there t i n all lt digit told =
    sym (ap (number_after n) (drop-at t i (i + 1) 0 lt (omega arith)) ∙ more-digits n (get_or t i 0) (digit_value (get_or t i 0)) (drop (i + 1) t) digit refl) ∙ told

-- or makes it too high
pub digits_past : (most : ℕ) (t : Text) (i n all : ℕ) → i < length t → is_digit (get_or t i 0) ≡ true → number_after n (drop i t) ≡ all → (n * 10 + digit_value (get_or t i 0) < most → ⊥) → all < most → ⊥
digits_past most t i n all lt digit told high small =
    let more = n * 10 + digit_value (get_or t i 0) in
    let rest = take_while is_digit (drop (i + 1) t) in
    high (omega (arith, small, digit_there t i n all lt digit told, no_less more rest))

pub nothing-fits : (o : Option ℕ) (P : Type 0) (n : ℕ) → o ≡ None → (P → ⊥) → SomeIff o P n
nothing-fits o P n is high = subst (λ r. SomeIff r P n) (sym is) high
