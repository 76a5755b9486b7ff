-- The pieces between the places of a separator that is not empty.
use Rattle.std.proofs.Common.{◌≡◌, ◌<◌, ◌≤◌, ◌+◌, ℕ, zero, suc, Bool, true, false, List, [], ◌∷◌, ◌++◌, length, take, drop, refl, sym, ap, ◌∙◌, append_assoc, append-nil, length-append, length-drop, arith}
use Rattle.std.specs.Str.Pattern.{LacksTextAt}
use Rattle.std.specs.Str.{bytes_eq}
use Rattle.std.proofs.Math.Seq.{drop-append_seam}
use Rattle.zw_def.specs.Text.{Text}
use Rattle.zw_def_world.specs.StringRows.{cut}
use Rattle.zw_strings.proofs.TextLemmas.{front-is, front-other}

module _ (separator : Text) (some : 0 < length separator) where
  -- at a byte where the separator does not stand
  cut-past : (n : ℕ) (piece : Text) (b : ℕ) (bs : Text) → LacksTextAt separator (b ∷ bs) 0 → cut (suc n) separator piece (b ∷ bs) ≡ cut n separator (piece ++ b ∷ []) bs
  cut-past n piece b bs lacks = rw (front-other separator (b ∷ bs) lacks) refl

  -- and where it stands
  cut-there : (n : ℕ) (piece : Text) (b : ℕ) (bs after : Text) → b ∷ bs ≡ separator ++ after → cut (suc n) separator piece (b ∷ bs) ≡ piece ∷ cut n separator [] (drop (length separator) (b ∷ bs))
  cut-there n piece b bs after e = rw (front-is separator after (b ∷ bs) e) refl

  -- a separator that stands at no place leaves the whole text
  pub cut-whole : (n : ℕ) (piece t : Text) → length t < n → ((i : ℕ) → i ≤ length t → LacksTextAt separator t i) → cut n separator piece t ≡ (piece ++ t) ∷ []
  cut-whole zero piece t lt lacks = absurd (omega (arith, lt))
  cut-whole (suc n) piece [] lt lacks = ap (λ p. p ∷ []) (sym (append-nil piece))
  cut-whole (suc n) piece (b ∷ bs) lt lacks =
      cut-past n piece b bs (lacks 0 (omega arith))
      ∙ cut-whole n (piece ++ b ∷ []) bs (omega (arith, lt)) (λ i le rest. lacks (suc i) (omega (arith, le)) rest)
      ∙ ap (λ p. p ∷ []) (append_assoc piece (b ∷ []) bs)

  -- the number decides nothing, where it is more than there are bytes
  same : (m n : ℕ) (piece t : Text) → length t < m → length t < n → cut m separator piece t ≡ cut n separator piece t
  same zero n piece t lm ln = absurd (omega (arith, lm))
  same m zero piece t lm ln = absurd (omega (arith, ln))
  same (suc m) (suc n) piece [] lm ln = refl
  same (suc m) (suc n) piece (b ∷ bs) lm ln =
      let shorter : length (drop (length separator) (b ∷ bs)) ≤ length bs = omega (arith, some, length-drop (length separator) (b ∷ bs)) in
      by (bytes_eq (take (length separator) (b ∷ bs)) separator) refl
      (same m n [] (drop (length separator) (b ∷ bs)) (omega (arith, lm, shorter)) (omega (arith, ln, shorter)))
      (same m n (piece ++ b ∷ []) bs (omega (arith, lm)) (omega (arith, ln)))
    where
      by : (t : Bool) → bytes_eq (take (length separator) (b ∷ bs)) separator ≡ t → cut m separator [] (drop (length separator) (b ∷ bs)) ≡ cut n separator [] (drop (length separator) (b ∷ bs)) → cut m separator (piece ++ b ∷ []) bs ≡ cut n separator (piece ++ b ∷ []) bs → cut (suc m) separator piece (b ∷ bs) ≡ cut (suc n) separator piece (b ∷ bs)
      by true e there past = rw e (ap (λ ts. piece ∷ ts) there)
      by false e there past = rw e past

  -- the first place of the separator ends the first piece
  cut-first : (n i : ℕ) (piece t after : Text) → length t < n → i ≤ length t → ((k : ℕ) → k < i → LacksTextAt separator t k) → drop i t ≡ separator ++ after → cut n separator piece t ≡ (piece ++ take i t) ∷ cut (suc (length after)) separator [] after
  cut-first zero i piece t after lt le lacks e = absurd (omega (arith, lt))
  cut-first (suc n) zero piece [] after lt le lacks e = absurd (omega (arith, some, ap length e, length-append separator after))
  cut-first (suc n) zero piece (b ∷ bs) after lt le lacks e =
      let rest : drop (length separator) (b ∷ bs) ≡ after = ap (drop (length separator)) e ∙ drop-append_seam separator after in
      let lengths : length (b ∷ bs) ≡ length separator + length after = ap length e ∙ length-append separator after in
      cut-there n piece b bs after e
      ∙ ap (λ t. piece ∷ cut n separator [] t) rest
      ∙ ap (λ ts. piece ∷ ts) (same n (suc (length after)) [] after (omega (arith, lt, lengths, some)) (omega arith))
      ∙ ap (λ p. p ∷ cut (suc (length after)) separator [] after) (sym (append-nil piece))
  cut-first (suc n) (suc i) piece [] after lt le lacks e = absurd (omega (arith, le))
  cut-first (suc n) (suc i) piece (b ∷ bs) after lt le lacks e =
      cut-past n piece b bs (lacks 0 (omega arith))
      ∙ cut-first n i (piece ++ b ∷ []) bs after (omega (arith, lt)) (omega (arith, le)) (λ k l rest. lacks (suc k) (omega (arith, l)) rest) e
      ∙ ap (λ p. p ∷ cut (suc (length after)) separator [] after) (append_assoc piece (b ∷ []) (take i bs))

  -- a text that is split at the first place of the separator
  pub cut_once : (t piece after : Text) (i j : ℕ) → i ≤ length t → ((k : ℕ) → k < i → LacksTextAt separator t k) → drop i t ≡ separator ++ drop j t → piece ≡ take i t → after ≡ drop j t → cut (suc (length t)) separator [] t ≡ piece ∷ cut (suc (length after)) separator [] after
  cut_once t piece after i j le lacks e p a =
      cut-first (suc (length t)) i [] t (drop j t) (omega arith) le lacks e
      ∙ (λ k. sym p k ∷ cut (suc (length (sym a k))) separator [] (sym a k))

pub piece-more : (front later left : List Text) (piece : Text) → left ≡ piece ∷ later → (front ++ piece ∷ []) ++ later ≡ front ++ left
piece-more front later left piece is = append_assoc front (piece ∷ []) later ∙ ap (λ ts. front ++ ts) (sym is)
