-- The contents of texts, read element by element.
use Rattle.std.proofs.Common.{◌≡◌, ℕ, zero, suc, ◌+◌, ◌-◌, ◌<◌, ◌≤◌, arith, Bool, true, false, List, [], ◌∷◌, ◌++◌, length, drop, Option, Some, None, Result, Ok, Err, refl, ap, sym, ◌∙◌, append_assoc, append-nil, encode_utf8, if◌then◌else◌}
use Rattle.std.specs.Str.{encode_utf8_all}
use Rattle.std.proofs.lemmas.Str.{encodes-append}
use Rattle.std.proofs.lemmas.List.{drop-drop}
use Rattle.std.specs.Option.{option_map_or}
use Rattle.zw_def_syntax.specs.Token.{Reason, unended_text, outside_escape}
use Rattle.zw_def_syntax.specs.Character.{Characters}
use Rattle.zw_def_syntax.specs.Content.{Content, Element, content, one_more, with_character}

abbrev made : Characters → Bool → ℕ → Result Content Reason
made held opens size = Ok (record { held = held; opens = opens; size = size })

-- a content with characters before it, which so many characters tell
abbrev pub onto : Characters → ℕ → Result Content Reason → Result Content Reason
onto front n (Ok c) = Ok (record { held = front ++ c.held; opens = c.opens; size = n + c.size })
onto front n (Err reason) = Err reason

pub onto_none : (r : Result Content Reason) → onto [] 0 r ≡ r
onto_none (Ok c) = let e : 0 + c.size ≡ c.size = omega arith in ap (made c.held c.opens) e
onto_none (Err reason) = refl

pub onto_onto : (xs ys : Characters) (m n : ℕ) (r : Result Content Reason) → onto xs m (onto ys n r) ≡ onto (xs ++ ys) (m + n) r
onto_onto xs ys m n (Ok c) =
    let e : m + (n + c.size) ≡ m + n + c.size = omega arith in
    ap (λ held. made held c.opens (m + (n + c.size))) (sym (append_assoc xs ys c.held)) ∙ ap (made (xs ++ ys ++ c.held) c.opens) e
onto_onto xs ys m n (Err reason) = refl

one_more_onto : (n : ℕ) (r : Result Content Reason) → one_more (onto [] n r) ≡ onto [] (suc n) r
one_more_onto n (Ok c) = let e : n + c.size + 1 ≡ suc n + c.size = omega arith in ap (made c.held c.opens) e
one_more_onto n (Err reason) = refl

with_character_onto : (x n : ℕ) (r : Result Content Reason) → with_character x (onto [] n r) ≡ onto (x ∷ []) (suc n) r
with_character_onto x n (Ok c) = let e : n + c.size + 1 ≡ suc n + c.size = omega arith in ap (made (x ∷ c.held) c.opens) e
with_character_onto x n (Err reason) = refl

module _ (ends opens : Characters → Bool) (element_of : Characters → Option Element) where
  -- what an element takes is passed over
  skips : (n : ℕ) (cs : Characters) → n ≤ length cs → content ends opens element_of n cs ≡ onto [] n (content ends opens element_of 0 (drop n cs))
  unfolding content
  skips zero cs few = sym (onto_none _)
  skips (suc n) [] few = absurd (omega (arith, few))
  skips (suc n) (c ∷ cs) few = ap one_more (skips n cs (omega (arith, few))) ∙ one_more_onto n _

  abbrev after_element : Characters → Bool → Bool → Option Element → Result Content Reason
  after_element cs a b e =
      if a then Ok (record { held = []; opens = false; size = 1 })
      else if b then Ok (record { held = []; opens = true; size = 2 })
      else option_map_or (λ e. with_character e.character (content ends opens element_of (e.size - 1) cs)) e (Err outside_escape)

  by_element : (c : ℕ) (cs : Characters) → content ends opens element_of 0 (c ∷ cs) ≡ after_element cs (ends (c ∷ cs)) (opens (c ∷ cs)) (element_of (c ∷ cs))
  unfolding content
  by_element c cs = refl

  after_sized : (c : ℕ) (cs : Characters) (character size : ℕ) → 0 < size → size ≤ length cs + 1
      → with_character character (content ends opens element_of (size - 1) cs) ≡ onto (character ∷ []) size (content ends opens element_of 0 (drop size (c ∷ cs)))
  after_sized c cs character zero more few = absurd (omega (arith, more))
  after_sized c cs character (suc n) more few =
      let e : suc n - 1 ≡ n = omega arith in
      ap (λ m. with_character character (content ends opens element_of m cs)) e
      ∙ ap (with_character character) (skips n cs (omega (arith, few)))
      ∙ with_character_onto character n (content ends opens element_of 0 (drop n cs))

  pub at_element : (cs : Characters) (e : Element) → ends cs ≡ false → opens cs ≡ false → element_of cs ≡ Some e → 0 < e.size → e.size ≤ length cs
      → content ends opens element_of 0 cs ≡ onto (e.character ∷ []) e.size (content ends opens element_of 0 (drop e.size cs))
  at_element [] e a b is more few = absurd (omega (arith, more, few))
  at_element (c ∷ cs) e a b is more few =
      by_element c cs ∙ (λ i. after_element cs (a i) (b i) (is i)) ∙ after_sized c cs e.character e.size more (omega (arith, few))

  pub at_quote : (cs : Characters) → 0 < length cs → ends cs ≡ true → content ends opens element_of 0 cs ≡ Ok (record { held = []; opens = false; size = 1 })
  at_quote [] more a = absurd (omega (arith, more))
  at_quote (c ∷ cs) more a = by_element c cs ∙ ap (λ a. after_element cs a (opens (c ∷ cs)) (element_of (c ∷ cs))) a

  pub at_opening : (cs : Characters) → 0 < length cs → ends cs ≡ false → opens cs ≡ true → content ends opens element_of 0 cs ≡ Ok (record { held = []; opens = true; size = 2 })
  at_opening [] more a b = absurd (omega (arith, more))
  at_opening (c ∷ cs) more a b = by_element c cs ∙ (λ i. after_element cs (a i) (b i) (element_of (c ∷ cs)))

  pub at_fault : (cs : Characters) → 0 < length cs → ends cs ≡ false → opens cs ≡ false → element_of cs ≡ None → content ends opens element_of 0 cs ≡ Err outside_escape
  at_fault [] more a b is = absurd (omega (arith, more))
  at_fault (c ∷ cs) more a b is = by_element c cs ∙ (λ i. after_element cs (a i) (b i) (is i))

  pub at_end : (cs : Characters) → length cs ≡ 0 → content ends opens element_of 0 cs ≡ Err unended_text
  unfolding content
  at_end [] e = refl
  at_end (c ∷ cs) e = absurd (omega (arith, e))

  -- one element more is held
  pub more_held : (cs : Characters) (at : ℕ) (e : Element) (held held' : List ℕ) → ends (drop at cs) ≡ false → opens (drop at cs) ≡ false → element_of (drop at cs) ≡ Some e → 0 < e.size → e.size ≤ length (drop at cs)
      → (front : Characters) × (held ≡ encode_utf8_all front) × (content ends opens element_of 0 cs ≡ onto front at (content ends opens element_of 0 (drop at cs)))
      → held' ≡ held ++ encode_utf8 e.character
      → (front : Characters) × (held' ≡ encode_utf8_all front) × (content ends opens element_of 0 cs ≡ onto front (at + e.size) (content ends opens element_of 0 (drop (at + e.size) cs)))
  more_held cs at e held held' a b is more few (front, bytes, read) pushed = (
    front ++ e.character ∷ [],
    pushed ∙ ap (λ bs. bs ++ encode_utf8 e.character) bytes ∙ ap (λ bs. encode_utf8_all front ++ bs) (sym (append-nil (encode_utf8 e.character))) ∙ sym (encodes-append front (e.character ∷ [])),
    read
        ∙ ap (onto front at) (at_element (drop at cs) e a b is more few ∙ ap (λ ds. onto (e.character ∷ []) e.size (content ends opens element_of 0 ds)) (drop-drop e.size at cs))
        ∙ onto_onto front (e.character ∷ []) at e.size (content ends opens element_of 0 (drop (at + e.size) cs)),
  )
