-- What stands at a place of a list.
use Rattle.std.proofs.Common.{◌≡◌, ℕ, ◌+◌, ◌<◌, ◌≤◌, ◌⊎◌, inl, inr, List, [], ◌∷◌, ◌++◌, length, get_or, slice_get, Option, Some, None, refl, ap, sym, ◌∙◌, subst, arith}
use Rattle.std.specs.Borrow.{Bor}
use Rattle.std.specs.Option.{option_copied}
use Rattle.std.specs.Slice.{IsItemAt}
use Rattle.std.proofs.lemmas.Bool.{cases_lt}
use Rattle.std.proofs.lemmas.List.{get_or_append_left, get_or-append-add, length-append}
use Rattle.std.proofs.lemmas.Option.{slice_get_within, slice_get_read, slice_get_past, get_or_from_slice_get, slice_get-get_or, same_Some}

module _ {X : Type 0} where
  pub slice_get-front : (xs ys : List X) (n : ℕ) (x : X) → slice_get xs n ≡ Some x → slice_get (xs ++ ys) n ≡ Some x
  slice_get-front xs ys n x e =
      let lt = slice_get_within xs n x e in
      let len = length-append xs ys in
      slice_get_read (xs ++ ys) (length (xs ++ ys)) n x refl (omega (arith, lt, len)) (sym (get_or_append_left xs ys x n lt ∙ get_or_from_slice_get xs n x x e))

  pub slice_get-last : (xs : List X) (y : X) → slice_get (xs ++ y ∷ []) (length xs) ≡ Some y
  slice_get-last xs y =
      let len = length-append xs (y ∷ []) in
      let at : get_or (xs ++ y ∷ []) (length xs + 0) y ≡ y = get_or-append-add xs (y ∷ []) 0 y in
      let same : length xs + 0 ≡ length xs = omega arith in
      slice_get_read (xs ++ y ∷ []) (length (xs ++ y ∷ [])) (length xs) y refl (omega (arith, len)) (sym (subst (λ n. get_or (xs ++ y ∷ []) n y ≡ y) same at))

  -- what stands in a list with one more stood there before, or is the one
  pub slice_get-pushed : (xs : List X) (y : X) (n : ℕ) (x : X) → slice_get (xs ++ y ∷ []) n ≡ Some x → (slice_get xs n ≡ Some x) ⊎ ((n ≡ length xs) × (x ≡ y))
  slice_get-pushed xs y n x e = at (cases_lt n (length xs))
    where
      len : length (xs ++ y ∷ []) ≡ length xs + 1
      len = length-append xs (y ∷ [])

      lt : n < length (xs ++ y ∷ [])
      lt = slice_get_within (xs ++ y ∷ []) n x e

      at : (n < length xs) ⊎ (length xs ≤ n) → (slice_get xs n ≡ Some x) ⊎ ((n ≡ length xs) × (x ≡ y))
      at (inl l) = inl (slice_get-get_or xs n x l ∙ ap Some (sym (get_or_append_left xs (y ∷ []) x n l) ∙ get_or_from_slice_get (xs ++ y ∷ []) n x x e))
      at (inr g) =
          let same : n ≡ length xs = omega (arith, g, lt, len) in
          let z : Some x ≡ Some y = sym e ∙ ap (slice_get (xs ++ y ∷ [])) same ∙ slice_get-last xs y in
          inr (same, same_Some x y z)

  -- what a slice lends at a place
  pub option_copied-lent : (xs : List X) (i : ℕ) (r : Option (Bor X)) → IsItemAt xs i r → option_copied r ≡ slice_get xs i
  option_copied-lent xs i None item = sym (slice_get_past xs i item.3)
  option_copied-lent xs i (Some x) item = sym (slice_get-get_or xs i x.now item.3.0 ∙ ap Some (sym (item.3.1 x.now)))
