-- The front of a list of symbols, up to its first star.
use Rattle.std.specs.Prelude.{ℕ, ◌+◌, Bool, List, [], ◌∷◌, length, ◌<◌, ◌≤◌, if◌then◌else◌}
use Rattle.zw_path.specs.declared.symbol.Front.{Front}
use Rattle.zw_path.specs.declared.symbol.Front.TheVariants.{Star, Whole, Unlike}

-- the answer, where so many symbols stand before
abbrev pub past : ℕ → Front → Front
past m (Star n) = Star (m + n)
past m Whole = Whole
past m Unlike = Unlike

-- the first element passes the test, and what is left has this answer
abbrev pub front_past : {X : Type 0} → (X → Bool) → (List X → Front) → List X → Front
front_past fits rest [] = Unlike
front_past fits rest (x ∷ xs) = if fits x then past 1 (rest xs) else Unlike

-- the symbols against the elements one by one, up to the first star
module _ {P X : Type 0} (is_star : P → Bool) (fits : P → X → Bool) where
  abbrev pub front_of : List P → List X → Front
  front_of [] [] = Whole
  front_of [] (x ∷ xs) = Unlike
  front_of (p ∷ ps) xs = if is_star p then Star 0 else front_past (fits p) (front_of ps) xs

-- the place of a star is one of the symbols, with as many elements before it
abbrev pub IsWithin : {P X : Type 0} → List P → List X → Front → Type 0
IsWithin ps xs (Star n) = (n < length ps) × (n ≤ length xs)
IsWithin ps xs Whole = Unit {0}
IsWithin ps xs Unlike = Unit {0}
