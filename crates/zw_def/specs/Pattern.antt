-- Patterns. A pattern is a path whose components may hold `*`, which stands for any run of characters of that
-- component; a component `**` stands for any number of whole components, none included. All other characters stand for
-- themselves.
use Rattle.std.specs.Prelude.{◌≡◌, ℕ, Bool, true, false, List, [], ◌∷◌, ◌++◌, ◌==◌, ◌&&◌, ◌||◌, if◌then◌else◌, MatchBool, codes}
use Rattle.std.specs.Str.{bytes_eq}
use Rattle.zw_def.specs.Text.{Text}
use Rattle.zw_def.specs.Path.{Path}

-- There is a way to cut the elements so: a star takes any run of them, and each other symbol one that it fits.
module _ {P X : Type 0} (is_star : P → Bool) (Fits : P → X → Type 0) where
  abbrev pub Cuts : List P → List X → Type 0
  Cuts [] xs = xs ≡ []
  Cuts (p ∷ ps) xs =
      MatchBool (is_star p) ((run : List X) × (rest : List X) × (xs ≡ run ++ rest) × Cuts ps rest)
      ((x : X) × (rest : List X) × (xs ≡ x ∷ rest) × Fits p x × Cuts ps rest)

abbrev pub is_star : ℕ → Bool
is_star b = b == 42

abbrev pub is_double_star : Text → Bool
is_double_star text = bytes_eq text (codes "**")

-- the pattern's component stands for the component; in UTF-8 a run of bytes between characters is a run of characters
abbrev pub PartStandsFor : Text → Text → Type 0
PartStandsFor = Cuts is_star (λ b c. b ≡ c)

-- the pattern stands for the path
abbrev pub StandsFor : Path → Path → Type 0
StandsFor = Cuts is_double_star PartStandsFor

-- The same as tests, for definitions that ask.

-- what is left after some run of elements passes the test
abbrev pub some_rest : {X : Type 0} → (List X → Bool) → List X → Bool
some_rest test [] = test []
some_rest test (x ∷ xs) = test (x ∷ xs) || some_rest test xs

-- the first element passes one test, and what is left after it the other
abbrev pub first_and_rest : {X : Type 0} → (X → Bool) → (List X → Bool) → List X → Bool
first_and_rest first rest [] = false
first_and_rest first rest (x ∷ xs) = first x && rest xs

module _ {P X : Type 0} (is_star : P → Bool) (fits : P → X → Bool) where
  abbrev pub can_cut : List P → List X → Bool
  can_cut [] [] = true
  can_cut [] (x ∷ xs) = false
  can_cut (p ∷ ps) xs = if is_star p then some_rest (can_cut ps) xs else first_and_rest (fits p) (can_cut ps) xs

abbrev pub matches_part : Text → Text → Bool
matches_part = can_cut is_star (λ b c. b == c)

abbrev pub matches : Path → Path → Bool
matches = can_cut is_double_star matches_part
