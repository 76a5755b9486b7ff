-- What a test of characters answers.
use Rattle.std.specs.Prelude.{◌≡◌, ℕ, Bool}

-- the answers of a test are those of a definition
abbrev pub Tells : (ℕ → Bool → Type 0) → (ℕ → Bool) → Type 0
Tells answers passes = (c : ℕ) (answer : Bool) → answers c answer → answer ≡ passes c
