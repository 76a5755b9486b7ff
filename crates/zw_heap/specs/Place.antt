-- Where records are made: in a setup, under a load or outside of all.
use Rattle.std.specs.Prelude.{◌≡◌, ℕ, ◌+◌, List, Option, Some}
use Rattle.std.specs.Option.{option_map, option_map_or}
use Rattle.std.specs.List.{slice_get}

-- The number of a setup, 0 while boot runs; the key of the innermost load in progress, by the numbers of its names; and
-- how many records were made there.
pub record Place : Type 0 where
  pub setup : ℕ
  pub load : Option (List ℕ)
  pub count : ℕ

-- the place at which a record was made, by its number, and how many were made there before
pub record Made : Type 0 where
  pub place : ℕ
  pub count : ℕ

abbrev pub at_boot : ℕ → Made
at_boot count = record { place = 0; count = count }

abbrev pub new_place : ℕ → Option (List ℕ) → Place
new_place setup load = record { setup = setup; load = load; count = 0 }

abbrev pub one_more : Place → Place
one_more p = record p { count = p.count + 1 }

-- what tells a place from others
abbrev pub key_of : Place → ℕ × Option (List ℕ)
key_of p = (p.setup, p.load)

-- how many records were made at a place
abbrev pub count_at : List Place → ℕ → ℕ
count_at places n = option_map_or (λ p. p.count) (slice_get places n) 0

-- no place is that of the load of the key in the setup
abbrev pub IsNewLoad : List Place → ℕ → List ℕ → Type 0
IsNewLoad places setup key = (n : ℕ) → option_map key_of (slice_get places n) ≡ Some (setup, Some key) → ⊥
