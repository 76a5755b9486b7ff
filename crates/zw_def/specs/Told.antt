-- What an outer object tells of its contents, and what a count of faults says.
use Rattle.std.specs.Prelude.{◌≡◌, ◌⊎◌, ◌<◌, ◌≤◌, ◌+◌, ◌++◌, ℕ, List, [], Bool, true, false, Option, Some, None, option_map, Result, IsOk, IsErr, length, take, drop}

-- the count rose in the call: a count that stands at its greatest value counts as raised
abbrev pub Rose : ℕ → ℕ → Type 0
Rose before after = (before < after) ⊎ (18446744073709551615 ≤ after)

-- an error is told only where the count rose, and without one the count stays
pub record HasCause {T E : Type 0} (before after : ℕ) (result : Result T E) : Type 0 where
  pub later : before ≤ after
  pub failed : IsErr result → Rose before after
  pub same : IsOk result → after ≡ before

-- what a read leaves: the n bytes at the front of what is left have come into the front of the buffer
pub record Reads (left : List ℕ) (n : ℕ) (buffer : List ℕ) (later : Option (List ℕ)) : Type 0 where
  pub within : n ≤ length left
  pub bytes : take n buffer ≡ take n left
  pub rest : later ≡ Some (drop n left)
  pub end : n ≡ 0 → (length buffer ≡ 0) ⊎ (left ≡ [])

-- what is told to be there has these bytes more
abbrev pub Appends : Option (List ℕ) → Option (List ℕ) → List ℕ → Type 0
Appends None new bytes = new ≡ None
Appends (Some old) new bytes = new ≡ Some (old ++ bytes)

-- it has a front of these bytes more
abbrev pub AppendsFront : Option (List ℕ) → Option (List ℕ) → List ℕ → Type 0
AppendsFront old new bytes = (n : ℕ) × (n ≤ length bytes) × Appends old new (take n bytes)

-- bytes that are held, before those that are told to be left
abbrev pub held_then : List ℕ → Option (List ℕ) → Option (List ℕ)
held_then held None = None
held_then held (Some rest) = Some (held ++ rest)

-- what is told to be left, and nothing once the end was met
abbrev pub until_end : Bool → Option (List ℕ) → Option (List ℕ)
until_end true told = option_map (λ _. []) told
until_end false told = told

-- a front of what the source had left is taken, and the rest is left; the bytes given, by which the room falls, are
-- those held before and those taken, but for those held after
pub record Draws (before : List ℕ) (held room : ℕ) (later : Option (List ℕ)) (kept left : ℕ) : Type 0 where
  pub taken : List ℕ
  pub rest : List ℕ
  pub split : before ≡ taken ++ rest
  pub told : later ≡ Some rest
  pub given : length taken + held + left ≡ room + kept
