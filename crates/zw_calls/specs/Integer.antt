-- Integers of 64 bits.
use Rattle.std.specs.Prelude.{ℤ, Option, FitsSigned}
use Rattle.std.specs.Int.{w64}
use Rattle.std.specs.Option.{SomeIff}

-- the number, where it is in range
abbrev pub IsInRange : Option ℤ → ℤ → Type 0
IsInRange number z = SomeIff number (FitsSigned w64 z) z
