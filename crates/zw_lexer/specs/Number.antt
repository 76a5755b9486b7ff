-- Numbers that grow digit by digit.
use Rattle.std.specs.Prelude.{ℕ, nat_lt, if◌then◌else◌, Option, Some, None}
use Rattle.zw_def_syntax.specs.Number.{greatest_integer}

-- the number, where it has 64 bits with its sign
abbrev pub within_greatest : ℕ → Option ℕ
within_greatest n = if nat_lt greatest_integer n then None else Some n
