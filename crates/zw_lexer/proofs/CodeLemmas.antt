-- Codes of characters, read digit by digit.
use Rattle.std.proofs.Common.{◌≡◌, ℕ, ◌+◌, ◌*◌, ◌^◌, ◌≤◌, ◌<◌, arith}
use Rattle.std.proofs.Math.Nat.{pow-le-pow_right}
use Rattle.std.proofs.lemmas.Nat.{pow-add}

-- with five hexadecimal digits at most a code has room for one more
pub small_code : (code i n : ℕ) → code < 16 ^ i → i < n → n ≤ 6 → code < 1048576
small_code code i n small at few =
    let bound : 16 ^ i ≤ 16 ^ 5 = pow-le-pow_right {n = 16} (omega arith) {i = i} {j = 5} (omega (arith, at, few)) in
    omega (arith, small, bound)

pub next_code : (code i d : ℕ) → code < 16 ^ i → d < 16 → code * 16 + d < 16 ^ (i + 1)
next_code code i d small digit =
    let more : 16 ^ (i + 1) ≡ 16 ^ i * 16 ^ 1 = pow-add 16 i 1 in
    omega (arith, small, digit, more)
