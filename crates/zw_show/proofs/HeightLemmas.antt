-- How high arrays are, for which an array that is made later is higher.
use Rattle.std.proofs.Common.{ℕ, ◌+◌, ◌≤◌, arith}
use Rattle.zw_heap.specs.declared.value.Value.{Value}
use Rattle.zw_heap.specs.declared.value.Value.TheVariants as v
use Rattle.zw_heap.specs.Sound.{IsBelow}

abbrev pub height : Value → ℕ
height (v.Array a) = a.0 + 1
height _ = 0

pub height-below : (n : ℕ) (x : Value) → IsBelow n x → height x ≤ n
height-below n (v.Array a) below = omega (arith, below)
height-below n v.Nil below = omega arith
height-below n v.True below = omega arith
height-below n v.False below = omega arith
height-below n (v.Int z) below = omega arith
height-below n (v.Text t) below = omega arith
height-below n (v.Sym x) below = omega arith
height-below n (v.Object o) below = omega arith
height-below n (v.Module m) below = omega arith
