-- Quotients that are rounded down, and what is left by them.
use Rattle.std.proofs.Common.{◌≡◌, ℕ, zero, suc, ◌+◌, ◌-◌, ◌*◌, ◌/◌, ◌%◌, ◌<◌, ℤ, pos, negsuc, ◌-ℤ◌, ◌*ℤ◌, ◌<ℤ◌, neg_ℤ, refl, sym, ap, ◌∙◌, arith}
use Rattle.std.specs.Int.{int_div_euclid, int_rem_euclid}
use Rattle.std.proofs.lemmas.Int.{ints}
use Rattle.std.proofs.Math.Nat.{div-add-mod, mod-lt}
use Rattle.zw_def_world.specs.IntegerRows.{over, over_positive, rest}

pub over-up : (a : ℤ) (n : ℕ) → int_div_euclid a (pos n) ≡ over a (pos n)
over-up (pos a) n = refl
over-up (negsuc a) n = refl

pub over-down : (a : ℤ) (m : ℕ) → int_div_euclid (neg_ℤ a) (pos (suc m)) ≡ over a (negsuc m)
over-down a m = over-up (neg_ℤ a) (suc m)

below : (n q r a : ℕ) → n * q + r ≡ a → r < n → negsuc a -ℤ pos n *ℤ negsuc q ≡ pos (n - 1 - r)
below zero q r a e lt = absurd (omega (arith, lt))
below (suc n) q r a e lt = omega (arith, ints)

pub rest-up : (a : ℤ) (n : ℕ) → 0 < n → int_rem_euclid a (pos n) ≡ rest a (pos n)
rest-up (pos a) n lt = omega (arith, ints, div-add-mod a n)
rest-up (negsuc a) n lt = sym (below n (a / n) (a % n) a (div-add-mod a n) (mod-lt a lt))

turned : (a q : ℤ) (m : ℕ) → neg_ℤ (neg_ℤ a -ℤ pos (suc m) *ℤ q) ≡ a -ℤ negsuc m *ℤ q
turned a (pos k) m = omega (arith, ints)
turned a (negsuc k) m = omega (arith, ints)

pub rest-down : (a : ℤ) (m : ℕ) → neg_ℤ (int_rem_euclid (neg_ℤ a) (pos (suc m))) ≡ rest a (negsuc m)
rest-down a m = ap neg_ℤ (rest-up (neg_ℤ a) (suc m) (omega arith)) ∙ turned a (over_positive (neg_ℤ a) (suc m)) m

pub rest-below : (a d : ℤ) → d <ℤ pos 0 → neg_ℤ (int_rem_euclid (neg_ℤ a) (neg_ℤ d)) ≡ rest a d
rest-below a (pos n) low = absurd (omega (arith, ints))
rest-below a (negsuc m) low = rest-down a m
