-- A loop that counts its turns, beside the definition's.
use Rattle.std.proofs.Common.{◌≡◌, ℕ, zero, suc, ◌+◌, ◌-◌, ◌<◌, ◌≤◌, Bool, true, false, Option, Some, None, refl, ap, ◌∙◌, arith}
use Rattle.zw_def_syntax.specs.Input.{Input, Parser, turns}

module _ {A : Type 0} (goes_on : Input → Bool) (turn : A → Parser A) where
  pub turns_ended : (n : ℕ) (a : A) (i : Input) → goes_on i ≡ false → turns n goes_on turn a i ≡ Some (a, i)
  unfolding turns
  turns_ended zero a i e = refl
  turns_ended (suc n) a i e = rw e refl

  pub turns_refused : (n : ℕ) (a : A) (i : Input) → goes_on i ≡ true → turn a i ≡ None → turns (suc n) goes_on turn a i ≡ None
  unfolding turns
  turns_refused n a i e none = rw e (rw none refl)

  pub turns_gone_on : (n : ℕ) (a b : A) (i j : Input) → goes_on i ≡ true → turn a i ≡ Some (b, j) → turns (suc n) goes_on turn a i ≡ turns n goes_on turn b j
  unfolding turns
  turns_gone_on n a b i j e some = rw e (rw some refl)

  pub turns_zero : (a : A) (i : Input) → turns 0 goes_on turn a i ≡ Some (a, i)
  unfolding turns
  turns_zero a i = refl

-- the loop's turns: `at` of `count` are done, and x is what the definition makes of the rest
module _ {A : Type 0} {x : Option (A × Input)} (goes_on : Input → Bool) (turn : A → Parser A) (count at : ℕ) (a : A) (i : Input)
    (so : x ≡ turns (count - at) goes_on turn a i) where
  pub loop_ended : goes_on i ≡ false → x ≡ Some (a, i)
  loop_ended e = so ∙ turns_ended goes_on turn (count - at) a i e

  pub loop_refused : at < count → goes_on i ≡ true → turn a i ≡ None → x ≡ None
  loop_refused below e none =
      let left : count - at ≡ suc (count - (at + 1)) = omega (arith, below) in
      so ∙ ap (λ n. turns n goes_on turn a i) left ∙ turns_refused goes_on turn _ a i e none

  pub loop_gone_on : (b : A) (j : Input) → at < count → goes_on i ≡ true → turn a i ≡ Some (b, j) → x ≡ turns (count - (at + 1)) goes_on turn b j
  loop_gone_on b j below e some =
      let left : count - at ≡ suc (count - (at + 1)) = omega (arith, below) in
      so ∙ ap (λ n. turns n goes_on turn a i) left ∙ turns_gone_on goes_on turn _ a b i j e some

  pub loop_done : count ≤ at → x ≡ Some (a, i)
  loop_done done =
      let none : count - at ≡ 0 = omega (arith, done) in
      so ∙ ap (λ n. turns n goes_on turn a i) none ∙ turns_zero goes_on turn a i
