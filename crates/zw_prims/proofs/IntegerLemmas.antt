-- What methods of Integer do, by the integers that their arguments are.
use Rattle.std.proofs.Common.{◌≡◌, ℤ, pos, negsuc, neg_ℤ, ℕ, zero, suc, ◌<◌, ◌^◌, true, false, List, [], ◌∷◌, map, cond, codes, Option, Some, None, Result, IfOk, unsigned_abs, FitsSigned, ap, sym, ◌∙◌, arith}
use Rattle.std.specs.Int.{w64}
use Rattle.std.specs.Option.{SomeIff}
use Rattle.std.specs.Ordering.{int_eq}
use Rattle.std.proofs.lemmas.Bool.{lt-ltb}
use Rattle.std.specs.declared.alloc.AllocError.{AllocError}
use Rattle.zw_def.specs.Text.{Text}
use Rattle.zw_def_world.specs.Act.{Act, gives, ◌>>=◌}
use Rattle.zw_def_world.specs.CoreClass.{RangeError, ZeroDivisionError}
use Rattle.zw_def_world.specs.IntegerRows.{integer_act, abs, over, rest, if_divides, makes_quotients}
use Rattle.zw_def_world.specs.Making.{fits, fails, raises, makes_array}
use Rattle.zw_def_world.specs.Site.{Site}
use Rattle.zw_def_world.specs.Value as told
use Rattle.zw_heap.specs.Heap.{Held}
use Rattle.zw_heap.specs.Telling.{Telling, tell}
use Rattle.zw_heap.specs.declared.value.Value.{Value}
use Rattle.zw_calls.specs.End.{EndsAtOnce, Performs}
use Rattle.zw_calls.specs.Integer.{IsInRange}
use Rattle.zw_calls.specs.IntegerRow.{integer_row_seen}
use Rattle.zw_calls.specs.declared.end.PrimEnd.{PrimEnd}
use Rattle.zw_calls.specs.declared.integer_row.IntegerRow.{IntegerRow}
use Rattle.zw_calls.proofs.PerformLemmas.{all_at_once, all_same}

abbrev pub called : IntegerRow → ℤ → List Value → Site → Telling → Act
called row number args s I = integer_act s (integer_row_seen row).1 (told.int number) (map (tell I) args)

module _ (number : ℤ) (args : List Value) (row : IntegerRow) (h : Held) (names : List Text) (left : ℕ) where
  -- a method that ends at once, by what it does with the integers
  pub arm : (k : IntegerRow) (act : Telling → Act) → row ≡ k → ((s : Site) (I : Telling) → called k number args s I ≡ act I) → (r : Result PrimEnd AllocError) → IfOk r (EndsAtOnce act) → IfOk r (Performs (called row number args) h names left left)
  arm k act is same r once = all_at_once h names left act (called row number args) (λ s I. ap (λ j. called j number args s I) is ∙ same s I) r once

  -- and one that makes something
  pub making_arm : (k : IntegerRow) (call : Site → Telling → Act) → row ≡ k → ((s : Site) (I : Telling) → called k number args s I ≡ call s I) → (g : Held) (later : ℕ) (r : Result PrimEnd AllocError) → IfOk r (Performs call g names left later) → IfOk r (Performs (called row number args) g names left later)
  making_arm k call is same g later r performs = all_same g names left later call (called row number args) (λ s I. ap (λ j. called j number args s I) is ∙ same s I) r performs

-- ---- absolute values

negative_fits : (n : ℕ) → n < 2 ^ 63 → FitsSigned w64 (neg_ℤ (pos n))
negative_fits zero lt = record { sfits = omega arith }
negative_fits (suc n) lt = record { sfits = omega (arith, lt) }

pub abs_in_range : (z : ℤ) (o : Option ℤ) → FitsSigned w64 z → SomeIff o (FitsSigned w64 (neg_ℤ z)) (pos (unsigned_abs z)) → IsInRange o (abs z)
abs_in_range (pos n) None fit h = absurd (h (negative_fits n fit.sfits))
abs_in_range (pos n) (Some x) fit h = (fit, h.1)
abs_in_range (negsuc n) o fit h = h

-- ---- quotients and what is left

fits-true : (z : ℤ) → FitsSigned w64 z → fits z ≡ true
fits-true (pos n) fit = lt-ltb n (2 ^ 63) fit.sfits
fits-true (negsuc n) fit = lt-ltb n (2 ^ 63) fit.sfits

pub quotients-are : (a b q r : ℤ) → int_eq b (pos 0) ≡ false → FitsSigned w64 (over a b) → q ≡ over a b → r ≡ rest a b → if_divides b (makes_quotients a b) ≡ makes_array (told.int q ∷ told.int r ∷ [])
quotients-are a b q r divides fit is left =
    let k : told.Value → Act = λ v. makes_array (v ∷ told.int (rest a b) ∷ []) in
    ap (λ t. cond t (fails ZeroDivisionError (codes "divided by 0")) (makes_quotients a b)) divides
    ∙ ap (λ t. cond t (gives (told.int (over a b))) (raises RangeError (codes "integer out of range")) >>= k) (fits-true (over a b) fit)
    ∙ (λ i. makes_array (told.int (sym is i) ∷ told.int (sym left i) ∷ []))
