-- Methods of Integer.
use Rattle.std.specs.Prelude.{[], ◌∷◌}
use mathlib.Core.Path.{refl}
use Rattle.zw_world_examples.specs.Rows.{Writes, plain_words, one_root}
use Rattle.zw_world_examples.proofs.Computing.{reading}

pub integers : Writes plain_words one_root
    []
    ("run [7 / 2, -7 / 2, 7 / -2, 7 % -2, -7 % 2]" ∷ "run 7.divmod(-2)" ∷
    "run [1 <=> 2, 2 <=> 2, 3 <=> 2, 1 <=> \"a\"]" ∷
    "run [0.zero?, 1.positive?, 0.positive?, -1.negative?, 2.even?, -3.odd?]" ∷
    "run [1.succ, 1.pred, -5.abs, 5.to_i, - 5, 2 * 3]" ∷
    "run [5.between?(1, 5), 6.between?(1, 5), 7.clamp(1, 5), 0.clamp(1, 5), 3.clamp(1, 5)]" ∷
    "run [1 < 2, 2 <= 2, 1 > 2, 2 >= 3]" ∷ [])
    ("= [3, -4, -4, -1, 1]" ∷ "= [-4, -1]" ∷ "= [-1, 0, 1, nil]" ∷ "= [true, true, false, true, true, true]" ∷
    "= [2, 0, 5, 5, -5, 6]" ∷ "= [true, false, 5, 1, 3]" ∷ "= [true, true, false, false]" ∷ [])
unfolding reading
integers = refl

pub what_integers_refuse : Writes plain_words one_root
    []
    ("run 1.clamp(3, 2)" ∷ "run 1 < \"a\"" ∷ "run 1.between?(1, nil)" ∷ "run 1 + \"a\"" ∷ "run 1.succ(2)" ∷
    "run 1.between?(1)" ∷ "run 5.divmod(0)" ∷ "run 5 % 0" ∷ "run -9223372036854775807 - 2" ∷
    "run (-9223372036854775807 - 1) / -1" ∷ "run (-9223372036854775807 - 1).abs" ∷
    "run -9223372036854775807 - 1" ∷ "run nil.to_i(1)" ∷ [])
    ("! ArgumentError: min argument must be less than or equal to max argument" ∷
    "! ArgumentError: comparison of Integer with String failed" ∷
    "! ArgumentError: comparison of Integer with NilClass failed" ∷
    "! TypeError: wrong argument type String (expected Integer)" ∷
    "! ArgumentError: wrong number of arguments (given 1, expected 0)" ∷
    "! ArgumentError: wrong number of arguments (given 1, expected 2)" ∷ "! ZeroDivisionError: divided by 0" ∷
    "! ZeroDivisionError: divided by 0" ∷ "! RangeError: integer out of range" ∷
    "! RangeError: integer out of range" ∷ "! RangeError: integer out of range" ∷ "= -9223372036854775808" ∷
    "! ArgumentError: wrong number of arguments (given 1, expected 0)" ∷ [])
unfolding reading
what_integers_refuse = refl
