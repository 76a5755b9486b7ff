-- Methods of Array and NilClass.
use Rattle.std.specs.Prelude.{[], ◌∷◌}
use mathlib.Core.Path.{refl}
use Rattle.zw_world_examples.specs.Rows.{Writes, plain_words, one_root}
use Rattle.zw_world_examples.proofs.Computing.{reading}

pub arrays : Writes plain_words one_root
    []
    ("run [[1] + [2], [1, 2, 1] - [1], [1, 2][-1], [1, 2][2], [1, 2][-3], [1, 2].first, [].first, [1, 2].last, [].last]" ∷
    "run [[1, 2].index(2), [1].index(5), [1, 2].reverse, [1, nil].compact, [1, 2, 1].uniq, [1, 2].take(1), [1, 2].drop(1), [3, 4].sum, [].sum]" ∷
    "run [1, [2, \"a\"], nil, :b].join(\"-\")" ∷ "run [1, 2].join" ∷ "run [9223372036854775807, 1, -1].sum" ∷
    "run [[1].empty?, [].empty?, [1].length]" ∷ "run [nil.to_i, nil.to_a, nil.nil?, 1.nil?]" ∷ [])
    ("= [[1, 2], [2], 2, nil, nil, 1, nil, 2, nil]" ∷ "= [1, nil, [2, 1], [1], [1, 2], [1], [2], 7, 0]" ∷
    "= \"1-[2, \\\"a\\\"]--b\"" ∷ "= \"12\"" ∷ "= 9223372036854775807" ∷ "= [false, true, 1]" ∷
    "= [0, [], true, false]" ∷ [])
unfolding reading
arrays = refl

pub what_arrays_refuse : Writes plain_words one_root
    []
    ("run [1].join(2)" ∷ "run [1, \"a\", nil].sum" ∷ "run [9223372036854775807, 1].sum" ∷ "run [1].take(-1)" ∷
    "run [1].drop(-1)" ∷ "run [1] + 2" ∷ "run a = []; i = 0; while i < 99; a = [a]; i += 1; end; i" ∷
    "run a = [a]" ∷ "run a.size" ∷ [])
    ("! TypeError: wrong argument type Integer (expected String)" ∷
    "! TypeError: wrong argument type String (expected Integer)" ∷ "! RangeError: integer out of range" ∷
    "! ArgumentError: argument must be non-negative" ∷ "! ArgumentError: argument must be non-negative" ∷
    "! TypeError: wrong argument type Integer (expected Array)" ∷ "= 99" ∷
    "! RangeError: array nested too deep" ∷ "= 1" ∷ [])
unfolding reading
what_arrays_refuse = refl
