-- Steps of nodes, texts, arrays and comparisons.
use Rattle.std.specs.Prelude.{[], ◌∷◌}
use mathlib.Core.Path.{refl}
use Rattle.zw_world_examples.specs.Rows.{Writes, plain_words, with_step_lines, with_budget, one_root}
use Rattle.zw_world_examples.proofs.Computing.{reading}

pub texts_and_arrays_cost_steps : Writes (with_step_lines plain_words) one_root
    []
    ("run (\"x\" * 128).size" ∷ "run (\"x\" * 127).size" ∷ "run [1, 2, 3].size" ∷ "run [1, 2] == [1, 2]" ∷
    "run [1, 2] == [3, 2]" ∷ "run [1, 2] == [1]" ∷ "run [1, 2, 3].include?(2)" ∷ "run [1, 1].uniq" ∷
    "run nil.to_a" ∷ "run \"a,b\".split(\",\")" ∷ "run \"#{\"x\" * 64}\".size" ∷ "run [1, 2].first" ∷
    "run [[1, 2]].first" ∷ "run [1, 2, 1] - [1]" ∷ "run Object.ancestors" ∷ "run [3, 4].index(4)" ∷ [])
    ("# 0" ∷ "= 128" ∷ "# 6" ∷ "= 127" ∷ "# 5" ∷ "= 3" ∷ "# 8" ∷ "= true" ∷ "# 13" ∷ "= false" ∷ "# 12" ∷
    "= false" ∷ "# 9" ∷ "= true" ∷ "# 11" ∷ "= [1]" ∷ "# 8" ∷ "= []" ∷ "# 2" ∷ "= [\"a\", \"b\"]" ∷ "# 5" ∷
    "= 64" ∷ "# 7" ∷ "= 1" ∷ "# 6" ∷ "= [1, 2]" ∷ "# 8" ∷ "= [2]" ∷ "# 15" ∷ "= [Object, Kernel]" ∷ "# 4" ∷
    "= 1" ∷ "# 9" ∷ [])
unfolding reading
texts_and_arrays_cost_steps = refl

pub a_cost_that_can_not_be_paid_leaves_the_steps : Writes (with_budget 5 (with_step_lines plain_words)) one_root
    []
    ("run (\"x\" * 128).size" ∷ "run [1, 2, 3]" ∷ "run 1; 2; 3; 4; 5; 6" ∷ [])
    ("# 0" ∷ "! budget" ∷ "# 4" ∷ "! budget" ∷ "# 4" ∷ "! budget" ∷ "# 5" ∷ [])
unfolding reading
a_cost_that_can_not_be_paid_leaves_the_steps = refl

pub control_costs_a_step_a_node : Writes (with_step_lines plain_words) one_root
    []
    ("run if true then 1 else 2 end" ∷ "run 1 if nil" ∷ "run (1; 2)" ∷ "run begin; 1; end" ∷
    "run begin; 1; rescue; 2; end" ∷ "run not true" ∷ "run nil || 1" ∷ "run i = 0; while i < 2; i += 1; end" ∷
    "run x = 1; x += 2" ∷ "run ::Object" ∷ "run Zeitwerk::Error" ∷ "run -7.abs" ∷ "run - 7" ∷ [])
    ("# 0" ∷ "= 1" ∷ "# 3" ∷ "= nil" ∷ "# 2" ∷ "= 2" ∷ "# 3" ∷ "= 1" ∷ "# 2" ∷ "= 1" ∷ "# 2" ∷ "= false" ∷
    "# 2" ∷ "= 1" ∷ "# 3" ∷ "= nil" ∷ "# 20" ∷ "= 3" ∷ "# 6" ∷ "= Object" ∷ "# 1" ∷ "= Zeitwerk::Error" ∷
    "# 2" ∷ "= 7" ∷ "# 2" ∷ "= -7" ∷ "# 2" ∷ [])
unfolding reading
control_costs_a_step_a_node = refl
