-- `begin`, loops and logic.
use Rattle.std.specs.Prelude.{[], ◌∷◌}
use mathlib.Core.Path.{refl}
use Rattle.zw_world_examples.specs.Rows.{Writes, plain_words, with_budget, one_root}
use Rattle.zw_world_examples.proofs.Computing.{reading}

pub rescue_else_and_ensure : Writes plain_words one_root
    []
    ("run begin; raise \"a\"; rescue ArgumentError; 1; rescue => e; e.message; else; 3; ensure; puts \"z\"; end" ∷
    "run begin; 1; rescue; 2; else; 3; end" ∷ "run begin; 1; rescue; 2; else; raise \"x\"; end" ∷
    "run N = 5" ∷ "run begin; raise \"a\"; rescue N; 1; end" ∷
    "run begin; raise \"a\"; rescue StandardError, Nope; 1; end" ∷
    "run begin; raise \"a\"; rescue Nope, StandardError; 1; end" ∷
    "run begin; raise Exception, \"q\"; rescue; 1; end" ∷
    "run begin; raise \"a\"; ensure; puts \"e\"; 5; end" ∷
    "run begin; raise \"a\"; ensure; raise \"b\"; end" ∷
    "run begin; raise \"a\"; rescue => e; raise \"c\"; ensure; puts \"d\"; end" ∷ "run e.message" ∷ [])
    ("> z" ∷ "= \"a\"" ∷ "= 3" ∷ "! RuntimeError: x" ∷ "= 5" ∷
    "! TypeError: class or module required for rescue clause" ∷ "= 1" ∷
    "! NameError: uninitialized constant Nope" ∷ "! Exception: q" ∷ "> e" ∷ "! RuntimeError: a" ∷
    "! RuntimeError: b" ∷ "> d" ∷ "! RuntimeError: c" ∷ "= \"a\"" ∷ [])
unfolding reading
rescue_else_and_ensure = refl

pub ensure_runs_after_a_return : Writes plain_words one_root
    []
    ("run class En; def self.f; return 1; ensure; return 2; end; def self.g; return 1; ensure; puts \"e\"; 3; end; end" ∷
    "run [En.f, En.g]" ∷ "run while true; begin; break; ensure; puts \"b\"; end; end" ∷ [])
    ("= :g" ∷ "> e" ∷ "= [2, 1]" ∷ "> b" ∷ "= nil" ∷ [])
unfolding reading
ensure_runs_after_a_return = refl

pub the_budget_can_not_be_rescued : Writes (with_budget 50 plain_words) one_root
    []
    ("run begin; while true; end; rescue; 1; ensure; puts \"no\"; end" ∷
    "run begin; while true; end; rescue Exception; 1; end" ∷ [])
    ("! budget" ∷ "! budget" ∷ [])
unfolding reading
the_budget_can_not_be_rescued = refl

pub loops_and_logic : Writes plain_words one_root
    []
    ("run i = 0; while i < 10; i += 1; next if i == 2; break if i == 4; end; i" ∷ "run while false; end" ∷
    "run i = 0; until i == 3; i += 1; end; i" ∷ "run [nil || 2, false && 1, 1 && 2, !nil, 1 || 2, nil && 1]" ∷
    "run [if nil then 1 end, (1 unless nil), true ? 1 : 2, (if false then 1 elsif 0 then 2 else 3 end)]" ∷
    "run ()" ∷ "run i = 0; while true; i += 1; while true; break; end; break if i == 2; end; i" ∷ [])
    ("= 4" ∷ "= nil" ∷ "= 3" ∷ "= [2, false, 2, true, 1, nil]" ∷ "= [nil, 1, 1, 2]" ∷ "= nil" ∷ "= 2" ∷ [])
unfolding reading
loops_and_logic = refl

pub a_cost_that_ends_the_budget_runs_no_ensure : Writes (with_budget 20 plain_words) one_root
    []
    ("run begin; \"x\" * 6400; ensure; puts \"no\"; end" ∷ "run begin; \"x\" * 6400; rescue Exception; 1; end" ∷
    [])
    ("! budget" ∷ "! budget" ∷ [])
unfolding reading
a_cost_that_ends_the_budget_runs_no_ensure = refl
