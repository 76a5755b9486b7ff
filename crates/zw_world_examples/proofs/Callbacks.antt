-- Callbacks.
use Rattle.std.specs.Prelude.{[], ◌∷◌}
use mathlib.Core.Path.{refl}
use Rattle.zw_world_examples.specs.Rows.{Writes, plain_words, with_log, with_step_lines, with_budget, one_root, calling, at_setup, at_load, at_unload, at_unload_of, file}
use Rattle.zw_world_examples.proofs.Computing.{reading}

pub what_a_callback_knows : Writes plain_words
    (calling (at_load "puts cpath, value, path" ∷ at_unload "puts \"-\" + cpath" ∷ []) one_root)
    (file "m/a/b.rb" ("class A::B; end" ∷ []) ∷ [])
    ("run A::B" ∷ "reload" ∷ [])
    ("> A" ∷ "> A" ∷ "> m/a" ∷ "> A::B" ∷ "> A::B" ∷ "> m/a/b.rb" ∷ "= A::B" ∷ "> -A" ∷ "> -A::B" ∷ "reloaded" ∷
    [])
unfolding reading
what_a_callback_knows = refl

pub an_end_of_a_load_callback_goes_on : Writes plain_words
    (calling (at_load "puts \"one\"; raise \"c\"" ∷ at_load "puts \"two\"" ∷ []) one_root)
    (file "m/a.rb" ("class A; end" ∷ []) ∷ [])
    ("run A" ∷ "run A" ∷ [])
    ("> one" ∷ "! RuntimeError: c" ∷ "= A" ∷ [])
unfolding reading
an_end_of_a_load_callback_goes_on = refl

pub setup_callbacks_are_told_and_go_on : Writes (with_step_lines plain_words)
    (calling (at_setup "raise \"s\"" ∷ at_setup "puts \"t\"" ∷ []) one_root)
    (file "m/a.rb" ("class A; end" ∷ []) ∷ [])
    ("run 1" ∷ "reload" ∷ [])
    ("! RuntimeError: s" ∷ "> t" ∷ "# 4" ∷ "= 1" ∷ "# 1" ∷ "# 0" ∷ "reloaded" ∷ "! RuntimeError: s" ∷ "> t" ∷
    "# 4" ∷ [])
unfolding reading
setup_callbacks_are_told_and_go_on = refl

pub each_callback_has_a_budget_of_its_own : Writes (with_budget 5 (with_step_lines plain_words))
    (calling (at_setup "while true; end" ∷ at_setup "while true; end" ∷ []) one_root)
    []
    ("run 1" ∷ [])
    ("! budget" ∷ "! budget" ∷ "# 10" ∷ "= 1" ∷ "# 1" ∷ [])
unfolding reading
each_callback_has_a_budget_of_its_own = refl

pub nothing_is_loaded_while_keys_are_unloaded : Writes plain_words
    (calling (at_unload_of "A" "puts Object.autoload?(:B).inspect; begin; B; rescue NameError => e; puts e.message; end; puts value" ∷ []) one_root)
    (file "m/a.rb" ("class A; end" ∷ []) ∷ file "m/b.rb" ("class B; end" ∷ []) ∷ [])
    ("run A" ∷ "reload" ∷ "run B" ∷ [])
    ("= A" ∷ "> nil" ∷ "> uninitialized constant B" ∷ "> A" ∷ "reloaded" ∷ "= B" ∷ [])
unfolding reading
nothing_is_loaded_while_keys_are_unloaded = refl

pub keys_are_unloaded_in_the_order_of_loading : Writes (with_log plain_words) one_root
    (file "m/a.rb" ("class A; end" ∷ []) ∷ file "m/b.rb" ("class B < A; end" ∷ []) ∷ [])
    ("run B" ∷ "reload" ∷ [])
    (". autoload A" ∷ ". autoload B" ∷ ". loaded A from m/a.rb" ∷ ". loaded B from m/b.rb" ∷ "= B" ∷
    ". unloaded A" ∷ ". unloaded B" ∷ "reloaded" ∷ ". autoload A" ∷ ". autoload B" ∷ [])
unfolding reading
keys_are_unloaded_in_the_order_of_loading = refl

pub a_load_callback_costs_steps_of_the_command : Writes (with_step_lines plain_words)
    (calling (at_load "1; 2" ∷ []) one_root)
    (file "m/a.rb" ("class A; end" ∷ []) ∷ [])
    ("run A" ∷ [])
    ("# 0" ∷ "= A" ∷ "# 5" ∷ [])
unfolding reading
a_load_callback_costs_steps_of_the_command = refl

pub an_object_of_a_callback_stays : Writes plain_words (calling (at_load "X = Object.new" ∷ []) one_root)
    (file "m/a.rb" ("class A; end" ∷ []) ∷ [])
    ("run A" ∷ "run X.class" ∷ [])
    ("= A" ∷ "= Object" ∷ [])
unfolding reading
an_object_of_a_callback_stays = refl
