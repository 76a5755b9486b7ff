-- Edits, callbacks and reloads.
use Rattle.std.specs.Prelude.{[], ◌∷◌}
use mathlib.Core.Path.{refl}
use Rattle.zw_world_examples.specs.Rows.{Ends, Writes, plain_words, with_log, with_step_lines, with_budget, one_root, booting, calling, at_load, at_load_of, at_unload, at_unload_of, file}
use Rattle.zw_world_examples.proofs.Computing.{reading}

pub a_wrong_name_at_setup_ends_with_a_reload : Writes plain_words one_root
    (file "m/1st.rb" ("1" ∷ []) ∷ [])
    ("run 1" ∷ "del m/1st.rb" ∷ "reload" ∷ "run 1" ∷ [])
    ("! Zeitwerk::NameError: wrong constant name 1st inferred from m/1st.rb" ∷
    "! Zeitwerk::SetupRequired: the last setup raised" ∷ "ok" ∷ "reloaded" ∷ "= 1" ∷ [])
unfolding reading
a_wrong_name_at_setup_ends_with_a_reload = refl

pub an_old_object_keeps_its_class : Writes plain_words one_root
    (file "m/user.rb" ("class User; end" ∷ []) ∷ [])
    ("run joe = User.new" ∷ "reload" ∷ "run alice = User.new" ∷ "run joe.class == alice.class" ∷ [])
    ("= #<User>" ∷ "reloaded" ∷ "= #<User>" ∷ "= false" ∷ [])
unfolding reading
an_old_object_keeps_its_class = refl

pub a_stray_is_removed_and_boot_is_frozen : Writes plain_words (booting "boot.rb" one_root)
    (file "boot.rb" ("module App; end" ∷ []) ∷
    file "m/foo.rb" ("class FooError < StandardError; end" ∷ "class Foo; end" ∷ []) ∷ [])
    ("run Foo" ∷ "run FooError" ∷ "runs 3" ∷ "module App" ∷ "def self.x; 1; end" ∷ "end" ∷ "reload" ∷
    "run FooError" ∷ [])
    ("= Foo" ∷ "= FooError" ∷ "! FrozenError: can't modify frozen App" ∷ "reloaded" ∷
    "! NameError: uninitialized constant FooError" ∷ [])
unfolding reading
a_stray_is_removed_and_boot_is_frozen = refl

pub callbacks_of_a_key_come_before_those_of_any : Writes plain_words
    (calling (at_load "puts \"any \" + cpath" ∷ at_load_of "A" "puts \"a\"" ∷ at_unload_of "B" "raise \"x\"" ∷ at_unload "puts \"-\" + cpath" ∷ []) one_root)
    (file "m/a.rb" ("class A; end" ∷ []) ∷ file "m/b.rb" ("class B < A; end" ∷ []) ∷ [])
    ("run B" ∷ "reload" ∷ [])
    ("> a" ∷ "> any A" ∷ "> any B" ∷ "= B" ∷ "> -A" ∷ "! RuntimeError: x" ∷ "> -B" ∷ "reloaded" ∷ [])
unfolding reading
callbacks_of_a_key_come_before_those_of_any = refl

pub a_constant_that_is_set_is_not_loaded : Writes (with_log plain_words) one_root
    (file "m/user.rb" ("class User; end" ∷ []) ∷ [])
    ("run User = 5" ∷ "run User = 6" ∷ "reload" ∷ "run User" ∷ [])
    (". autoload User" ∷ "= 5" ∷ ". replaced User" ∷ "= 6" ∷ "reloaded" ∷ ". autoload User" ∷
    ". loaded User from m/user.rb" ∷ "= User" ∷ [])
unfolding reading
a_constant_that_is_set_is_not_loaded = refl

pub boots_tables_are_as_boot_left_them : Writes plain_words (booting "boot.rb" one_root)
    (file "boot.rb" ("module App" ∷ "X = 1" ∷ "end" ∷ []) ∷ [])
    ("run App::X = 2" ∷ "run App::X" ∷ "reload" ∷ "run App::X" ∷ [])
    ("= 2" ∷ "= 2" ∷ "reloaded" ∷ "= 1" ∷ [])
unfolding reading
boots_tables_are_as_boot_left_them = refl

pub a_reload_counts_its_phases : Writes (with_step_lines plain_words) one_root
    (file "m/user.rb" ("class User" ∷ "def self.size" ∷ "40" ∷ "end" ∷ "end" ∷ []) ∷ [])
    ("run x = 1" ∷ "put m/user.rb 5" ∷ "class User" ∷ "def self.size" ∷ "41" ∷ "end" ∷ "end" ∷ "reload" ∷
    "run User.size" ∷ "run y = User" ∷ "run x" ∷ [])
    ("# 0" ∷ "= 1" ∷ "# 2" ∷ "ok" ∷ "# 0" ∷ "reloaded" ∷ "# 0" ∷ "= 41" ∷ "# 6" ∷ "= User" ∷ "# 2" ∷ "= 1" ∷
    "# 1" ∷ [])
unfolding reading
a_reload_counts_its_phases = refl

pub a_fresh_process_writes_the_same : Writes (with_step_lines plain_words) one_root
    (file "m/user.rb" ("class User" ∷ "def self.size" ∷ "41" ∷ "end" ∷ "end" ∷ []) ∷ [])
    ("run User.size" ∷ "run y = User" ∷ "run x" ∷ [])
    ("# 0" ∷ "= 41" ∷ "# 6" ∷ "= User" ∷ "# 2" ∷
    "! NameError: undefined local variable or method 'x' for main" ∷ "# 1" ∷ [])
unfolding reading
a_fresh_process_writes_the_same = refl

pub session_variables_and_strays : Writes plain_words one_root
    (file "m/a.rb" ("class A; end" ∷ []) ∷ [])
    ("run a = A.new; X = 1; class Y; end" ∷ "reload" ∷ "run [a, a.class, A.new.class == a.class]" ∷ "run X" ∷
    "run Y" ∷ "run a.class.new" ∷ [])
    ("= nil" ∷ "reloaded" ∷ "= [#<A>, A, false]" ∷ "! NameError: uninitialized constant X" ∷
    "! NameError: uninitialized constant Y" ∷ "= #<A>" ∷ [])
unfolding reading
session_variables_and_strays = refl

pub an_old_class_loads_nothing : Writes plain_words one_root
    (file "m/a.rb" ("class A; end" ∷ []) ∷ file "m/a/b.rb" ("class A::B; end" ∷ []) ∷
    file "m/a/c.rb" ("class A::C; end" ∷ []) ∷ [])
    ("run a = A; A::B" ∷ "reload" ∷ "run a" ∷ "run a::C" ∷ "run A::C" ∷ "run a::B" ∷ [])
    ("= A::B" ∷ "reloaded" ∷ "= A" ∷ "! NameError: uninitialized constant A::C" ∷ "= A::C" ∷
    "! NameError: uninitialized constant A::B" ∷ [])
unfolding reading
an_old_class_loads_nothing = refl

pub edits_are_seen_after_a_reload : Writes plain_words one_root
    (file "m/a.rb" ("class A; end" ∷ []) ∷ [])
    ("put m/b.rb 1" ∷ "class B; end" ∷ "run B" ∷ "del m/a.rb" ∷ "run A" ∷ "reload" ∷ "run B" ∷ "run A" ∷ "map" ∷
    [])
    ("ok" ∷ "! NameError: uninitialized constant B" ∷ "ok" ∷ "= A" ∷ "reloaded" ∷ "= B" ∷
    "! NameError: uninitialized constant A" ∷ "- B file m/b.rb" ∷ [])
unfolding reading
edits_are_seen_after_a_reload = refl

pub boot_is_frozen_and_stays : Writes plain_words (booting "boot.rb" one_root)
    (file "boot.rb" ("puts \"boot\"" ∷ "class App; def x; 1; end; end" ∷ []) ∷ [])
    ("run App.new.x" ∷ "run class App; def y; end; end" ∷ "run App::Q = 2" ∷ "run App::Q" ∷ "reload" ∷
    "run App::Q" ∷ "run $" ∷ "run App.new.x" ∷ "run @a" ∷ [])
    ("> boot" ∷ "= 1" ∷ "! FrozenError: can't modify frozen App" ∷ "= 2" ∷ "= 2" ∷ "reloaded" ∷
    "! NameError: uninitialized constant App::Q" ∷ "! SyntaxError: line 1: character outside the profile" ∷
    "= 1" ∷ "= nil" ∷ [])
unfolding reading
boot_is_frozen_and_stays = refl

pub a_down_session_answers_few_commands : Writes plain_words one_root
    (file "m/a.rb" ("class A; end" ∷ []) ∷ file "m/1b.rb" ("1" ∷ []) ∷ [])
    ("run 1" ∷ "eager" ∷ "check" ∷ "shadows" ∷ "load m/a.rb" ∷ "eager_dir m" ∷ "eager_ns Object" ∷ "map" ∷
    "expect m/a.rb" ∷ "expect m/1b.rb" ∷ "put m/c.rb 0" ∷ "reload" ∷ "del m/1b.rb" ∷ "reload" ∷ "run A" ∷ [])
    ("! Zeitwerk::NameError: wrong constant name 1b inferred from m/1b.rb" ∷
    "! Zeitwerk::SetupRequired: the last setup raised" ∷ "! Zeitwerk::SetupRequired: the last setup raised" ∷
    "! Zeitwerk::SetupRequired: the last setup raised" ∷ "! Zeitwerk::SetupRequired: the last setup raised" ∷
    "! Zeitwerk::SetupRequired: the last setup raised" ∷ "! Zeitwerk::SetupRequired: the last setup raised" ∷
    "! Zeitwerk::SetupRequired: the last setup raised" ∷ "- A file m/a.rb" ∷ "- A" ∷
    "! Zeitwerk::NameError: wrong constant name 1b inferred from m/1b.rb" ∷ "ok" ∷ "reloaded" ∷
    "! Zeitwerk::NameError: wrong constant name 1b inferred from m/1b.rb" ∷ "ok" ∷ "reloaded" ∷ "= A" ∷ [])
unfolding reading
a_down_session_answers_few_commands = refl

pub a_setup_that_raised_has_no_steps : Writes (with_step_lines plain_words) one_root
    (file "m/a\\b.rb" ("1" ∷ []) ∷ file "m/c.rb" ("class C; end" ∷ []) ∷ [])
    ("run 1" ∷ "map" ∷ [])
    ("! Zeitwerk::NameError: wrong constant name A\\\\b inferred from m/a\\\\b.rb" ∷ "# 0" ∷
    "! Zeitwerk::SetupRequired: the last setup raised" ∷ "- C file m/c.rb" ∷ [])
unfolding reading
a_setup_that_raised_has_no_steps = refl

pub boot_that_raises_ends_the_session : Ends 3 plain_words (booting "boot.rb" one_root)
    (file "boot.rb" ("puts \"b\"" ∷ "raise \"q\"" ∷ []) ∷ [])
    ("run 1" ∷ [])
    ("> b" ∷ "! RuntimeError: q" ∷ [])
unfolding reading
boot_that_raises_ends_the_session = refl

pub boot_that_is_no_program : Ends 3 plain_words (booting "boot.rb" one_root)
    (file "boot.rb" ("1 +" ∷ []) ∷ [])
    ("run 1" ∷ [])
    ("! SyntaxError: boot.rb: line 1: malformed or nested too deep" ∷ [])
unfolding reading
boot_that_is_no_program = refl

pub boot_that_is_missing : Ends 3 plain_words (booting "boot.rb" one_root)
    []
    ("run 1" ∷ [])
    ("config: boot missing" ∷ [])
unfolding reading
boot_that_is_missing = refl

pub boot_that_takes_the_budget : Ends 3 (with_budget 20 plain_words) (booting "boot.rb" one_root)
    (file "boot.rb" ("while true; end" ∷ []) ∷ [])
    ("run 1" ∷ [])
    ("! budget" ∷ [])
unfolding reading
boot_that_takes_the_budget = refl

pub boot_tells_what_it_replaces : Writes (with_log plain_words) (booting "boot.rb" one_root)
    (file "boot.rb" ("X = 1" ∷ "X = 2" ∷ []) ∷ file "m/a.rb" ("class A; end" ∷ []) ∷ [])
    ("run X" ∷ [])
    (". replaced X" ∷ ". autoload A" ∷ "= 2" ∷ [])
unfolding reading
boot_tells_what_it_replaces = refl

pub main_is_frozen_when_boot_ends : Writes plain_words (booting "boot.rb" one_root)
    (file "boot.rb" ("@a = 1" ∷ []) ∷ [])
    ("run @a" ∷ "run @a = 2" ∷ [])
    ("= 1" ∷ "! FrozenError: can't modify frozen main" ∷ [])
unfolding reading
main_is_frozen_when_boot_ends = refl
