-- Loading: files, directories, nested loads, and loads that end in the middle.
use Rattle.std.specs.Prelude.{[], ◌∷◌}
use mathlib.Core.Path.{refl}
use Rattle.zw_world_examples.specs.Rows.{Writes, plain_words, with_log, with_step_lines, with_budget, one_root, with_roots, root, calling, at_unload, file}
use Rattle.zw_world_examples.proofs.Computing.{reading}

pub a_class_is_loaded_by_its_name : Writes plain_words one_root
    (file "m/user.rb" ("class User" ∷ "def self.size" ∷ "40" ∷ "end" ∷ "end" ∷ []) ∷ [])
    ("run User.size" ∷ [])
    ("= 40" ∷ [])
unfolding reading
a_class_is_loaded_by_its_name = refl

pub the_log_tells_a_load_and_steps_are_counted : Writes (with_log (with_step_lines plain_words)) one_root
    (file "m/user.rb" ("class User" ∷ "def self.size" ∷ "40" ∷ "end" ∷ "end" ∷ []) ∷ [])
    ("run User.size" ∷ [])
    (". autoload User" ∷ "# 0" ∷ ". loaded User from m/user.rb" ∷ "= 40" ∷ "# 6" ∷ [])
unfolding reading
the_log_tells_a_load_and_steps_are_counted = refl

pub a_child_is_loaded_while_its_namespace_is : Writes (with_log plain_words) one_root
    (file "m/hotel.rb" ("class Hotel" ∷ "include Pricing" ∷ "end" ∷ []) ∷
    file "m/hotel/pricing.rb" ("class Hotel" ∷ "module Pricing" ∷ "def rate" ∷ "90" ∷ "end" ∷ "end" ∷ "end" ∷ []) ∷
    [])
    ("run Hotel.new.rate" ∷ [])
    (". autoload Hotel" ∷ ". autoload Hotel::Pricing" ∷ ". loaded Hotel::Pricing from m/hotel/pricing.rb" ∷
    ". loaded Hotel from m/hotel.rb" ∷ "= 90" ∷ [])
unfolding reading
a_child_is_loaded_while_its_namespace_is = refl

pub a_directory_in_two_roots_is_one_module : Writes plain_words (with_roots (root "m" ∷ root "n" ∷ []))
    (file "m/admin/user.rb" ("class Admin::User; end" ∷ []) ∷
    file "n/admin/role.rb" ("class Admin::Role; end" ∷ []) ∷ [])
    ("run [Admin.class, Admin::User, Admin::Role]" ∷ [])
    ("= [Module, Admin::User, Admin::Role]" ∷ [])
unfolding reading
a_directory_in_two_roots_is_one_module = refl

pub a_file_of_a_later_root_wins_over_a_directory : Writes plain_words (with_roots (root "m" ∷ root "n" ∷ []))
    (file "m/hotel/room.rb" ("class Hotel::Room; end" ∷ []) ∷ file "n/hotel.rb" ("class Hotel; end" ∷ []) ∷ [])
    ("run Hotel.class" ∷ "run Hotel::Room" ∷ "map" ∷ [])
    ("= Class" ∷ "= Hotel::Room" ∷ "- Hotel file n/hotel.rb" ∷ "- Hotel::Room file m/hotel/room.rb" ∷ [])
unfolding reading
a_file_of_a_later_root_wins_over_a_directory = refl

pub a_file_that_defines_another_name_is_told_once : Writes plain_words one_root
    (file "m/car.rb" ("X = 1" ∷ []) ∷ [])
    ("run Car" ∷ "run Car" ∷ "put m/car.rb 1" ∷ "class Car; end" ∷ "reload" ∷ "run Car" ∷ [])
    ("! Zeitwerk::NameError: expected file m/car.rb to define constant Car, but didn't" ∷
    "! NameError: uninitialized constant Car" ∷ "ok" ∷ "reloaded" ∷ "= Car" ∷ [])
unfolding reading
a_file_that_defines_another_name_is_told_once = refl

pub a_wrong_name_below_a_directory_is_told_when_it_is_loaded : Writes plain_words one_root
    (file "m/admin/1st.rb" ("1" ∷ []) ∷ file "m/admin/user.rb" ("class Admin::User; end" ∷ []) ∷ [])
    ("run 5" ∷ "run Admin::User" ∷ "run Object.autoload?(:Admin)" ∷ [])
    ("= 5" ∷ "! Zeitwerk::NameError: wrong constant name 1st inferred from m/admin/1st.rb" ∷ "= \"m/admin\"" ∷
    [])
unfolding reading
a_wrong_name_below_a_directory_is_told_when_it_is_loaded = refl

pub a_file_that_raises_is_run_again : Writes plain_words one_root
    (file "m/tax.rb" ("puts \"tax\"" ∷ "class Tax" ∷ "raise \"no rate\"" ∷ "end" ∷ []) ∷ [])
    ("run begin; Tax; rescue => e; e.message; end" ∷ "run Tax" ∷ [])
    ("> tax" ∷ "= \"no rate\"" ∷ "> tax" ∷ "! RuntimeError: no rate" ∷ [])
unfolding reading
a_file_that_raises_is_run_again = refl

pub a_load_costs_a_step : Writes (with_budget 6 (with_step_lines plain_words)) one_root
    (file "m/user.rb" ("class User" ∷ "def self.size" ∷ "40" ∷ "end" ∷ "end" ∷ []) ∷ [])
    ("run User.size" ∷ [])
    ("# 0" ∷ "= 40" ∷ "# 6" ∷ [])
unfolding reading
a_load_costs_a_step = refl

pub what_was_loaded_stays_after_the_end_of_the_budget : Writes (with_budget 5 (with_step_lines plain_words))
    one_root
    (file "m/user.rb" ("class User" ∷ "def self.size" ∷ "40" ∷ "end" ∷ "end" ∷ []) ∷ [])
    ("run User.size" ∷ "run User.size" ∷ [])
    ("# 0" ∷ "! budget" ∷ "# 5" ∷ "= 40" ∷ "# 3" ∷ [])
unfolding reading
what_was_loaded_stays_after_the_end_of_the_budget = refl

pub a_constant_of_a_failed_load_is_taken_back : Writes (with_budget 4 (with_step_lines (with_log plain_words)))
    one_root
    (file "m/user.rb" ("class User" ∷ "def self.size" ∷ "40" ∷ "end" ∷ "end" ∷ []) ∷ [])
    ("run User.size" ∷ "run User.size" ∷ [])
    (". autoload User" ∷ "# 0" ∷ ". took back User" ∷ "! budget" ∷ "# 4" ∷ ". took back User" ∷ "! budget" ∷
    "# 4" ∷ [])
unfolding reading
a_constant_of_a_failed_load_is_taken_back = refl

pub files_that_need_each_other_are_a_cycle : Writes plain_words one_root
    (file "m/a.rb" ("class A < B; end" ∷ []) ∷ file "m/b.rb" ("class B < A; end" ∷ []) ∷ [])
    ("run A" ∷ "check" ∷ [])
    ("! NameError: uninitialized constant A" ∷ "- cycle m/b.rb m/a.rb" ∷ [])
unfolding reading
files_that_need_each_other_are_a_cycle = refl

pub a_class_written_with_its_path_has_one_scope : Writes plain_words one_root
    (file "m/admin.rb" ("module Admin; end" ∷ []) ∷ file "m/admin/role.rb" ("class Admin::Role; end" ∷ []) ∷
    file "m/admin/user.rb" ("class Admin::User" ∷ "def self.role" ∷ "Role" ∷ "end" ∷ "end" ∷ []) ∷ [])
    ("run Admin::User.role" ∷ "put m/admin/user.rb 7" ∷ "module Admin" ∷ "class User" ∷ "def self.role" ∷
    "Role" ∷ "end" ∷ "end" ∷ "end" ∷ "reload" ∷ "run Admin::User.role" ∷ [])
    ("! NameError: uninitialized constant Admin::User::Role" ∷ "ok" ∷ "reloaded" ∷ "= Admin::Role" ∷ [])
unfolding reading
a_class_written_with_its_path_has_one_scope = refl

pub a_class_variable_is_the_first_ancestors : Writes plain_words one_root
    (file "m/p.rb" ("class P" ∷ "@@n = 1" ∷ "def self.n; @@n; end" ∷ "end" ∷ []) ∷
    file "m/q.rb" ("class Q < P" ∷ "@@n = 2" ∷ "end" ∷ []) ∷ [])
    ("run P.n" ∷ "run Q" ∷ "run P.n" ∷ [])
    ("= 1" ∷ "= Q" ∷ "= 2" ∷ [])
unfolding reading
a_class_variable_is_the_first_ancestors = refl

pub two_loads_end_in_the_middle : Writes (with_budget 10 (with_log (with_step_lines plain_words))) one_root
    (file "m/a.rb" ("class A < B; end" ∷ []) ∷ file "m/b.rb" ("class B < C" ∷ "X = 1" ∷ "end" ∷ []) ∷
    file "m/c.rb" ("class C; end" ∷ []) ∷ [])
    ("run A" ∷ "run A" ∷ [])
    (". autoload A" ∷ ". autoload B" ∷ ". autoload C" ∷ "# 0" ∷ ". loaded C from m/c.rb" ∷ ". took back B" ∷
    "! budget" ∷ "# 10" ∷ ". loaded B from m/b.rb" ∷ ". loaded A from m/a.rb" ∷ "= A" ∷ "# 9" ∷ [])
unfolding reading
two_loads_end_in_the_middle = refl

pub a_step_is_taken_before_a_load : Writes (with_budget 8 (with_step_lines plain_words)) one_root
    (file "m/a.rb" ("class A < B; end" ∷ []) ∷ file "m/b.rb" ("class B < C" ∷ "X = 1" ∷ "end" ∷ []) ∷
    file "m/c.rb" ("class C; end" ∷ []) ∷ [])
    ("run A" ∷ "run A" ∷ [])
    ("# 0" ∷ "! budget" ∷ "# 8" ∷ "! budget" ∷ "# 8" ∷ [])
unfolding reading
a_step_is_taken_before_a_load = refl

pub three_nested_loads_take_eleven_steps : Writes (with_budget 11 (with_step_lines plain_words)) one_root
    (file "m/a.rb" ("class A < B; end" ∷ []) ∷ file "m/b.rb" ("class B < C" ∷ "X = 1" ∷ "end" ∷ []) ∷
    file "m/c.rb" ("class C; end" ∷ []) ∷ [])
    ("run A" ∷ [])
    ("# 0" ∷ "= A" ∷ "# 11" ∷ [])
unfolding reading
three_nested_loads_take_eleven_steps = refl

pub a_raise_leaves_what_was_done : Writes plain_words one_root
    (file "m/a.rb" ("class A < B; end" ∷ []) ∷ file "m/b.rb" ("class B < C" ∷ "raise \"x\"" ∷ "end" ∷ []) ∷
    file "m/c.rb" ("class C; end" ∷ []) ∷ [])
    ("run begin; A; rescue => e; e.message; end" ∷ "run C" ∷ "run B" ∷ [])
    ("= \"x\"" ∷ "= C" ∷ "! RuntimeError: x" ∷ [])
unfolding reading
a_raise_leaves_what_was_done = refl

pub keys_below_a_failed_load_are_idle_again : Writes (with_log plain_words) one_root
    (file "m/a.rb" ("class A; end" ∷ "A::B" ∷ "raise \"x\"" ∷ []) ∷ file "m/a/b.rb" ("class A::B; end" ∷ []) ∷
    [])
    ("run A" ∷ "run A" ∷ "run Object.autoload?(:A)" ∷ [])
    (". autoload A" ∷ ". autoload A::B" ∷ ". loaded A::B from m/a/b.rb" ∷ ". took back A" ∷
    "! RuntimeError: x" ∷ ". autoload A::B" ∷ ". loaded A::B from m/a/b.rb" ∷ ". took back A" ∷
    "! RuntimeError: x" ∷ "= \"m/a.rb\"" ∷ [])
unfolding reading
keys_below_a_failed_load_are_idle_again = refl

pub keys_taken_back_are_not_unloaded : Writes plain_words (calling (at_unload "puts cpath" ∷ []) one_root)
    (file "m/a.rb" ("class A; end" ∷ "A::B" ∷ "raise \"x\"" ∷ []) ∷ file "m/a/b.rb" ("class A::B; end" ∷ []) ∷
    [])
    ("run begin; A; rescue; 1; end" ∷ "reload" ∷ [])
    ("= 1" ∷ "reloaded" ∷ [])
unfolding reading
keys_taken_back_are_not_unloaded = refl

pub a_load_that_fails_before_its_constant_takes_nothing_out : Writes (with_log plain_words) one_root
    (file "m/t.rb" ("raise \"q\"" ∷ []) ∷ [])
    ("run T" ∷ "run T" ∷ [])
    (". autoload T" ∷ "! RuntimeError: q" ∷ "! RuntimeError: q" ∷ [])
unfolding reading
a_load_that_fails_before_its_constant_takes_nothing_out = refl

pub a_module_of_another_home_keeps_it : Writes plain_words one_root
    (file "m/a.rb" ("A = B" ∷ "raise \"x\"" ∷ []) ∷ file "m/b.rb" ("class B; end" ∷ []) ∷
    file "m/b/c.rb" ("class B::C; end" ∷ []) ∷ [])
    ("run A" ∷ "run B::C" ∷ [])
    ("! RuntimeError: x" ∷ "= B::C" ∷ [])
unfolding reading
a_module_of_another_home_keeps_it = refl

pub a_module_of_a_failed_load_loses_its_home : Writes plain_words one_root
    (file "m/a.rb" ("class A; end" ∷ "X = A" ∷ "raise \"x\"" ∷ []) ∷ file "m/a/b.rb" ("class A::B; end" ∷ []) ∷
    [])
    ("run A" ∷ "run X" ∷ "run X::B" ∷ [])
    ("! RuntimeError: x" ∷ "= A" ∷ "! NameError: uninitialized constant A::B" ∷ [])
unfolding reading
a_module_of_a_failed_load_loses_its_home = refl

pub directories_are_made_and_told : Writes (with_log plain_words) (with_roots (root "m" ∷ root "n" ∷ []))
    (file "m/admin/user.rb" ("class Admin::User; end" ∷ []) ∷
    file "n/admin/role.rb" ("class Admin::Role; end" ∷ []) ∷ [])
    ("run Admin::User" ∷ "run Admin::Role" ∷ "run Admin" ∷ [])
    (". autoload Admin" ∷ ". autoload Admin::Role" ∷ ". autoload Admin::User" ∷ ". autovivified Admin" ∷
    ". loaded Admin::User from m/admin/user.rb" ∷ "= Admin::User" ∷
    ". loaded Admin::Role from n/admin/role.rb" ∷ "= Admin::Role" ∷ "= Admin" ∷ [])
unfolding reading
directories_are_made_and_told = refl

pub opening_a_class_loads_it_first : Writes (with_log plain_words) one_root
    (file "m/user.rb" ("class User; def self.a; 1; end; end" ∷ []) ∷
    file "m/admin/x.rb" ("class Admin::X; end" ∷ []) ∷ [])
    ("run class User; def self.b; a; end; end" ∷ "run User.b" ∷ "run class User < Integer; end" ∷
    "run module User; end" ∷ "run class Admin; end" ∷ "run module Admin; def self.x; 2; end; end; Admin.x" ∷
    [])
    (". autoload Admin" ∷ ". autoload User" ∷ ". loaded User from m/user.rb" ∷ "= :b" ∷ "= 1" ∷
    "! TypeError: superclass mismatch for class User" ∷ "! TypeError: User is not a module" ∷
    ". autoload Admin::X" ∷ ". autovivified Admin" ∷ "! TypeError: Admin is not a class" ∷ "= 2" ∷ [])
unfolding reading
opening_a_class_loads_it_first = refl

pub questions_load_nothing : Writes (with_log plain_words) one_root
    (file "m/user.rb" ("class User; end" ∷ []) ∷ file "m/admin/x.rb" ("class Admin::X; end" ∷ []) ∷ [])
    ("run Object.const_defined?(:User)" ∷ "run Object.autoload?(:User)" ∷ "run Object.const_get(:User)" ∷
    "run Object.autoload?(:User)" ∷ "run Object.autoload?(:Admin)" ∷ "run Object.respond_to?(:User)" ∷ [])
    (". autoload Admin" ∷ ". autoload User" ∷ "= true" ∷ "= \"m/user.rb\"" ∷ ". loaded User from m/user.rb" ∷
    "= User" ∷ "= nil" ∷ "= \"m/admin\"" ∷ "= false" ∷ [])
unfolding reading
questions_load_nothing = refl

pub a_file_that_is_no_program : Writes plain_words one_root
    (file "m/x.rb" ("1" ∷ "1 +" ∷ []) ∷ [])
    ("run X" ∷ "run X" ∷ "run begin; X; rescue SyntaxError => e; e.message; end" ∷ [])
    ("! SyntaxError: m/x.rb: line 2: malformed or nested too deep" ∷
    "! SyntaxError: m/x.rb: line 2: malformed or nested too deep" ∷
    "= \"m/x.rb: line 2: malformed or nested too deep\"" ∷ [])
unfolding reading
a_file_that_is_no_program = refl

pub an_absent_constant_can_be_rescued : Writes plain_words one_root
    (file "m/car.rb" ("X = 1" ∷ []) ∷ [])
    ("run begin; Car; rescue NameError => e; e.class; end" ∷
    "run begin; Car; rescue NameError => e; e.class; end" ∷ "run Object.const_defined?(:Car)" ∷ [])
    ("= Zeitwerk::NameError" ∷ "= NameError" ∷ "= false" ∷ [])
unfolding reading
an_absent_constant_can_be_rescued = refl

pub a_wrong_name_below_an_explicit_namespace : Writes plain_words one_root
    (file "m/a.rb" ("class A; end" ∷ []) ∷ file "m/a/1b.rb" ("1" ∷ []) ∷ [])
    ("run A" ∷ "run A" ∷ [])
    ("! Zeitwerk::NameError: wrong constant name 1b inferred from m/a/1b.rb" ∷
    "! Zeitwerk::NameError: wrong constant name 1b inferred from m/a/1b.rb" ∷ [])
unfolding reading
a_wrong_name_below_an_explicit_namespace = refl

pub a_class_opened_by_another_file_gets_no_home : Writes plain_words one_root
    (file "m/a.rb" ("class A; end" ∷ []) ∷ file "m/b.rb" ("class B; end" ∷ "class A; end" ∷ []) ∷ [])
    ("run B" ∷ "run A" ∷ [])
    ("= B" ∷ "= A" ∷ [])
unfolding reading
a_class_opened_by_another_file_gets_no_home = refl

pub a_constant_below_a_namespace_is_asked_of_its_home : Writes plain_words one_root
    (file "m/a.rb" ("class A; def self.c; C; end; end" ∷ []) ∷ file "m/a/b.rb" ("class A::B; end" ∷ []) ∷
    file "m/a/c.rb" ("class A::C; end" ∷ []) ∷ [])
    ("run A::B" ∷ "run A.c" ∷ "run A::C" ∷ "run C" ∷ [])
    ("= A::B" ∷ "= A::C" ∷ "= A::C" ∷ "! NameError: uninitialized constant C" ∷ [])
unfolding reading
a_constant_below_a_namespace_is_asked_of_its_home = refl

pub steps_of_a_load_are_those_of_its_file : Writes (with_step_lines plain_words) one_root
    (file "m/a.rb" ("class A; 1; 2; end" ∷ []) ∷ file "m/b/c.rb" ("class B::C; end" ∷ []) ∷ [])
    ("run A" ∷ "run A" ∷ "run B::C" ∷ [])
    ("# 0" ∷ "= A" ∷ "# 5" ∷ "= A" ∷ "# 1" ∷ "= B::C" ∷ "# 6" ∷ [])
unfolding reading
steps_of_a_load_are_those_of_its_file = refl

pub a_gone_key_gives_no_home : Writes plain_words one_root
    (file "m/car.rb" ("1" ∷ []) ∷ file "m/car/a.rb" ("class Car::A; end" ∷ []) ∷ [])
    ("run Car" ∷ "run class Car; end" ∷ "run Car::A" ∷ [])
    ("! Zeitwerk::NameError: expected file m/car.rb to define constant Car, but didn't" ∷ "= nil" ∷
    "! NameError: uninitialized constant Car::A" ∷ [])
unfolding reading
a_gone_key_gives_no_home = refl
