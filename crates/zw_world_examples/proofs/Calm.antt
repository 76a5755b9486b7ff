-- Calm trees.
use Rattle.std.specs.Prelude.{[], ◌∷◌}
use mathlib.Core.Path.{refl}
use Rattle.zw_world_examples.specs.Rows.{Writes, plain_words, with_step_lines, with_budget, one_root, not_eager, calling, at_load, file}
use Rattle.zw_world_examples.proofs.Computing.{reading}

pub a_calm_tree : Writes plain_words one_root
    (file "m/a.rb" ("class A; end" ∷ []) ∷ file "m/b.rb" ("class B < A; end" ∷ []) ∷ [])
    ("check" ∷ [])
    ("- calm" ∷ [])
unfolding reading
a_calm_tree = refl

pub a_file_that_writes_is_not_calm : Writes plain_words one_root
    (file "m/a.rb" ("class A; end" ∷ []) ∷ file "m/b.rb" ("class B < A; end" ∷ []) ∷
    file "m/c.rb" ("puts 1" ∷ []) ∷ [])
    ("check" ∷ [])
    ("- not calm m/c.rb" ∷ [])
unfolding reading
a_file_that_writes_is_not_calm = refl

pub a_tree_that_can_not_be_loaded : Writes plain_words one_root
    (file "m/a.rb" ("class A; end" ∷ []) ∷ file "m/b.rb" ("class B < A; end" ∷ []) ∷
    file "m/c.rb" ("class C < Nope; end" ∷ []) ∷ [])
    ("check" ∷ [])
    ("- eager fails ! NameError: uninitialized constant Nope" ∷ [])
unfolding reading
a_tree_that_can_not_be_loaded = refl

pub calling_across_files_is_no_cycle : Writes (with_step_lines plain_words) one_root
    (file "m/a.rb" ("class A" ∷ "def self.n" ∷ "B.n + 1" ∷ "end" ∷ "end" ∷ []) ∷
    file "m/b.rb" ("class B" ∷ "def self.n" ∷ "1" ∷ "end" ∷ "end" ∷ []) ∷ [])
    ("run A.n" ∷ "check" ∷ [])
    ("# 0" ∷ "= 2" ∷ "# 13" ∷ "- calm" ∷ [])
unfolding reading
calling_across_files_is_no_cycle = refl

pub all_that_a_calm_file_may_hold : Writes plain_words one_root
    (file "m/a.rb" ("class A < B" ∷ "attr_reader :x, :y" ∷ "private" ∷ "public()" ∷ "include M" ∷ "extend M" ∷ "X = [1, \"a\", :b, nil]" ∷ "Y = M" ∷ "@z = 1" ∷ "private def g; 2; end" ∷ "def f(n = [1]); n.size; end" ∷ "def self.h; new.f; end" ∷ "class N < StandardError; def k; 1; end; end" ∷ "private :f" ∷ "module O; Q = 1; end" ∷ "end" ∷ []) ∷
    file "m/b.rb" ("class B; end" ∷ []) ∷ file "m/m.rb" ("module M; end" ∷ []) ∷ [])
    ("check" ∷ [])
    ("- calm" ∷ [])
unfolding reading
all_that_a_calm_file_may_hold = refl

pub outer_statements_are_allowed : Writes plain_words one_root
    (file "m/a.rb" ("module A; end" ∷ []) ∷
    file "m/a/b.rb" ("module A" ∷ "class B < ::Object; end" ∷ "end" ∷ []) ∷
    file "m/a/c.rb" ("class ::A::C; end" ∷ []) ∷ [])
    ("check" ∷ [])
    ("- calm" ∷ [])
unfolding reading
outer_statements_are_allowed = refl

pub an_outer_statement_has_no_superclass : Writes plain_words one_root
    (file "m/a.rb" ("class A < StandardError; end" ∷ []) ∷
    file "m/a/b.rb" ("class A < StandardError" ∷ "class B; end" ∷ "end" ∷ []) ∷ [])
    ("check" ∷ [])
    ("- not calm m/a/b.rb" ∷ [])
unfolding reading
an_outer_statement_has_no_superclass = refl

pub an_outer_body_is_one_statement : Writes plain_words one_root
    (file "m/a.rb" ("module A; end" ∷ []) ∷
    file "m/a/b.rb" ("module A" ∷ "class B; end" ∷ "X = 1" ∷ "end" ∷ []) ∷ [])
    ("check" ∷ [])
    ("- not calm m/a/b.rb" ∷ [])
unfolding reading
an_outer_body_is_one_statement = refl

pub two_statements_are_not_calm : Writes plain_words one_root
    (file "m/a.rb" ("class A; end" ∷ "1" ∷ []) ∷ [])
    ("check" ∷ [])
    ("- not calm m/a.rb" ∷ [])
unfolding reading
two_statements_are_not_calm = refl

pub another_name_is_not_calm : Writes plain_words one_root
    (file "m/a.rb" ("class B; end" ∷ []) ∷ [])
    ("check" ∷ [])
    ("- not calm m/a.rb" ∷ [])
unfolding reading
another_name_is_not_calm = refl

pub a_call_of_freeze_is_not_calm : Writes plain_words one_root
    (file "m/a.rb" ("class A; def f; freeze; end; end" ∷ []) ∷ [])
    ("check" ∷ [])
    ("- not calm m/a.rb" ∷ [])
unfolding reading
a_call_of_freeze_is_not_calm = refl

pub a_super_in_include_is_not_calm : Writes plain_words one_root
    (file "m/a.rb" ("class A; def self.include(x); super; end; end" ∷ []) ∷ [])
    ("check" ∷ [])
    ("- not calm m/a.rb" ∷ [])
unfolding reading
a_super_in_include_is_not_calm = refl

pub a_nested_key_is_not_calm : Writes plain_words one_root
    (file "m/a.rb" ("class A; class B; end; end" ∷ []) ∷ file "m/a/b.rb" ("class A::B; end" ∷ []) ∷ [])
    ("check" ∷ [])
    ("- not calm m/a.rb" ∷ [])
unfolding reading
a_nested_key_is_not_calm = refl

pub a_nested_name_that_is_assigned_is_not_calm : Writes plain_words one_root
    (file "m/a.rb" ("class A; B = 1; class B; end; end" ∷ []) ∷ [])
    ("check" ∷ [])
    ("- not calm m/a.rb" ∷ [])
unfolding reading
a_nested_name_that_is_assigned_is_not_calm = refl

pub an_assigned_key_is_not_calm : Writes plain_words one_root
    (file "m/a.rb" ("class A; B = 1; end" ∷ []) ∷ file "m/a/b.rb" ("class A::B; end" ∷ []) ∷ [])
    ("check" ∷ [])
    ("- not calm m/a.rb" ∷ [])
unfolding reading
an_assigned_key_is_not_calm = refl

pub a_scoped_assignment_is_not_calm : Writes plain_words one_root
    (file "m/a.rb" ("class A; A::X = 1; end" ∷ []) ∷ [])
    ("check" ∷ [])
    ("- not calm m/a.rb" ∷ [])
unfolding reading
a_scoped_assignment_is_not_calm = refl

pub a_computed_value_is_not_calm : Writes plain_words one_root
    (file "m/a.rb" ("class A; @x = 1 + 1; end" ∷ []) ∷ [])
    ("check" ∷ [])
    ("- not calm m/a.rb" ∷ [])
unfolding reading
a_computed_value_is_not_calm = refl

pub attributes_without_symbols_are_not_calm : Writes plain_words one_root
    (file "m/a.rb" ("class A; attr_reader; end" ∷ []) ∷ [])
    ("check" ∷ [])
    ("- not calm m/a.rb" ∷ [])
unfolding reading
attributes_without_symbols_are_not_calm = refl

pub a_call_on_self_is_not_calm : Writes plain_words one_root
    (file "m/a.rb" ("class A; self.private; end" ∷ []) ∷ [])
    ("check" ∷ [])
    ("- not calm m/a.rb" ∷ [])
unfolding reading
a_call_on_self_is_not_calm = refl

pub a_leading_scope_inside_is_not_calm : Writes plain_words one_root
    (file "m/a.rb" ("module A; end" ∷ []) ∷ file "m/a/b.rb" ("module A" ∷ "class ::B; end" ∷ "end" ∷ []) ∷ [])
    ("check" ∷ [])
    ("- not calm m/a/b.rb" ∷ [])
unfolding reading
a_leading_scope_inside_is_not_calm = refl

pub an_interpolation_is_not_calm : Writes plain_words one_root
    (file "m/a.rb" ("class A; X = \"#{1}\"; end" ∷ []) ∷ [])
    ("check" ∷ [])
    ("- not calm m/a.rb" ∷ [])
unfolding reading
an_interpolation_is_not_calm = refl

pub a_file_that_is_no_program_is_not_calm : Writes plain_words one_root
    (file "m/a.rb" ("1 +" ∷ []) ∷ [])
    ("check" ∷ [])
    ("- not calm m/a.rb" ∷ [])
unfolding reading
a_file_that_is_no_program_is_not_calm = refl

pub a_callback_is_not_calm : Writes plain_words (calling (at_load "1" ∷ []) one_root)
    (file "m/a.rb" ("class A; end" ∷ []) ∷ [])
    ("check" ∷ [])
    ("- not calm configuration" ∷ [])
unfolding reading
a_callback_is_not_calm = refl

pub a_pattern_against_eager_loading_is_not_calm : Writes plain_words (not_eager ("x" ∷ []) one_root)
    (file "m/a.rb" ("class A; end" ∷ []) ∷ [])
    ("check" ∷ [])
    ("- not calm configuration" ∷ [])
unfolding reading
a_pattern_against_eager_loading_is_not_calm = refl

pub a_constant_in_a_method_is_a_meeting : Writes plain_words one_root
    (file "m/a.rb" ("class A; include M; def self.f; 1; end; end" ∷ []) ∷
    file "m/m.rb" ("module M; include N; end" ∷ []) ∷ file "m/n.rb" ("module N; include M; end" ∷ []) ∷ [])
    ("check" ∷ [])
    ("- cycle m/n.rb m/m.rb" ∷ [])
unfolding reading
a_constant_in_a_method_is_a_meeting = refl

pub a_namespace_that_is_loading_is_a_meeting : Writes plain_words one_root
    (file "m/a.rb" ("class A; include B; end" ∷ []) ∷
    file "m/a/b.rb" ("class A" ∷ "module B; end" ∷ "end" ∷ []) ∷ [])
    ("check" ∷ [])
    ("- cycle m/a/b.rb m/a.rb" ∷ [])
unfolding reading
a_namespace_that_is_loading_is_a_meeting = refl

pub questions_are_no_meetings_and_a_scratch_session_writes_nothing : Writes plain_words one_root
    (file "m/a.rb" ("class A; end" ∷ []) ∷ [])
    ("check" ∷ "run Object.autoload?(:A)" ∷ [])
    ("- calm" ∷ "= \"m/a.rb\"" ∷ [])
unfolding reading
questions_are_no_meetings_and_a_scratch_session_writes_nothing = refl

pub budget_and_depth_fail_eager_loading : Writes (with_budget 5 plain_words) one_root
    (file "m/a.rb" ("class A; def self.f; 1; end; end" ∷ []) ∷
    file "m/b.rb" ("class B; def self.f; 1; end; end" ∷ []) ∷ [])
    ("check" ∷ [])
    ("- eager fails ! budget" ∷ [])
unfolding reading
budget_and_depth_fail_eager_loading = refl
