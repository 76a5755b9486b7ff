-- The language: faults of texts, values and calls.
use Rattle.std.specs.Prelude.{[], ◌∷◌}
use mathlib.Core.Path.{refl}
use Rattle.zw_world_examples.specs.Rows.{Writes, plain_words, one_root}
use Rattle.zw_world_examples.proofs.Computing.{reading}

pub division_overflow_and_faults : Writes plain_words one_root
    []
    ("run [-7 / 2, -7 % 2]" ∷ "run 1 / 0" ∷ "run 9223372036854775807 + 1" ∷ "run nil.x" ∷ "run y" ∷
    "run @a = 1" ∷ "run $a" ∷ [])
    ("= [-4, 1]" ∷ "! ZeroDivisionError: divided by 0" ∷ "! RangeError: integer out of range" ∷
    "! NoMethodError: undefined method 'x' for nil" ∷
    "! NameError: undefined local variable or method 'y' for main" ∷
    "! FrozenError: can't modify frozen main" ∷ "! SyntaxError: line 1: character outside the profile" ∷ [])
unfolding reading
division_overflow_and_faults = refl

pub a_number_with_a_point_is_refused : Writes plain_words one_root
    []
    ("run 1.5" ∷ [])
    ("! SyntaxError: line 1: number outside the profile" ∷ [])
unfolding reading
a_number_with_a_point_is_refused = refl

pub two_underscores_in_a_number_are_refused : Writes plain_words one_root
    []
    ("run 1__0" ∷ [])
    ("! SyntaxError: line 1: number outside the profile" ∷ [])
unfolding reading
two_underscores_in_a_number_are_refused = refl

pub a_text_that_does_not_end : Writes plain_words one_root
    []
    ("run \"a" ∷ [])
    ("! SyntaxError: line 1: text not ended" ∷ [])
unfolding reading
a_text_that_does_not_end = refl

pub an_escape_that_is_unknown : Writes plain_words one_root
    []
    ("run \"\\q\"" ∷ [])
    ("! SyntaxError: line 1: escape outside the profile" ∷ [])
unfolding reading
an_escape_that_is_unknown = refl

pub a_word_that_is_refused : Writes plain_words one_root
    []
    ("run case" ∷ [])
    ("! SyntaxError: line 1: word outside the profile" ∷ [])
unfolding reading
a_word_that_is_refused = refl

pub a_variable_without_a_name : Writes plain_words one_root
    []
    ("run @" ∷ [])
    ("! SyntaxError: line 1: variable without a name" ∷ [])
unfolding reading
a_variable_without_a_name = refl

pub an_interpolation_that_does_not_end : Writes plain_words one_root
    []
    ("run \"#{1" ∷ [])
    ("! SyntaxError: line 1: interpolation not ended" ∷ [])
unfolding reading
an_interpolation_that_does_not_end = refl

pub a_brace_that_closes_nothing : Writes plain_words one_root
    []
    ("run }" ∷ [])
    ("! SyntaxError: line 1: character outside the profile" ∷ [])
unfolding reading
a_brace_that_closes_nothing = refl

pub a_return_out_of_place : Writes plain_words one_root
    []
    ("runs 4" ∷ "1" ∷ "class A" ∷ "return" ∷ "end" ∷ [])
    ("! SyntaxError: line 2: return, break, next or super out of place" ∷ [])
unfolding reading
a_return_out_of_place = refl

pub a_def_out_of_place : Writes plain_words one_root
    []
    ("run def f; end" ∷ [])
    ("! SyntaxError: line 1: def out of place" ∷ [])
unfolding reading
a_def_out_of_place = refl

pub a_constant_in_a_method : Writes plain_words one_root
    []
    ("run class A; def f; X = 1; end; end" ∷ [])
    ("! SyntaxError: line 1: class, module or constant assignment in a method" ∷ [])
unfolding reading
a_constant_in_a_method = refl

pub a_parameter_repeated : Writes plain_words one_root
    []
    ("run class A; def f(a, a); end; end" ∷ [])
    ("! SyntaxError: line 1: parameter repeated" ∷ [])
unfolding reading
a_parameter_repeated = refl

pub an_operand_is_missing : Writes plain_words one_root
    []
    ("run 1 +" ∷ [])
    ("! SyntaxError: line 1: malformed or nested too deep" ∷ [])
unfolding reading
an_operand_is_missing = refl

pub a_command_with_a_negative_number : Writes plain_words one_root
    []
    ("run class A; def self.f(a); [a]; end; def self.g; f -1; end; end" ∷ "run A.g" ∷ "run f = 3; f -1" ∷ [])
    ("= :g" ∷ "= [-1]" ∷ "= 2" ∷ [])
unfolding reading
a_command_with_a_negative_number = refl

pub ancestors_come_in_order : Writes plain_words one_root
    []
    ("run module N; end" ∷ "run module M; include N; end" ∷ "run class B; include N; end" ∷
    "run class A < B; include M; end" ∷ "run A.ancestors" ∷ [])
    ("= nil" ∷ "= M" ∷ "= B" ∷ "= A" ∷ "= [A, M, B, N, Object, Kernel]" ∷ [])
unfolding reading
ancestors_come_in_order = refl

pub a_module_extends_itself : Writes plain_words one_root
    []
    ("run module M; extend self; def x; 7; end; end" ∷ "run M.x" ∷ [])
    ("= :x" ∷ "= 7" ∷ [])
unfolding reading
a_module_extends_itself = refl
