-- Variables, constants, classes and modules.
use Rattle.std.specs.Prelude.{[], ◌∷◌}
use mathlib.Core.Path.{refl}
use Rattle.zw_world_examples.specs.Rows.{Writes, plain_words, with_log, one_root}
use Rattle.zw_world_examples.proofs.Computing.{reading}

pub variables_of_the_session_and_of_objects : Writes plain_words one_root
    []
    ("run a = 1" ∷ "run a + 1" ∷ "run @a" ∷ "run @@a" ∷ "run @@a = 1" ∷ "run z ||= 4" ∷ "run z ||= 5" ∷
    "run if false; q = 1; end; q" ∷ "run (w = 1; raise \"x\")" ∷ "run w" ∷
    "run class V; def self.a; z; end; def self.b; w = 2; w; end; end" ∷ "run V.a" ∷ "run [V.b, w]" ∷
    "run class V; w; end" ∷ "run @a = 1" ∷ "run 1.x = 2" ∷ [])
    ("= 1" ∷ "= 2" ∷ "= nil" ∷ "! RuntimeError: class variable access from toplevel" ∷
    "! RuntimeError: class variable access from toplevel" ∷ "= 4" ∷ "= 4" ∷ "= nil" ∷ "! RuntimeError: x" ∷
    "= 1" ∷ "= :b" ∷ "! NameError: undefined local variable or method 'z' for class V" ∷ "= [2, 1]" ∷
    "! NameError: undefined local variable or method 'w' for class V" ∷
    "! FrozenError: can't modify frozen main" ∷
    "! NoMethodError: undefined method 'x=' for an instance of Integer" ∷ [])
unfolding reading
variables_of_the_session_and_of_objects = refl

pub class_variables : Writes plain_words one_root
    []
    ("run class Cv; @@a = 1; def g; @@a; end; def h; @@zz; end; def s(v); @@a = v; end; def self.t; @@n = 7; end; end" ∷
    "run [Cv.new.g, Cv.new.s(5), Cv.new.g]" ∷ "run Cv.new.h" ∷
    "run class Cw < Cv; @@a = 9; @@b = 1; def b; @@b; end; end; [Cv.new.g, Cw.new.b]" ∷
    "run class Cv; def b; @@b; end; end; Cv.new.b" ∷ "run class Cv; @x = 1; def self.x; @x; end; end; Cv.x" ∷
    [])
    ("= :t" ∷ "= [1, 5, 5]" ∷ "! NameError: uninitialized class variable @@zz in Cv" ∷ "= [9, 1]" ∷
    "! NameError: uninitialized class variable @@b in Cv" ∷ "= 1" ∷ [])
unfolding reading
class_variables = refl

pub constants_and_their_scopes : Writes (with_log plain_words) one_root
    []
    ("run X = 1" ∷ "run X::Y" ∷ "run ::X" ∷
    "run module M; X = 2; def self.x; X; end; def self.i; Integer; end; class N; def self.x; X; end; end; end" ∷
    "run [M.x, M::X, M.i, M::N.x]" ∷ "run M::Integer" ∷ "run M::Nope" ∷
    "run class M::N; def self.y; X; end; end; M::N.y" ∷ "run M::X = 3" ∷ "run module M; Y; end" ∷
    "run module M::Q; X; end" ∷ "run class K; Zz; end" ∷ "run ::Nope" ∷ "run 5::X" ∷ [])
    ("= 1" ∷ "! TypeError: 1 is not a class/module" ∷ "= 1" ∷ "= :x" ∷ "= [2, 2, Integer, 2]" ∷
    "! NameError: uninitialized constant M::Integer" ∷ "! NameError: uninitialized constant M::Nope" ∷ "= 1" ∷
    ". replaced M::X" ∷ "= 3" ∷ "! NameError: uninitialized constant M::Y" ∷ "= 1" ∷
    "! NameError: uninitialized constant K::Zz" ∷ "! NameError: uninitialized constant Nope" ∷
    "! TypeError: 5 is not a class/module" ∷ [])
unfolding reading
constants_and_their_scopes = refl

pub classes_and_modules_are_opened_again : Writes plain_words one_root
    []
    ("run class A; self; end" ∷ "run module M; end" ∷ "run class M; end" ∷ "run module String; end" ∷
    "run X = 1; class X; end" ∷ "run module X; end" ∷ "run class B < A; 7; end" ∷
    "run class B < Integer; end" ∷ "run class B < A; 8; end" ∷ "run class B; 9; end" ∷
    "run class ::A; X; end" ∷ "run class Nope::A; end" ∷ "run class X::A; end" ∷ "run class A::C; end; A::C" ∷
    "run module A; end" ∷ [])
    ("= A" ∷ "= nil" ∷ "! TypeError: M is not a class" ∷ "! TypeError: String is not a module" ∷
    "! TypeError: X is not a class" ∷ "! TypeError: X is not a module" ∷ "= 7" ∷
    "! TypeError: superclass mismatch for class B" ∷ "= 8" ∷ "= 9" ∷ "= 1" ∷
    "! NameError: uninitialized constant Nope" ∷ "! TypeError: 1 is not a class/module" ∷ "= A::C" ∷
    "! TypeError: A is not a module" ∷ [])
unfolding reading
classes_and_modules_are_opened_again = refl

pub a_name_that_is_unknown_is_no_variable_in_a_method : Writes plain_words one_root
    []
    ("run class L; def self.f; i = 0; r = []; while i < 2; r = r + [begin; x; rescue NameError; 0; end]; x = 5; i += 1; end; r; end; end" ∷
    "run L.f" ∷
    "run i = 0; r = []; while i < 2; r = r + [begin; x; rescue NameError; 0; end]; x = 5; i += 1; end; r" ∷
    [])
    ("= :f" ∷ "= [0, 0]" ∷ "= [0, 5]" ∷ [])
unfolding reading
a_name_that_is_unknown_is_no_variable_in_a_method = refl
