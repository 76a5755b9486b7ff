-- Methods: privacy, arguments and `super`.
use Rattle.std.specs.Prelude.{[], ◌∷◌}
use mathlib.Core.Path.{refl}
use Rattle.zw_world_examples.specs.Rows.{Writes, plain_words, one_root}
use Rattle.zw_world_examples.proofs.Computing.{reading}

pub private_methods : Writes plain_words one_root
    []
    ("run class Pr; private; def a; 1; end; public; def b; a; end; def c; self.a; end; def d(o); o.a; end; end" ∷
    "run [Pr.new.b, Pr.new.c]" ∷ "run Pr.new.d(Pr.new)" ∷
    "run class Pr2; private; attr_reader :x; Pr2.attr_writer :y; end" ∷ "run Pr2.new.x" ∷
    "run Pr2.new.y = 1" ∷ "run class Pr3; def a; 1; end; private :a; end" ∷ "run Pr3.new.a" ∷
    "run class Pr3; public :a; end; Pr3.new.a" ∷ "run class Pr3; private :zz; end" ∷
    "run class Pr3; private :a, :zz; end" ∷ "run Pr3.new.a" ∷
    "run class Pr4; def self.m; 1; end; private_class_method :m; end" ∷ "run Pr4.m" ∷
    "run class Pr4; private_class_method :q; end" ∷ [])
    ("= :d" ∷ "= [1, 1]" ∷ "! NoMethodError: private method 'a' called for an instance of Pr" ∷ "= nil" ∷
    "! NoMethodError: private method 'x' called for an instance of Pr2" ∷ "= 1" ∷ "= nil" ∷
    "! NoMethodError: private method 'a' called for an instance of Pr3" ∷ "= 1" ∷
    "! NameError: undefined method 'zz' for class Pr3" ∷ "! NameError: undefined method 'zz' for class Pr3" ∷
    "= 1" ∷ "= nil" ∷ "! NoMethodError: private method 'm' called for class Pr4" ∷
    "! NameError: undefined method 'q' for class Pr4" ∷ [])
unfolding reading
private_methods = refl

pub initialize_is_private : Writes plain_words one_root
    []
    ("run class P; def initialize; @a = 1; end; def a; @a; end; end" ∷ "run P.new.a" ∷ "run P.new.initialize" ∷
    "run class P; public :initialize; end; P.new.initialize" ∷
    "run class P; private; def self.s; 2; end; end; P.s" ∷ "run class P; def a; 3; end; end; P.new.a" ∷ [])
    ("= :a" ∷ "= 1" ∷ "! NoMethodError: private method 'initialize' called for an instance of P" ∷ "= 1" ∷
    "= 2" ∷ "= 3" ∷ [])
unfolding reading
initialize_is_private = refl

pub a_frozen_class_takes_constants_alone : Writes plain_words one_root
    []
    ("run class F; def a; end; end; F.freeze" ∷ "run class F; def b; end; end" ∷
    "run class F; private; X = 1; end" ∷ "run class F; attr_reader; end" ∷ "run class F; private :a; end" ∷
    "run class F; include Kernel; end" ∷ "run class F; @a = 1; end" ∷ "run class F; @@a = 1; end" ∷
    "run class F; private_class_method; end" ∷ "run class F; def self.c; end; end" ∷
    "run class Integer; def x; end; end" ∷ [])
    ("= F" ∷ "! FrozenError: can't modify frozen F" ∷ "= 1" ∷ "! FrozenError: can't modify frozen F" ∷
    "! FrozenError: can't modify frozen F" ∷ "! FrozenError: can't modify frozen F" ∷
    "! FrozenError: can't modify frozen F" ∷ "! FrozenError: can't modify frozen F" ∷
    "! FrozenError: can't modify frozen F" ∷ "! FrozenError: can't modify frozen F" ∷
    "! FrozenError: can't modify frozen Integer" ∷ [])
unfolding reading
a_frozen_class_takes_constants_alone = refl

pub arguments_and_defaults : Writes plain_words one_root
    []
    ("run class A; def f(a, b = a, c = b); [a, b, c]; end; def g; return; end; def h(a = (return 5)); a; end; end" ∷
    "run [A.new.f(1), A.new.f(1, 2), A.new.f(1, 2, 3)]" ∷ "run A.new.f" ∷ "run A.new.f(1, 2, 3, 4)" ∷
    "run [A.new.g, A.new.h, A.new.h(1)]" ∷ "run A.new.g(1)" ∷ "run A.new.nope" ∷ "run nope" ∷ "run nope()" ∷
    "run A.nope" ∷ [])
    ("= :h" ∷ "= [[1, 1, 1], [1, 2, 2], [1, 2, 3]]" ∷
    "! ArgumentError: wrong number of arguments (given 0, expected 1..3)" ∷
    "! ArgumentError: wrong number of arguments (given 4, expected 1..3)" ∷ "= [nil, 5, 1]" ∷
    "! ArgumentError: wrong number of arguments (given 1, expected 0)" ∷
    "! NoMethodError: undefined method 'nope' for an instance of A" ∷
    "! NameError: undefined local variable or method 'nope' for main" ∷
    "! NoMethodError: undefined method 'nope' for main" ∷
    "! NoMethodError: undefined method 'nope' for class A" ∷ [])
unfolding reading
arguments_and_defaults = refl

pub super_goes_on_in_the_line : Writes plain_words one_root
    []
    ("run class A; def f(x, y = 2); [x, y]; end; end" ∷
    "run class B < A; def f(x, y = 5); x = 9; super; end; def g; super; end; end" ∷ "run B.new.f(1)" ∷
    "run B.new.g" ∷ "run class C < A; def f(x); super(x, 7); end; end; C.new.f(1)" ∷
    "run class D < A; def f(x); super(); end; end; D.new.f(1)" ∷
    "run class SA; def self.k; \"a\"; end; end; class SB < SA; def self.k; super + \"b\"; end; end; SB.k" ∷
    "run module Ex; def k; \"ex\"; end; end; class SC < SA; extend Ex; end; SC.k" ∷
    "run module Ey; def k; super + \"y\"; end; end; class SD < SA; extend Ey; end; SD.k" ∷
    "run module M; def f(x); super; end; end; class G < A; include M; end; G.new.f(3)" ∷ [])
    ("= :f" ∷ "= :g" ∷ "= [9, 5]" ∷ "! NoMethodError: super: no superclass method 'g' for an instance of B" ∷
    "= [1, 7]" ∷ "! ArgumentError: wrong number of arguments (given 0, expected 1..2)" ∷ "= \"ab\"" ∷
    "= \"ex\"" ∷ "= \"ay\"" ∷ "= [3, 2]" ∷ [])
unfolding reading
super_goes_on_in_the_line = refl

-- B's line is B, M, A, M, Class and so on; the second M finds no further k behind it
pub a_module_that_stands_twice_in_a_line : Writes plain_words one_root
    []
    ("run module M; def k; \"m\" + super; end; end; class A; extend M; end; class B < A; extend M; end" ∷
    "run B.k" ∷ [])
    ("= B" ∷ "! NoMethodError: super: no superclass method 'k' for class B" ∷ [])
unfolding reading
a_module_that_stands_twice_in_a_line = refl

pub parts_are_evaluated_from_the_left : Writes plain_words one_root
    []
    ("run (puts 1; self).nope(puts(2))" ∷ "run (puts 1; Object).x = (puts 2; 3)" ∷
    "run (puts 1; 5)::X = (puts 2; 3)" ∷ "run [puts(1), puts(2)]" ∷ "run class (puts 1)::X; end" ∷
    "run class Object::Q < (puts 2; 7); end" ∷ "run 5.x = 1" ∷ [])
    ("> 1" ∷ "> 2" ∷ "! NoMethodError: undefined method 'nope' for main" ∷ "> 1" ∷ "> 2" ∷
    "! NoMethodError: undefined method 'x=' for class Object" ∷ "> 1" ∷ "> 2" ∷
    "! TypeError: 5 is not a class/module" ∷ "> 1" ∷ "> 2" ∷ "= [nil, nil]" ∷
    "! SyntaxError: line 1: malformed or nested too deep" ∷ "> 2" ∷
    "! TypeError: superclass must be an instance of Class (given an instance of Integer)" ∷
    "! NoMethodError: undefined method 'x=' for an instance of Integer" ∷ [])
unfolding reading
parts_are_evaluated_from_the_left = refl
