-- Methods of Module and Class.
use Rattle.std.specs.Prelude.{[], ◌∷◌}
use mathlib.Core.Path.{refl}
use Rattle.zw_world_examples.specs.Rows.{Writes, plain_words, one_root}
use Rattle.zw_world_examples.proofs.Computing.{reading}

pub the_order_of_classes : Writes plain_words one_root
    []
    ("run class A; end; class B < A; end" ∷
    "run [B < A, A < B, A < A, A <= A, B <= A, A > B, A >= A, B >= A, A < Integer]" ∷
    "run [B.name, B.to_s, B.superclass, Object.superclass, B.inspect]" ∷ "run A < 1" ∷ [])
    ("= nil" ∷ "= [true, false, false, true, true, true, true, false, nil]" ∷
    "= [\"B\", \"B\", A, nil, \"B\"]" ∷ "! TypeError: wrong argument type Integer (expected Module)" ∷ [])
unfolding reading
the_order_of_classes = refl

pub includes_and_extensions : Writes plain_words one_root
    []
    ("run module M; def m; 1; end; end; class C; include M; end" ∷
    "run [C.include?(M), C.include?(C), C.include?(Object), M.include?(M), C.ancestors, C.new.m]" ∷
    "run class C; include C; end" ∷ "run module M; include M; end" ∷
    "run module N; include M; end; module M; include N; end" ∷ "run class C; include 1; end" ∷
    "run class C; extend C; end" ∷ "run class C; extend M; include M; end; [C.m, C.ancestors]" ∷
    "run module O; def m; 2; end; end; class C; include O; end; [C.new.m, C.ancestors]" ∷ [])
    ("= C" ∷ "= [true, false, false, false, [C, M, Object, Kernel], 1]" ∷
    "! TypeError: wrong argument type Class (expected module)" ∷ "! ArgumentError: cyclic include detected" ∷
    "! ArgumentError: cyclic include detected" ∷
    "! TypeError: wrong argument type Integer (expected Module)" ∷
    "! TypeError: wrong argument type Class (expected module)" ∷ "= [1, [C, M, Object, Kernel]]" ∷
    "= [2, [C, O, M, Object, Kernel]]" ∷ [])
unfolding reading
includes_and_extensions = refl

pub attributes : Writes plain_words one_root
    []
    ("run class At; attr_reader :a; attr_writer :b; attr_accessor :c; end" ∷ "run At.new.a" ∷ "run At.new.b" ∷
    "run At.new.b = 3" ∷ "run At.new.a(1)" ∷ "run At.new.b=(1, 2)" ∷ "run x = At.new; x.c = 4; x.c" ∷
    "run class At; attr_reader \"a\"; end" ∷ [])
    ("= nil" ∷ "= nil" ∷ "! NoMethodError: undefined method 'b' for an instance of At" ∷ "= 3" ∷
    "! ArgumentError: wrong number of arguments (given 1, expected 0)" ∷
    "! SyntaxError: line 1: malformed or nested too deep" ∷ "= 4" ∷
    "! TypeError: wrong argument type String (expected Symbol)" ∷ [])
unfolding reading
attributes = refl

pub questions_about_constants_and_methods : Writes plain_words one_root
    []
    ("run Object.const_get(:Integer)" ∷ "run Object.const_get(:a)" ∷ "run Integer.const_get(:String)" ∷
    "run [Object.const_defined?(:Integer), Object.const_defined?(:Nope), Integer.const_defined?(:String), Object.const_defined?(:a)]" ∷
    "run Kernel::String" ∷ "run Object.autoload?(:Integer)" ∷
    "run class Md; def a; end; private; def b; end; end" ∷
    "run [Md.method_defined?(:a), Md.method_defined?(:b), Md.method_defined?(:puts), Md.method_defined?(:zz)]" ∷
    "run Object.const_get(\"a\")" ∷ [])
    ("= Integer" ∷ "! NameError: wrong constant name a" ∷
    "! NameError: uninitialized constant Integer::String" ∷ "= [true, false, false, false]" ∷
    "! NameError: uninitialized constant Kernel::String" ∷ "= nil" ∷ "= :b" ∷ "= [true, false, true, false]" ∷
    "! TypeError: wrong argument type String (expected Symbol)" ∷ [])
unfolding reading
questions_about_constants_and_methods = refl

pub classes_without_new : Writes plain_words one_root
    []
    ("run Integer.new" ∷ "run class Sub < Array; end; Sub.new" ∷
    "run class Sub2 < Integer; def self.new; 3; end; end; Sub2.new" ∷ "run Kernel.new" ∷
    "run class X < Class; end" ∷ "run class X < 1; end" ∷ "run class X < Kernel; end" ∷ "run Object.new(1)" ∷
    [])
    ("! NoMethodError: undefined method 'new' for class Integer" ∷
    "! NoMethodError: undefined method 'new' for class Sub" ∷ "= 3" ∷
    "! NoMethodError: undefined method 'new' for module Kernel" ∷
    "! TypeError: can't make subclass of Class" ∷
    "! TypeError: superclass must be an instance of Class (given an instance of Integer)" ∷
    "! TypeError: superclass must be an instance of Class (given an instance of Module)" ∷
    "! ArgumentError: wrong number of arguments (given 1, expected 0)" ∷ [])
unfolding reading
classes_without_new = refl

pub the_core_classes_stand_below_one_another : Writes plain_words one_root
    []
    ("run [Module.superclass, Class.superclass, NilClass.superclass, TrueClass.superclass, FalseClass.superclass]" ∷
    "run [Integer.superclass, String.superclass, Symbol.superclass, Array.superclass, Exception.superclass]" ∷
    "run [ScriptError.superclass, StandardError.superclass, SyntaxError.superclass, LoadError.superclass]" ∷
    "run [ArgumentError, IndexError, NameError, RangeError].include?(StandardError)" ∷
    "run [ArgumentError.superclass, IndexError.superclass, NameError.superclass, RangeError.superclass]" ∷
    "run [RuntimeError.superclass, TypeError.superclass, ZeroDivisionError.superclass]" ∷
    "run [NoMethodError.superclass, FrozenError.superclass, Zeitwerk::Error.superclass, Zeitwerk::NameError.superclass]" ∷
    "run [Zeitwerk::ReloadingDisabledError.superclass, Zeitwerk::SetupRequired.superclass]" ∷
    "run [Kernel.class, Zeitwerk.class, Zeitwerk.name, Object.includes]" ∷ [])
    ("= [Object, Module, Object, Object, Object]" ∷ "= [Object, Object, Object, Object, Object]" ∷
    "= [Exception, Exception, ScriptError, ScriptError]" ∷ "= false" ∷
    "= [StandardError, StandardError, StandardError, StandardError]" ∷
    "= [StandardError, StandardError, StandardError]" ∷
    "= [NameError, RuntimeError, StandardError, NameError]" ∷ "= [Zeitwerk::Error, Zeitwerk::Error]" ∷
    "! NoMethodError: undefined method 'includes' for class Object" ∷ [])
unfolding reading
the_core_classes_stand_below_one_another = refl
