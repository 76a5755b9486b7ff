-- Methods of Kernel.
use Rattle.std.specs.Prelude.{[], ◌∷◌}
use mathlib.Core.Path.{refl}
use Rattle.zw_world_examples.specs.Rows.{Writes, plain_words, one_root}
use Rattle.zw_world_examples.proofs.Computing.{reading}

pub classes_and_equality : Writes plain_words one_root
    []
    ("run [1.class, nil.class, true.class, false.class, \"\".class, :a.class, [].class, Object.class, Kernel.class, self.class]" ∷
    "run [1 == 1, 1 != 1, 1.equal?(1), \"a\" == :a, [1] == [1], [1, 2] == [1], Object == Object, Object.new == Object.new]" ∷
    "run class E; def ==(o); true; end; end" ∷ "run [E.new != 1, E.new.equal?(1), E.new == 1]" ∷ [])
    ("= [Integer, NilClass, TrueClass, FalseClass, String, Symbol, Array, Class, Module, Object]" ∷
    "= [true, false, true, false, true, false, true, false]" ∷ "= :\"==\"" ∷ "= [false, false, true]" ∷ [])
unfolding reading
classes_and_equality = refl

pub kinds_of_values : Writes plain_words one_root
    []
    ("run [1.is_a?(Object), 1.is_a?(Kernel), 1.is_a?(String), Object.is_a?(Class), Kernel.is_a?(Class), Object.is_a?(Kernel)]" ∷
    "run module S; extend self; end; S.is_a?(S)" ∷
    "run module X; end; class T; extend X; end; class U < T; end; [U.is_a?(X), T.is_a?(T), T.new.is_a?(X), T.new.is_a?(T)]" ∷
    "run [1.instance_of?(Integer), StandardError.new.instance_of?(Exception), StandardError.new.is_a?(Exception)]" ∷
    "run [1.respond_to?(:succ), 1.respond_to?(:nope), Integer.respond_to?(:new), Object.respond_to?(:new), Object.new.respond_to?(:initialize)]" ∷
    "run 1.is_a?(1)" ∷ "run 1.respond_to?(\"a\")" ∷ [])
    ("= [true, true, false, true, false, true]" ∷ "= true" ∷ "= [true, false, false, true]" ∷
    "= [true, false, true]" ∷ "= [true, false, false, true, false]" ∷
    "! TypeError: wrong argument type Integer (expected Module)" ∷
    "! TypeError: wrong argument type String (expected Symbol)" ∷ [])
unfolding reading
kinds_of_values = refl

pub what_is_frozen_does_not_change : Writes plain_words one_root
    []
    ("run class F; attr_accessor :a; end" ∷
    "run f = F.new; f.freeze; [f.frozen?, 1.frozen?, F.frozen?, Integer.frozen?, self.frozen?]" ∷
    "run f.a = 1" ∷ "run f.a" ∷ "run e = StandardError.new(\"x\"); e.freeze; e.initialize(\"y\")" ∷
    "run class D < StandardError; def set(x); initialize(x); end; end; e = D.new; e.freeze; e.set(\"y\")" ∷
    [])
    ("= nil" ∷ "= [true, true, false, true, true]" ∷ "! FrozenError: can't modify frozen #<F>" ∷ "= nil" ∷
    "! NoMethodError: private method 'initialize' called for an instance of StandardError" ∷
    "! FrozenError: can't modify frozen #<D: D>" ∷ [])
unfolding reading
what_is_frozen_does_not_change = refl

pub what_is_raised : Writes plain_words one_root
    []
    ("run raise 1" ∷ "run raise Object" ∷ "run raise ArgumentError" ∷ "run raise ArgumentError, \"m\"" ∷
    "run raise ArgumentError.new(\"k\"), \"m\"" ∷ "run raise \"x\", 1" ∷
    "run class B < StandardError; def self.new; 5; end; end" ∷ "run raise B" ∷
    "run class D < StandardError; def initialize(m); super(m + \"!\"); end; end" ∷ "run raise D, \"q\"" ∷
    "run raise D" ∷ "run raise" ∷ "run D.new(\"a\").message" ∷ [])
    ("! TypeError: exception class/object expected" ∷ "! TypeError: exception class/object expected" ∷
    "! ArgumentError: ArgumentError" ∷ "! ArgumentError: m" ∷ "! ArgumentError: k" ∷
    "! TypeError: wrong argument type Integer (expected String)" ∷ "= :new" ∷
    "! TypeError: exception class/object expected" ∷ "= :initialize" ∷ "! D: q!" ∷
    "! ArgumentError: wrong number of arguments (given 0, expected 1)" ∷
    "! ArgumentError: wrong number of arguments (given 0, expected 1..2)" ∷ "= \"a!\"" ∷ [])
unfolding reading
what_is_raised = refl
