-- What `include` and `extend` change, and why they don't.
use Rattle.std.specs.Prelude.{◌≡◌, ℕ, List, [], Bool, true, false, Option, Some, Result, Ok, Err, if◌then◌else◌}
use Rattle.std.specs.List.{slice_get}
use Rattle.std.specs.Option.{option_map_or}
use Rattle.zw_base.specs.declared.fault.Fault.{Fault}
use Rattle.zw_base.specs.declared.fault.Fault.TheVariants.{Refused, Memory}
use Rattle.zw_consts.specs.Ancestor.{numbers_of, includes_at, is_among, ancestors_of}
use Rattle.zw_heap.specs.declared.fault.HeapRefusal.{HeapRefusal}
use Rattle.zw_heap.specs.declared.value.ModuleId.{ModuleId}
use Rattle.zw_heap.specs.Heap.{Held, at_module}
use Rattle.zw_heap.specs.ModuleRecord.{Module, with_include, with_extension}
use Rattle.zw_methods.specs.declared.fault.MethodRefusal.{MethodRefusal}
use Rattle.zw_methods.specs.declared.fault.MethodRefusal.TheVariants.{Frozen, Cyclic}

-- what is there already is not added again
abbrev pub including : ModuleId → ModuleId → Held → Held
including into added h =
    if is_among (includes_at h.modules into.0) added.0 then h else at_module into (with_include added) h

abbrev pub extensions_at : List Module → ℕ → List ℕ
extensions_at modules n = option_map_or (λ m. numbers_of m.extensions) (slice_get modules n) []

abbrev pub extending : ModuleId → ModuleId → Held → Held
extending into added h =
    if is_among (extensions_at h.modules into.0) added.0 then h else at_module into (with_extension added) h

-- the module stands above what it would include
abbrev pub is_cyclic : Held → ModuleId → ModuleId → Bool
is_cyclic h into added = is_among (ancestors_of h.modules added.0) into.0

-- Frozen exactly where the module is frozen, and Cyclic exactly where it is not and the include would be cyclic
abbrev pub AnswersInclude : {X : Type 0} → Option Bool → Bool → Result X (Fault MethodRefusal) → Type 0
AnswersInclude frozen cyclic (Ok x) = (frozen ≡ Some false) × (cyclic ≡ false)
AnswersInclude frozen cyclic (Err (Refused Frozen)) = frozen ≡ Some true
AnswersInclude frozen cyclic (Err (Refused Cyclic)) = (frozen ≡ Some false) × (cyclic ≡ true)
AnswersInclude frozen cyclic (Err Memory) = Unit {0}

-- Cyclic, exactly where that is so
abbrev pub AnswersCyclic : {X : Type 0} → Bool → Result X (Fault MethodRefusal) → Type 0
AnswersCyclic cyclic (Ok x) = cyclic ≡ false
AnswersCyclic cyclic (Err (Refused refusal)) = (cyclic ≡ true) × (refusal ≡ Cyclic)
AnswersCyclic cyclic (Err Memory) = Unit {0}

-- a heap refuses to change a module only where that is frozen
abbrev pub fault_of : Fault HeapRefusal → Fault MethodRefusal
fault_of (Refused refusal) = Refused Frozen
fault_of Memory = Memory
