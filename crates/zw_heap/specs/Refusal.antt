-- Why a heap does not make or change something.
use Rattle.std.specs.Prelude.{◌≡◌, nat_lt, Bool, true, false, List, length, Option, Some, None, Result, Ok, Err, if◌then◌else◌}
use Rattle.zw_def.specs.Text.{Text}
use Rattle.zw_def_world.specs.Making.{max_text, max_items, max_nesting}
use Rattle.zw_base.specs.declared.fault.Fault.{Fault}
use Rattle.zw_base.specs.declared.fault.Fault.TheVariants.{Refused, Memory}
use Rattle.zw_heap.specs.declared.fault.HeapRefusal.{HeapRefusal}
use Rattle.zw_heap.specs.declared.fault.HeapRefusal.TheVariants.{Frozen, TooLong, TooDeep}
use Rattle.zw_heap.specs.declared.value.Value.{Value}
use Rattle.zw_heap.specs.Heap.{Held, nesting_of}

abbrev pub text_refusal : Text → Option HeapRefusal
text_refusal t = if nat_lt max_text (length t) then Some TooLong else None

-- too long before nested too deep
abbrev pub array_refusal : Held → List Value → Option HeapRefusal
array_refusal h items =
    if nat_lt max_items (length items) then Some TooLong
    else if nat_lt max_nesting (nesting_of h items) then Some TooDeep
    else None

-- Frozen, exactly where the record is frozen
abbrev pub AnswersFrozen : {X : Type 0} → Option Bool → Result X (Fault HeapRefusal) → Type 0
AnswersFrozen frozen (Ok x) = frozen ≡ Some false
AnswersFrozen frozen (Err (Refused refusal)) = (frozen ≡ Some true) × (refusal ≡ Frozen)
AnswersFrozen frozen (Err Memory) = Unit {0}
