-- Arrays hold earlier ones alone.
use Rattle.std.specs.Prelude.{◌≡◌, ℕ, List, Some}
use Rattle.std.specs.Option.{option_map}
use Rattle.std.specs.List.{All, slice_get}
use Rattle.zw_heap.specs.declared.value.Value.{Value}
use Rattle.zw_heap.specs.Heap.{Row}
use Rattle.zw_heap.specs.Sound.{IsBelow}

abbrev pub HoldEarlier : List Row → Type 0
HoldEarlier rows = (n : ℕ) (items : List Value) → option_map (λ r. r.items) (slice_get rows n) ≡ Some items
    → All (IsBelow n) items
