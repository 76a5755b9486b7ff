-- Values that are no arrays.
use Rattle.zw_heap.specs.declared.value.Value.{Value}
use Rattle.zw_heap.specs.declared.value.Value.TheVariants as v

abbrev pub IsFlat : Value → Type 0
IsFlat (v.Array a) = ⊥
IsFlat _ = Unit {0}
