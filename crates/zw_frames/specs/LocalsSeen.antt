-- The variables that a frame of the code has.
use Rattle.std.specs.Prelude.{ℕ, List, map}
use Rattle.zw_heap.specs.declared.value.Value.{Value}
use Rattle.zw_frames.specs.declared.locals.Local.{Local}

abbrev pub entries_seen : List Local → List (ℕ × Value)
entries_seen es = map (λ e. (e.name.0, e.value)) es
