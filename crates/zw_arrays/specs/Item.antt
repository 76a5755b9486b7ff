-- The items of arrays.
use Rattle.std.specs.Prelude.{◌<◌}
use Rattle.zw_def_world.specs.Making.{max_nesting}
use Rattle.zw_heap.specs.declared.value.Value.{Value}
use Rattle.zw_heap.specs.Heap.{Held, nesting_in, sizes_of}
use Rattle.zw_heap.specs.Sound.{IsIn}

-- what an array of the heap may hold: a value that is in it, and no array in which as many stand in one another as may
pub record IsItem (h : Held) (x : Value) : Type 0 where
  pub held : IsIn (sizes_of h) x
  pub shallow : nesting_in h.arrays x < max_nesting
