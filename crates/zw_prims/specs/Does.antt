-- How a call of any primitive method ends, and what it leaves. One method alone changes a record: an exception keeps a
-- message.
use Rattle.std.specs.Prelude.{◌≡◌, ℕ, List, Option, Some, None}
use Rattle.zw_def.specs.Text.{Text}
use Rattle.zw_def_world.specs.Act.{Act, Point}
use Rattle.zw_def_world.specs.Record.{with_message}
use Rattle.zw_def_world.specs.Site.{Site}
use Rattle.zw_def_world.specs.World.{World, at_object}
use Rattle.zw_heap.specs.Heap as heap
use Rattle.zw_heap.specs.Heap.{Held, sizes_of}
use Rattle.zw_heap.specs.ObjectRecord as held_record
use Rattle.zw_heap.specs.Telling.{Telling, Fits, Agrees}
use Rattle.zw_calls.specs.End.{end_seen, EndIn, IsDone}
use Rattle.zw_calls.specs.declared.end.PrimEnd.{PrimEnd}

-- the world in which the object of a number keeps a text; without one it is as before
abbrev pub world_after : Telling → Option (ℕ × Text) → World → World
world_after I None w = w
world_after I (Some kept) w = at_object (I.object_id kept.0) (with_message kept.1) w

abbrev pub heap_after : Option (ℕ × Text) → Held → Held
heap_after None h = h
heap_after (Some kept) h = heap.at_object kept.0 (held_record.with_message kept.1) h

-- the act of a call, at each place in a program, ends so, by each telling that fits the heap at the end: from each world
-- that agreed with the heap before, in one that agrees with the heap now
pub record Does (call : Site → Telling → Act) (h g : Held) (names : List Text) (left later : ℕ) (end : PrimEnd) : Type 0 where
  pub kept : Option (ℕ × Text)
  pub told : (s : Site) (I : Telling) (p : Point) → Fits I names g → Agrees I h p.world → p.left ≡ left
      → call s I p ≡ end_seen I (call s I) end (record p { world = world_after I kept p.world; left = later })
  pub agrees : (I : Telling) (w : World) → Fits I names g → Agrees I h w → Agrees I g (world_after I kept w)
  -- texts and arrays may be added, and names
  pub records : g ≡ record (heap_after kept h) { names = g.names; texts = g.texts; arrays = g.arrays }
  pub held : EndIn (sizes_of g) end
  pub done : IsDone end
