-- Faults that tests find, and what is left to do after them.
use Rattle.std.specs.Prelude.{◌≡◌, List, Option, Some, None, string_bytes}
use Rattle.zw_def.specs.Text.{Text}
use Rattle.zw_def_world.specs.Act.{Act, Point}
use Rattle.zw_def_world.specs.Making.{fails}
use Rattle.zw_fault.specs.ErrorKind.{error_kind_seen}
use Rattle.zw_fault.specs.declared.raise.Raise.{Raise}
use Rattle.zw_heap.specs.Heap.{Held}
use Rattle.zw_heap.specs.Telling.{Telling, Fits, Agrees}

abbrev pub fault_seen : Raise → Act
fault_seen r = fails (error_kind_seen r.kind) (string_bytes r.message)

-- the act, unless there is a fault
abbrev pub unless_fault : Option Raise → Act → Act
unless_fault None act = act
unless_fault (Some r) act = fault_seen r

-- one act is another in each world that agrees with the heap
abbrev pub AreSame : Held → List Text → (Telling → Act) → (Telling → Act) → Type 0
AreSame h names act other = (I : Telling) (p : Point) → Fits I names h → Agrees I h p.world → act I p ≡ other I p
