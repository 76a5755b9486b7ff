-- How a call of a primitive method ends, against the act that the definition has for the call.
use Rattle.std.specs.Prelude.{◌≡◌, ℕ, List, string_bytes}
use Rattle.zw_def.specs.Text.{Text}
use Rattle.zw_def_world.specs.Act.{Act, Point, ends, gives, out_of_steps}
use Rattle.zw_def_world.specs.Making.{fails}
use Rattle.zw_def_world.specs.Site.{Site}
use Rattle.zw_fault.specs.ErrorKind.{error_kind_seen}
use Rattle.zw_heap.specs.declared.mark.Sizes.{Sizes}
use Rattle.zw_heap.specs.Heap.{Held, sizes_of}
use Rattle.zw_heap.specs.Sound.{IsIn, Stays}
use Rattle.zw_heap.specs.Telling.{Telling, Fits, Agrees, OnlyAdds, tell}
use Rattle.zw_calls.specs.declared.end.PrimEnd.{PrimEnd}
use Rattle.zw_calls.specs.declared.end.PrimEnd.TheVariants as e

-- what is left to do: a call that has done nothing yet is all that is left
abbrev pub end_seen : Telling → Act → PrimEnd → Act
end_seen I call (e.Value x) = gives (tell I x)
end_seen I call (e.Raise r) = fails (error_kind_seen r.kind) (string_bytes r.message)
end_seen I call e.Budget = ends out_of_steps
end_seen I call (e.Again prim) = call

-- the method has done its work
abbrev pub IsDone : PrimEnd → Type 0
IsDone (e.Again prim) = ⊥
IsDone _ = Unit {0}

-- a value that it gives is in the heap
abbrev pub EndIn : Sizes → PrimEnd → Type 0
EndIn s (e.Value x) = IsIn s x
EndIn s _ = Unit {0}

-- the act ends so wherever it stands: it takes no steps, reads no world and makes nothing
pub record EndsAtOnce (act : Telling → Act) (end : PrimEnd) : Type 0 where
  pub told : (I : Telling) (call : Act) → act I ≡ end_seen I call end
  pub held : (s : Sizes) → EndIn s end
  pub done : IsDone end

-- the act of a call, at each place in a program, ends so: by each telling that fits the heap at the end, in each world
-- that agrees with it, with so many steps left before and after
abbrev pub Follows : (Site → Telling → Act) → Held → List Text → ℕ → ℕ → PrimEnd → Type 0
Follows call h names left later end =
    (s : Site) (I : Telling) (p : Point) → Fits I names h → Agrees I h p.world → p.left ≡ left
    → call s I p ≡ end_seen I (call s I) end (record p { left = later })

-- the call has done its work, and its value is in the heap
pub record Performs (call : Site → Telling → Act) (h : Held) (names : List Text) (left later : ℕ) (end : PrimEnd) : Type 0 where
  pub told : Follows call h names left later end
  pub held : EndIn (sizes_of h) end
  pub done : IsDone end

-- Texts and arrays are added, and nothing else is changed.
pub record AddsValues (h g : Held) : Type 0 where
  pub adds : OnlyAdds h g
  pub stays : Stays h g
  pub records : g ≡ record h { texts = g.texts; arrays = g.arrays }

-- Texts and arrays are added, the heap may be told of more names, and nothing else is changed.
pub record AddsNamed (h g : Held) : Type 0 where
  pub adds : OnlyAdds h g
  pub stays : Stays h g
  pub records : g ≡ record h { names = g.names; texts = g.texts; arrays = g.arrays }

-- what is not paid for is not made: without a value nothing is changed
abbrev pub MakesOnlyPaid : Held → Held → PrimEnd → Type 0
MakesOnlyPaid h g (e.Value x) = Unit {0}
MakesOnlyPaid h g _ = g ≡ h
