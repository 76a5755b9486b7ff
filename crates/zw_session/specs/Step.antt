-- What is said of each call of a session: what the definition does there.
use Rattle.std.specs.Prelude.{◌≡◌, ℕ, ◌≤◌, length, Result, Ok, Err}
use Rattle.zw_base.specs.declared.fault.Fault.{Fault}
use Rattle.zw_base.specs.declared.fault.Fault.TheVariants.{Refused, Memory}
use Rattle.zw_calls.specs.End.{end_seen}
use Rattle.zw_calls.specs.Fault.{fault_seen}
use Rattle.zw_calls.specs.declared.end.PrimEnd.{PrimEnd}
use Rattle.zw_def_world.specs.Act.{Act, Point}
use Rattle.zw_fault.specs.declared.raise.Raise.{Raise}
use Rattle.zw_heap.specs.Sound.{Stays}
use Rattle.zw_session.specs.Stores.{Stores}
use Rattle.zw_session.specs.Sense.{Sense, Stands, world_of}

-- the act leads from the world of the first stores to that of the second ones, and goes on as the other act, wherever it
-- stands and however all is told
abbrev pub Step : Stores → Stores → (Sense → Act) → (Sense → Act) → Type 0
Step s t act later =
    (J : Sense) (p : Point) → Stands J t → p.world ≡ world_of J s → act J p ≡ later J (record p { world = world_of J t })

-- so it does with what is answered; what is refused is an exception that is to be raised
abbrev pub Steps : {X : Type 0} → Stores → Stores → (Sense → Act) → (X → Sense → Act)
    → Result X (Fault Raise) → Type 0
Steps s t act later (Ok x) = Step s t act (later x)
Steps s t act later (Err (Refused raise)) = Step s t act (λ J. fault_seen raise)
Steps s t act later (Err Memory) = Unit {0}

-- the act, with so many steps left, ends so in the world of the second stores, with so many left then
abbrev pub Pays : Stores → Stores → (Sense → Act) → ℕ → ℕ → PrimEnd → Type 0
Pays s t act left later end =
    (J : Sense) (p : Point) → Stands J t → p.world ≡ world_of J s → p.left ≡ left
    → act J p ≡ end_seen J.telling (act J) end (record p { world = world_of J t; left = later })

-- what each call of a session keeps
pub record Keeps (s t : Stores) : Type 0 where
  -- what tells the stores now told them before
  pub adds : (J : Sense) → Stands J t → Stands J s
  pub stays : Stays s.heap t.heap
  pub names : length s.names ≤ length t.names

-- the fault is the exception that the act raises there, want of memory aside
abbrev pub IsFault : Stores → (Sense → Act) → Fault Raise → Type 0
IsFault s act (Refused raise) = Step s s act (λ J. fault_seen raise)
IsFault s act Memory = Unit {0}
