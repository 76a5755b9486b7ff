-- What a call that evaluates does: an act of the definition, from where the call begins to where it ends.
use Rattle.std.specs.Prelude.{◌≡◌, ℕ, ◌<◌, ◌≤◌, ◌++◌, Result, Ok, Err}
use Rattle.zw_def.specs.Text.{Text}
use Rattle.zw_def_world.specs.Act as told
use Rattle.zw_def_world.specs.Act.{Act, Point, ends}
use Rattle.zw_flow.specs.declared.fault.RunFault.{RunFault}
use Rattle.zw_flow.specs.declared.flow.Flow.{Flow}
use Rattle.zw_flow.specs.declared.flow.Flow.TheVariants as f
use Rattle.zw_heap.specs.declared.mark.Sizes.{Sizes}
use Rattle.zw_heap.specs.Sound.{IsIn}
use Rattle.zw_heap.specs.Telling.{Telling, tell}

abbrev pub flow_told : Telling → Flow → told.Flow
flow_told I (f.Value v) = told.gave (tell I v)
flow_told I (f.Raised o) = told.raised (I.object_id o.0)
flow_told I f.Break = told.broken
flow_told I f.Next = told.skipped
flow_told I (f.Return v) = told.returned (tell I v)
flow_told I f.Budget = told.out_of_steps
flow_told I f.Depth = told.too_deep

-- what it carries is in the heap
abbrev pub FlowIn : Sizes → Flow → Type 0
FlowIn s (f.Value v) = IsIn s v
FlowIn s (f.Raised o) = o.0 < s.objects
FlowIn s (f.Return v) = IsIn s v
FlowIn s _ = Unit {0}

-- what was written is a beginning of what is written there
abbrev pub IsFront : Point → Point → Type 0
IsFront p q = (more : Text) × (q.out ≡ p.out ++ more)

-- The act, with any bound that is no less than the steps left, ends so and there. Where the call ended early, a beginning
-- of what the act writes was written.
abbrev pub Follows : Telling → (ℕ → Act) → Point → Point → Result Flow RunFault → Type 0
Follows I act p q (Ok flow) = (n : ℕ) → p.left ≤ n → act n p ≡ ends (flow_told I flow) q
Follows I act p q (Err fault) = (n : ℕ) → p.left ≤ n → IsFront q (act n p).at
