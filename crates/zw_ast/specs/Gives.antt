-- What is said of a call that makes a node, or reads one: it gives what the definition gives, want of memory aside.
use Rattle.std.specs.Prelude.{◌≡◌, ◌≢◌, Option, Some, None, Result, Ok, Err}
use Rattle.zw_base.specs.declared.fault.Fault.{Fault}
use Rattle.zw_base.specs.declared.fault.Fault.TheVariants.{Memory}

abbrev pub Gives : {A X E : Type 0} → (X → A) → Option A → Result X (Fault E) → Type 0
Gives view outcome (Ok x) = outcome ≡ Some (view x)
Gives view outcome (Err fault) = fault ≢ Memory → outcome ≡ None
