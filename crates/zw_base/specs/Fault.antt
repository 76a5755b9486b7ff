-- What is said of a call that refuses, want of memory aside.
use Rattle.std.specs.Prelude.{◌≡◌, Result, Ok, Err}
use Rattle.zw_base.specs.declared.fault.Fault.{Fault}
use Rattle.zw_base.specs.declared.fault.Fault.TheVariants.{Refused, Memory}

-- the reason, where the call refused for one
abbrev pub IfReason : {E : Type 0} → Fault E → (E → Type 0) → Type 0
IfReason (Refused reason) Holds = Holds reason
IfReason Memory Holds = Unit {0}

-- the call refuses only for a reason of which this holds
abbrev pub IfRefused : {X E : Type 0} → Result X (Fault E) → (E → Type 0) → Type 0
IfRefused (Ok x) Holds = Unit {0}
IfRefused (Err fault) Holds = IfReason fault Holds

-- the call refuses, for this reason
abbrev pub IsRefusedFor : {X E : Type 0} → Result X (Fault E) → E → Type 0
IsRefusedFor result reason = result ≡ Err (Refused reason)
