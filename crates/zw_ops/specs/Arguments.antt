-- Whether a method takes so many arguments, and how many of them are optional.
use Rattle.std.specs.Prelude.{◌≡◌, ℕ, ◌-◌, ◌&&◌, nat_le, true, false, Result, Ok, Err}
use Rattle.zw_base.specs.declared.fault.Fault.{Fault}
use Rattle.zw_base.specs.declared.fault.Fault.TheVariants.{Refused, Memory}
use Rattle.zw_calls.specs.Fault.{fault_seen}
use Rattle.zw_def_world.specs.Fault.{wrong_number}
use Rattle.zw_fault.specs.declared.raise.Raise.{Raise}

-- those behind the required ones, or the fault of a number that is not taken
abbrev pub Binds : ℕ → ℕ → ℕ → Result ℕ (Fault Raise) → Type 0
Binds least most given (Ok optional) = ((nat_le least given && nat_le given most) ≡ true) × (optional ≡ given - least)
Binds least most given (Err (Refused raise)) =
    ((nat_le least given && nat_le given most) ≡ false) × (fault_seen raise ≡ wrong_number given least most false)
Binds least most given (Err Memory) = Unit {0}
