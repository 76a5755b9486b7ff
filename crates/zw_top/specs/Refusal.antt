-- What the code's refusals stand for, and what a step of the start answers.
use Rattle.std.specs.Prelude.{◌≡◌, ℕ, Result, Ok, Err, string_bytes}
use Rattle.zw_def.specs.Told.{Rose}
use Rattle.zw_def_thin.specs.Refusal as defined
use Rattle.zw_base.specs.declared.fault.Fault.{Fault}
use Rattle.zw_base.specs.declared.fault.Fault.TheVariants.{Refused, Memory}
use Rattle.zw_config.specs.Fault.{fault_seen}
use Rattle.zw_top.specs.declared.refusal.Refusal as code
use Rattle.zw_top.specs.declared.refusal.Refusal.TheVariants.{NoConfiguration, BadConfiguration, OtherConfiguration, LongListing, ManyFiles, LargeFile, LargeTree, BadNamespace}
use Rattle.zw_top.specs.declared.refusal.Stop.{Stop}
use Rattle.zw_top.specs.declared.refusal.Stop.TheVariants.{Refusal, FolderFault}

abbrev pub refusal_seen : code.Refusal → defined.Refusal
refusal_seen NoConfiguration = defined.no_configuration
refusal_seen (BadConfiguration fault) = defined.bad_configuration (fault_seen fault)
refusal_seen OtherConfiguration = defined.other_configuration
refusal_seen LongListing = defined.long_listing
refusal_seen ManyFiles = defined.many_files
refusal_seen (LargeFile path) = defined.large_file path
refusal_seen LargeTree = defined.large_tree
refusal_seen (BadNamespace text) = defined.bad_namespace (string_bytes text)

-- the step is refused as defined; a failed call and want of memory say nothing
abbrev pub Stops : {Y : Type 0} → Fault Stop → defined.Start Y → Type 0
Stops (Refused (Refusal refusal)) start = start ≡ Err (refusal_seen refusal)
Stops (Refused FolderFault) start = Unit {0}
Stops Memory start = Unit {0}

-- the step gives what is defined, seen so
abbrev pub Gives : {X Y : Type 0} → (X → Y) → Result X (Fault Stop) → defined.Start Y → Type 0
Gives seen (Ok x) start = start ≡ Ok (seen x)
Gives seen (Err fault) start = Stops fault start

-- the count of the folder rose exactly where the step says that it failed
abbrev pub CountsStart : {X : Type 0} → Result X (Fault Stop) → ℕ → ℕ → Type 0
CountsStart (Ok x) before after = after ≡ before
CountsStart (Err (Refused (Refusal refusal))) before after = after ≡ before
CountsStart (Err (Refused FolderFault)) before after = Rose before after
CountsStart (Err Memory) before after = after ≡ before

-- no call of the folder failed
abbrev pub KeepsFolder : {X : Type 0} → Result X (Fault Stop) → Type 0
KeepsFolder (Ok x) = Unit {0}
KeepsFolder (Err (Refused (Refusal refusal))) = Unit {0}
KeepsFolder (Err (Refused FolderFault)) = ⊥
KeepsFolder (Err Memory) = Unit {0}
