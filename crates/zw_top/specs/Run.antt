-- What a whole run writes, how it ends, and which counts rise.
use Rattle.std.specs.Prelude.{◌≡◌, ◌≢◌, ℕ, Option, Ok, Err, ◌++◌, codes}
use Rattle.zw_def.specs.Text.{Text}
use Rattle.zw_def.specs.Told.{Rose, Appends, AppendsFront}
use Rattle.zw_def_thin.specs.Refusal.{Ending, Refusal, Start, usage, configuration, limit, done, line_of_refusal, ending_of_refusal}
use Rattle.zw_def_thin.specs.Session.{Session}
use Rattle.zw_top.specs.Session.{output_from}
use Rattle.zw_top.specs.Reply.{WritesAll, WritesFront, StopsAfter}
use Rattle.zw_base.specs.declared.fault.Fault.{Fault}
use Rattle.zw_base.specs.declared.fault.Fault.TheVariants.{Refused}
use Rattle.zw_base.specs.declared.fault.Fault.TheVariants as fault
use Rattle.zw_top.specs.Refusal.{refusal_seen}
use Rattle.zw_top.specs.declared.refusal.Stop.{Stop}
use Rattle.zw_top.specs.declared.refusal.Stop.TheVariants as stop
use Rattle.zw_top.specs.declared.status.Status.{Status}
use Rattle.zw_top.specs.declared.status.Status.TheVariants.{Done, Usage, Config, ReadFault, WriteFault, FolderFault, Memory, Limit}

-- ---- refusals

-- the status that tells an ending
abbrev pub status_of_ending : Ending → Status
status_of_ending done = Done
status_of_ending usage = Usage
status_of_ending configuration = Config
status_of_ending limit = Limit

-- the line of a refusal, with its LF
abbrev pub line_for : Refusal → Text
line_for refusal = line_of_refusal refusal ++ codes "\n"

-- a refusal is told by its line and its status; a failed write leaves a front of the line, and want of memory nothing
abbrev pub Refuses : Status → Refusal → Option Text → Option Text → Type 0
Refuses WriteFault refusal first now = AppendsFront first now (line_for refusal)
Refuses Memory refusal first now = now ≡ first
Refuses status refusal first now =
    (status ≡ status_of_ending (ending_of_refusal refusal)) × Appends first now (line_for refusal)

-- the same where a call of the folder may have failed before: then nothing is written
abbrev pub RefusesOrFails : Status → Refusal → Option Text → Option Text → Type 0
RefusesOrFails FolderFault refusal first now = now ≡ first
RefusesOrFails status refusal first now = Refuses status refusal first now

-- the end of a session that does not start: its refusal, a failed call of the folder, or want of memory
abbrev pub RefusesFor : Status → Fault Stop → Option Text → Option Text → Type 0
RefusesFor status (Refused (stop.Refusal refusal)) first now = Refuses status (refusal_seen refusal) first now
RefusesFor status (Refused stop.FolderFault) first now = (status ≡ FolderFault) × (now ≡ first)
RefusesFor status fault.Memory first now = (status ≡ Memory) × (now ≡ first)

-- a run whose words are refused says so, and no other does
abbrev pub KeepsToWords : {X : Type 0} → Status → Start X → Option Text → Option Text → Type 0
KeepsToWords status (Err refusal) first now = Refuses status refusal first now
KeepsToWords status (Ok x) first now = status ≢ Usage

-- a run whose start is refused says so, and no other says that words or configuration are refused
abbrev pub KeepsToStart : {X : Type 0} → Status → Start X → Option Text → Option Text → Type 0
KeepsToStart status (Err refusal) first now = RefusesOrFails status refusal first now
KeepsToStart status (Ok x) first now = (status ≢ Usage) × (status ≢ Config)

-- ---- the whole

-- what is written, by the status, where the session starts so
abbrev pub Writes : Status → Start Session → Text → Option Text → Option Text → Option Text → Type 0
Writes Done start bytes later first now = WritesAll (output_from start bytes) done first now
Writes Usage start bytes later first now = WritesAll (output_from start bytes) usage first now
Writes Config start bytes later first now = WritesAll (output_from start bytes) configuration first now
Writes Limit start bytes later first now = WritesAll (output_from start bytes) limit first now
Writes ReadFault start bytes later first now =
    (s : Session) × (start ≡ Ok s) × StopsAfter s bytes later first now
Writes FolderFault start bytes later first now = now ≡ first
Writes WriteFault start bytes later first now = WritesFront (output_from start bytes) first now
Writes Memory start bytes later first now = WritesFront (output_from start bytes) first now

-- the counts of the folder, the source and the sink, before and after, by the status
abbrev pub Causes : Status → ℕ → ℕ → ℕ → ℕ → ℕ → ℕ → Type 0
Causes ReadFault folder f source s sink k = (f ≡ folder) × Rose source s × (k ≡ sink)
Causes WriteFault folder f source s sink k = (f ≡ folder) × (s ≡ source) × Rose sink k
Causes FolderFault folder f source s sink k = Rose folder f × (s ≡ source) × (k ≡ sink)
Causes other folder f source s sink k = (f ≡ folder) × (s ≡ source) × (k ≡ sink)
