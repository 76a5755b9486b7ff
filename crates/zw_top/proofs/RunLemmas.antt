-- A whole run: its refusals, its statuses, and what it leaves of the stream.
use Rattle.std.proofs.Common.{◌≡◌, ◌≢◌, List, [], Option, Some, None, Ok, Err, IfSome, refl, sym, ap, subst, arith}
use Rattle.std.specs.Option.{ok_or}
use Rattle.zw_def.specs.Text.{Text}
use Rattle.zw_def_session.specs.Settings.{Settings, settings_of}
use Rattle.zw_def.specs.Folder.{Listing}
use Rattle.zw_def.specs.Told.{Appends, AppendsFront}
use Rattle.zw_def_thin.specs.Refusal.{Start, Ending, usage, configuration, limit, done, bad_words, ending_of_refusal, line_of_refusal, ◌>>=◌}
use Rattle.zw_def_thin.specs.Refusal as start
use Rattle.zw_def_thin.specs.Output.{refused, text_of_lines}
use Rattle.zw_def_thin.specs.Session.{Session}
use Rattle.zw_top.specs.Reply.{Serves}
use Rattle.zw_top.specs.Session.{SessionStands, started, started_with}
use Rattle.zw_top.specs.declared.session.Session as code
use Rattle.zw_base.specs.declared.fault.Fault.{Fault}
use Rattle.zw_base.specs.declared.fault.Fault.TheVariants.{Refused}
use Rattle.zw_base.specs.declared.fault.Fault.TheVariants as fault
use Rattle.zw_top.specs.Refusal.{refusal_seen, Stops}
use Rattle.zw_top.specs.Start.{GivesSession}
use Rattle.zw_top.specs.Run.{status_of_ending, line_for, Refuses, RefusesFor, KeepsToStart, Writes}
use Rattle.zw_top.specs.Stream.{Takes, TakesFront}
use Rattle.zw_top.specs.declared.status.Status.{Status}
use Rattle.zw_top.specs.declared.status.Status.TheVariants.{Done, Usage, Config, ReadFault, WriteFault, FolderFault, Memory, Limit}
use Rattle.zw_top.specs.declared.refusal.Stop.{Stop}
use Rattle.zw_top.specs.declared.refusal.Stop.TheVariants as stop
use Rattle.zw_top.proofs.OutputLemmas.{text_of_one, front_none}

-- ---- statuses of endings

usage_from : (e : Ending) → Usage ≡ status_of_ending e → e ≡ usage
usage_from done is = absurd (cc)
usage_from usage is = refl
usage_from configuration is = absurd (cc)
usage_from limit is = absurd (cc)

configuration_from : (e : Ending) → Config ≡ status_of_ending e → e ≡ configuration
configuration_from done is = absurd (cc)
configuration_from usage is = absurd (cc)
configuration_from configuration is = refl
configuration_from limit is = absurd (cc)

limit_from : (e : Ending) → Limit ≡ status_of_ending e → e ≡ limit
limit_from done is = absurd (cc)
limit_from usage is = absurd (cc)
limit_from configuration is = absurd (cc)
limit_from limit is = refl

done_from : (e : Ending) → Done ≡ status_of_ending e → e ≡ done
done_from done is = refl
done_from usage is = absurd (cc)
done_from configuration is = absurd (cc)
done_from limit is = absurd (cc)

no_read : (e : Ending) → ReadFault ≢ status_of_ending e
no_read done is = cc
no_read usage is = cc
no_read configuration is = cc
no_read limit is = cc

no_folder : (e : Ending) → FolderFault ≢ status_of_ending e
no_folder done is = cc
no_folder usage is = cc
no_folder configuration is = cc
no_folder limit is = cc

whole_line : (r : start.Refusal) (first now : Option Text) → Appends first now (line_for r) → Appends first now (text_of_lines (refused r).lines)
whole_line r first now appends = subst (λ (t : Text). Appends first now t) (sym (text_of_one (line_of_refusal r))) appends

pub refused_writes : (status : Status) (r : start.Refusal) (bytes : Text) (later first now : Option Text) → Refuses status r first now → Writes status (Err r) bytes later first now
refused_writes Done r bytes later first now refuses = (whole_line r first now refuses.1, done_from _ refuses.0)
refused_writes Usage r bytes later first now refuses = (whole_line r first now refuses.1, usage_from _ refuses.0)
refused_writes Config r bytes later first now refuses = (whole_line r first now refuses.1, configuration_from _ refuses.0)
refused_writes Limit r bytes later first now refuses = (whole_line r first now refuses.1, limit_from _ refuses.0)
refused_writes WriteFault r bytes later first now refuses =
    subst (λ (t : Text). AppendsFront first now t) (sym (text_of_one (line_of_refusal r))) refuses
refused_writes Memory r bytes later first now refuses = rw refuses (front_none first _)
refused_writes ReadFault r bytes later first now refuses = absurd (no_read _ refuses.0)
refused_writes FolderFault r bytes later first now refuses = absurd (no_folder _ refuses.0)

lacks_writes : (from : Start Session) (bytes : Text) (later first now : Option Text) → now ≡ first → Writes Memory from bytes later first now
lacks_writes from bytes later first now same = rw same (front_none first _)

fault_at : (status : Status) (f : Fault Stop) (from : Start Session) (bytes : Text) (later first now : Option Text) → Stops f from → RefusesFor status f first now → Writes status from bytes later first now
fault_at status (Refused (stop.Refusal r)) from bytes later first now stops refuses =
    subst (λ (s : Start Session). Writes status s bytes later first now) (sym stops) (refused_writes status (refusal_seen r) bytes later first now refuses)
fault_at status (Refused stop.FolderFault) from bytes later first now stops refuses = rw refuses.0 refuses.1
fault_at status fault.Memory from bytes later first now stops refuses = rw refuses.0 (lacks_writes from bytes later first now refuses.1)

pub fault_writes : (status : Status) (f : Fault Stop) (settings : Settings) (told : Option Listing) (left later first now : Option Text) → IfSome told (λ l. GivesSession (Err f) (started_with settings l)) → RefusesFor status f first now
    → IfSome told (λ l. IfSome left (λ bytes. Writes status (started_with settings l) bytes later first now))
fault_writes status f settings None left later first now gives refuses = tt
fault_writes status f settings (Some l) None later first now gives refuses = tt
fault_writes status f settings (Some l) (Some bytes) later first now gives refuses = fault_at status f (started_with settings l) bytes later first now gives refuses

-- ---- a session that starts

serves_as : (status : Status) (s : Session) (bytes : Text) (later first now : Option Text) → Serves status s bytes later first now → Writes status (Ok s) bytes later first now
serves_as Done s bytes later first now serves = serves
serves_as Limit s bytes later first now serves = serves
serves_as ReadFault s bytes later first now serves = (s, refl, serves)
serves_as WriteFault s bytes later first now serves = serves
serves_as Memory s bytes later first now serves = serves
serves_as Usage s bytes later first now serves = absurd serves
serves_as Config s bytes later first now serves = absurd serves
serves_as FolderFault s bytes later first now serves = absurd serves

serves_by : (status : Status) (held : code.Session) (from : Start Session) (left later first now : Option Text) → GivesSession (Ok held) from → ((s : Session) → SessionStands s held → IfSome left (λ bytes. Serves status s bytes later first now)) → IfSome left (λ bytes. Writes status from bytes later first now)
serves_by status held from None later first now gives serves = tt
serves_by status held from (Some bytes) later first now gives serves =
    subst (λ (x : Start Session). Writes status x bytes later first now) (sym gives.1) (serves_as status gives.0 bytes later first now (serves gives.0 gives.2))

pub session_writes : (status : Status) (held : code.Session) (settings : Settings) (told : Option Listing) (left later first now : Option Text) → IfSome told (λ l. GivesSession (Ok held) (started_with settings l)) → ((s : Session) → SessionStands s held → IfSome left (λ bytes. Serves status s bytes later first now))
    → IfSome told (λ l. IfSome left (λ bytes. Writes status (started_with settings l) bytes later first now))
session_writes status held settings None left later first now gives serves = tt
session_writes status held settings (Some l) left later first now gives serves = serves_by status held (started_with settings l) left later first now gives serves

-- ---- what is taken of the stream

no_end : (r : start.Refusal) → Done ≡ status_of_ending (ending_of_refusal r) → ⊥
no_end start.bad_words is = cc
no_end start.no_configuration is = cc
no_end (start.bad_configuration fault) is = cc
no_end start.other_configuration is = cc
no_end start.long_listing is = cc
no_end start.many_files is = cc
no_end (start.large_file path) is = cc
no_end start.large_tree is = cc
no_end (start.bad_namespace text) is = cc

nothing_taken : (bytes : Text) (later : Option Text) → later ≡ Some bytes → TakesFront bytes later
nothing_taken bytes later same = record { taken = []; rest = bytes; split = refl; few = omega arith; told = same }

refused_takes : (status : Status) (r : start.Refusal) (bytes : Text) (later first now : Option Text) → Refuses status r first now
    → later ≡ Some bytes → Takes status bytes later
refused_takes Done r bytes later first now refuses same = absurd (no_end r refuses.0)
refused_takes Usage r bytes later first now refuses same = same
refused_takes Config r bytes later first now refuses same = same
refused_takes FolderFault r bytes later first now refuses same = same
refused_takes Limit r bytes later first now refuses same = nothing_taken bytes later same
refused_takes WriteFault r bytes later first now refuses same = nothing_taken bytes later same
refused_takes ReadFault r bytes later first now refuses same = nothing_taken bytes later same
refused_takes Memory r bytes later first now refuses same = nothing_taken bytes later same

-- a session that does not start takes nothing
pub fault_takes : (status : Status) (f : Fault Stop) (left later first now : Option Text) → RefusesFor status f first now
    → later ≡ left → IfSome left (λ bytes. Takes status bytes later)
fault_takes status f None later first now refuses same = tt
fault_takes status (Refused (stop.Refusal r)) (Some bytes) later first now refuses same =
    refused_takes status (refusal_seen r) bytes later first now refuses same
fault_takes status (Refused stop.FolderFault) (Some bytes) later first now refuses same = rw refuses.0 same
fault_takes status fault.Memory (Some bytes) later first now refuses same = rw refuses.0 (nothing_taken bytes later same)

-- ---- want of memory

no_usage : Memory ≡ Usage → ⊥
no_usage is = cc

no_config : Memory ≡ Config → ⊥
no_config is = cc

memory_keeps : {X : Type 0} (from : Start X) (first now : Option Text) → now ≡ first → KeepsToStart Memory from first now
memory_keeps (Err refusal) first now same = same
memory_keeps (Ok x) first now same = (no_usage, no_config)

pub lacks_refuses : (words : List Text) (told : Option Listing) (first now : Option Text) → now ≡ first
    → IfSome told (λ l. KeepsToStart Memory (started words l) first now)
lacks_refuses words None first now same = tt
lacks_refuses words (Some l) first now same = memory_keeps (started words l) first now same

-- ---- from the words

started_by : (words : List Text) (settings : Settings) (l : Listing) → settings_of words ≡ Some settings → started words l ≡ started_with settings l
started_by words settings l is = ap (λ (said : Option Settings). ok_or said bad_words >>= λ s. started_with s l) is

-- where the words say these settings, and the sink and the source are those that the run leaves
pub run_writes : {K S : Type 0} (taken : K → Option Text) (stays : S → Option Text) (old begun now final : K) (source last : S) (status : Status) (words : List Text) (settings : Settings) (told : Option Listing) (left : Option Text)
    → begun ≡ old → final ≡ now → last ≡ source → settings_of words ≡ Some settings
    → IfSome told (λ l. IfSome left (λ bytes. Writes status (started_with settings l) bytes (stays source) (taken begun) (taken now)))
    → IfSome told (λ l. IfSome left (λ bytes. Writes status (started words l) bytes (stays last) (taken old) (taken final)))
run_writes taken stays old begun now final source last status words settings None left same ends leaves is writes = tt
run_writes taken stays old begun now final source last status words settings (Some l) None same ends leaves is writes = tt
run_writes taken stays old begun now final source last status words settings (Some l) (Some bytes) same ends leaves is writes =
    subst (λ (from : Start Session). Writes status from bytes (stays last) (taken old) (taken final)) (sym (started_by words settings l is))
    (subst (λ (s : _). Writes status (started_with settings l) bytes (stays s) (taken old) (taken final)) (sym leaves)
    (subst (λ (k : _). Writes status (started_with settings l) bytes (stays source) (taken old) (taken k)) (sym ends)
    (subst (λ (k : _). Writes status (started_with settings l) bytes (stays source) (taken k) (taken now)) same writes)))
