-- A stream, request by request: what the loop over its requests knows, and how it ends.
use Rattle.std.proofs.Common.{◌≡◌, ◌++◌, ◌-◌, ℕ, suc, Bool, true, false, List, [], ◌∷◌, Option, Some, None, Ok, Err, IfSome, codes, refl, sym, ap, subst, ◌∙◌, append_assoc, append-nil}
use Rattle.std.proofs.lemmas.Option.{same_Some}
use Rattle.zw_def.specs.Text.{Text}
use Rattle.zw_def.specs.Told.{Appends, AppendsFront}
use Rattle.zw_def_session.specs.Commands.{over, stream_of}
use Rattle.zw_def_thin.specs.Output.{text_of_lines}
use Rattle.zw_def_thin.specs.Refusal as start
use Rattle.zw_def_thin.specs.Session.{Session}
use Rattle.zw_cmd.specs.Answer.{Answers, Gives, Meets, Spends, StopsIn}
use Rattle.zw_cmd.specs.Seen.{reading_of}
use Rattle.zw_cmd.specs.Streams.{next_reading, stream_from}
use Rattle.zw_cmd.specs.declared.command.Got as gots
use Rattle.zw_io.specs.declared.lines.LinesFault.{LinesFault}
use Rattle.zw_io.specs.declared.lines.LinesFault.TheVariants as lines
use Rattle.zw_top.specs.Reply.{WritesAll, WritesFront, StopsAfter, Serves, CutsShort, IsOver, Replies, RepliesTo}
use Rattle.zw_top.specs.Script.{Request, Script, no_requests, behind, script_within, script_of, request_seen}
use Rattle.zw_top.specs.Session.{SessionStands, answer_to, lines_of, output_in}
use Rattle.zw_top.specs.declared.session.Session as code
use Rattle.zw_top.specs.declared.status.Status.{Status}
use Rattle.zw_top.specs.declared.status.Status.TheVariants.{Done, Usage, Config, ReadFault, WriteFault, FolderFault, Memory, Limit}
use Rattle.zw_top.proofs.OutputLemmas.{front_more, front_now, whole_more, appends_nothing, text_of_one, session_after, session_after-append, lines_of-more, output-behind}
use Rattle.zw_top.proofs.ScriptLemmas.{Asked, asks_first, asks_next, script_next, script_ends, script_over, script_stops}

-- ---- the loop

-- some requests were got, their lines are written, and the code's session stands for the one after them
pub record Going (begun : Session) (held : code.Session) (all rest : Text) (first now : Option Text) (room : ℕ) (met : Bool) : Type 0 where
  pub requests : List Request
  pub asked : Asked all rest room met requests
  pub stands : SessionStands (session_after begun requests) held
  pub written : Appends first now (text_of_lines (lines_of begun requests))

abbrev pub GoesIfTold : Session → code.Session → Option Text → Option Text → Option Text → Option Text → ℕ → Bool → Type 0
GoesIfTold begun held None left first now room met = Unit {0}
GoesIfTold begun held (Some all) None first now room met = ⊥
GoesIfTold begun held (Some all) (Some rest) first now room met = Going begun held all rest first now room met

goes_first : (begun : Session) (held : code.Session) (all rest : Text) (first now : Option Text) (room : ℕ) (met : Bool) → SessionStands begun held → rest ≡ all → now ≡ first → room ≡ 1073741824 → Going begun held all rest first now room met
goes_first begun held all rest first now room met stands same written fits =
    subst (λ (t : Text). Going begun held all t first now room met) (sym same)
    (subst (λ (o : Option Text). Going begun held all all first o room met) (sym written)
    (subst (λ (n : ℕ). Going begun held all all first first n met) (sym fits)
    (record { requests = []; asked = asks_first all met; stands = stands; written = appends_nothing first })))

pub goes_start : (begun : Session) (held : code.Session) (told left first now : Option Text) (room : ℕ) (met : Bool) → SessionStands begun held → left ≡ told → now ≡ first → room ≡ 1073741824 → GoesIfTold begun held told left first now room met
goes_start begun held None left first now room met stands same written fits = tt
goes_start begun held (Some all) None first now room met stands same written fits = absurd (cc)
goes_start begun held (Some all) (Some rest) first now room met stands same written fits =
    goes_first begun held all rest first now room met stands (same_Some rest all same) written fits

-- one request more
goes_next : (begun : Session) (old new : code.Session) (g : gots.Got) (r : Request) (all rest : Text) (later first now then : Option Text) (room next : ℕ) (met after : Bool) (going : Going begun old all rest first now room met)
    → (is : request_seen g ≡ Some r) (gives : Gives reading_of next_reading g rest room later next) (meets : Meets reading_of next_reading (Ok g) rest later met after) (spends : Spends g room next)
    → Replies (Ok tt) (answer_to r (session_after begun going.requests)) new now then → Going begun new all gives.rest first then next after
goes_next begun old new g r all rest later first now then room next met after going is gives meets spends replied =
    let xs = going.requests in
    record {
      requests = xs ++ r ∷ [];
      asked = asks_next all rest room next met after g r later xs going.asked is gives meets spends;
      stands = subst (λ (s : Session). SessionStands s new) (sym (session_after-append begun xs r)) replied.0;
      written = subst (λ (t : Text). Appends first then t) (sym (lines_of-more begun xs r)) (whole_more first now then _ _ going.written replied.1);
    }

goes_by : (begun : Session) (old new : code.Session) (g : gots.Got) (asked : Option Request) (all rest : Text) (later first now then : Option Text) (room next : ℕ) (met after : Bool) → asked ≡ request_seen g → Going begun old all rest first now room met
    → Gives reading_of next_reading g rest room later next → Meets reading_of next_reading (Ok g) rest later met after → Spends g room next
    → RepliesTo (Ok tt) old new asked now then → GoesIfTold begun new (Some all) later first then next after
goes_by begun old new g None all rest later first now then room next met after is going gives meets spends replies = absurd replies.0
goes_by begun old new g (Some r) all rest later first now then room next met after is going gives meets spends replies =
    subst (λ (o : Option Text). GoesIfTold begun new (Some all) o first then next after) (sym gives.told)
    (goes_next begun old new g r all rest later first now then room next met after going (sym is) gives meets spends
    (replies (session_after begun going.requests) going.stands))

pub goes_on : (begun : Session) (old new : code.Session) (g : gots.Got) (told left later first now then : Option Text) (room next : ℕ) (met after : Bool) → GoesIfTold begun old told left first now room met
    → IfSome left (λ bytes. Answers reading_of next_reading (Ok g) bytes room later next) → IfSome left (λ bytes. Meets reading_of next_reading (Ok g) bytes later met after) → Spends g room next
    → RepliesTo (Ok tt) old new (request_seen g) now then → GoesIfTold begun new told later first then next after
goes_on begun old new g None left later first now then room next met after goes answers meets spends replies = tt
goes_on begun old new g (Some all) None later first now then room next met after goes answers meets spends replies = absurd goes
goes_on begun old new g (Some all) (Some rest) later first now then room next met after goes answers meets spends replies =
    goes_by begun old new g (request_seen g) all rest later first now then room next met after refl goes answers meets spends replies

-- ---- the ends of the loop

-- what the whole writes, where some requests come first
whole_text : (begun : Session) (all : Text) (xs : List Request) (script : Script) → script_of (stream_of all) ≡ behind xs script → text_of_lines (output_in begun (script_of (stream_of all))).lines ≡ text_of_lines (lines_of begun xs) ++ text_of_lines (output_in (session_after begun xs) script).lines
whole_text begun all xs script is = ap (λ s. text_of_lines (output_in begun s).lines) is ∙ output-behind begun xs script

front_written : (begun : Session) (held : code.Session) (all rest : Text) (first now then : Option Text) (room : ℕ) (met : Bool) → Going begun held all rest first now room met → then ≡ now → WritesFront (output_in begun (script_of (stream_of all))) first then
front_written begun held all rest first now then room met going same =
    let xs = going.requests in
    subst (λ (t : Text). AppendsFront first then t) (sym (whole_text begun all xs (script_within (suc going.asked.fuel) (stream_from room rest)) going.asked.script))
    (front_now first now then _ _ going.written same)

-- the end of the requests
done_writes : (begun : Session) (held : code.Session) (g : gots.Got) (all rest : Text) (later first now then : Option Text) (room next : ℕ) (met : Bool) → Going begun held all rest first now room met → request_seen g ≡ None
    → Gives reading_of next_reading g rest room later next → then ≡ now → WritesAll (output_in begun (script_of (stream_of all))) start.done first then
done_writes begun held g all rest later first now then room next met going is gives same =
    let xs = going.requests in
    let script = script_ends all rest room met xs going.asked g next later is gives in (
      subst (λ (t : Text). Appends first then t) (sym (whole_text begun all xs (no_requests false) script ∙ append-nil (text_of_lines (lines_of begun xs)))) (rw same going.written),
      ap (λ s. (output_in begun s).ending) script,
    )

-- a reply that ends the session
reply_by : (begun : Session) (old new : code.Session) (status : Status) (g : gots.Got) (asked : Option Request) (all rest : Text) (later source first now then : Option Text) (room next : ℕ) (met after : Bool) → asked ≡ request_seen g → Going begun old all rest first now room met
    → Gives reading_of next_reading g rest room later next → Meets reading_of next_reading (Ok g) rest later met after → Spends g room next
    → RepliesTo (Err status) old new asked now then → Serves status begun all source first then
reply_by begun old new status g None all rest later source first now then room next met after is going gives meets spends replies = by status replies.0 where
  by : (s : Status) → IsOver (Err s) → Serves s begun all source first then
  by Done ends = done_writes begun old g all rest later first now then room next met going (sym is) gives replies.1
  by Memory ends = front_written begun old all rest first now then room met going replies.1
  by Usage ends = absurd ends
  by Config ends = absurd ends
  by ReadFault ends = absurd ends
  by WriteFault ends = absurd ends
  by FolderFault ends = absurd ends
  by Limit ends = absurd ends
reply_by begun old new status g (Some r) all rest later source first now then room next met after is going gives meets spends replies =
    by status (replies (session_after begun going.requests) going.stands)
  where
    xs : List Request
    xs = going.requests

    front : AppendsFront now then (text_of_lines (answer_to r (session_after begun xs)).lines) → WritesFront (output_in begun (script_of (stream_of all))) first then
    front written =
        let script = script_next all rest room next met after g r later xs going.asked (sym is) gives meets spends in
        let more = script_within (suc (going.asked.fuel - 1)) (stream_from next gives.rest) in
        let text = whole_text begun all (xs ++ r ∷ []) more script in
        let last = text_of_lines (output_in (session_after begun (xs ++ r ∷ [])) more).lines in
        subst (λ (t : Text). AppendsFront first then t)
        (sym (text ∙ ap (λ t. t ++ last) (lines_of-more begun xs r) ∙ append_assoc (text_of_lines (lines_of begun xs)) (text_of_lines (answer_to r (session_after begun xs)).lines) last))
        (front_more first now then _ _ _ going.written written)

    by : (s : Status) → Replies (Err s) (answer_to r (session_after begun xs)) new now then → Serves s begun all source first then
    by WriteFault replied = front replied
    by Memory replied = front replied
    by Done replied = absurd replied
    by Usage replied = absurd replied
    by Config replied = absurd replied
    by ReadFault replied = absurd replied
    by FolderFault replied = absurd replied
    by Limit replied = absurd replied

pub reply_serves : (begun : Session) (old new : code.Session) (status : Status) (g : gots.Got) (told left later source first now then : Option Text) (room next : ℕ) (met after : Bool) → GoesIfTold begun old told left first now room met
    → IfSome left (λ bytes. Answers reading_of next_reading (Ok g) bytes room later next) → IfSome left (λ bytes. Meets reading_of next_reading (Ok g) bytes later met after) → Spends g room next
    → RepliesTo (Err status) old new (request_seen g) now then → IfSome told (λ bytes. Serves status begun bytes source first then)
reply_serves begun old new status g None left later source first now then room next met after goes answers meets spends replies = tt
reply_serves begun old new status g (Some all) None later source first now then room next met after goes answers meets spends replies = absurd goes
reply_serves begun old new status g (Some all) (Some rest) later source first now then room next met after goes answers meets spends replies =
    reply_by begun old new status g (request_seen g) all rest later source first now then room next met after refl goes answers meets spends replies

-- a read failed
stops : (begun : Session) (held : code.Session) (all rest : Text) (later source first now then : Option Text) (room : ℕ) (met : Bool) → Going begun held all rest first now room met → StopsIn reading_of next_reading rest later → met ≡ false → later ≡ source → then ≡ now → StopsAfter begun all source first then
stops begun held all rest later source first now then room met going stop unmet left same =
    let fed = going.asked.fed unmet in
    record {
      taken = fed.front ++ stop.front;
      rest = stop.rest;
      split = fed.split ∙ ap (λ r. fed.front ++ r) stop.split ∙ sym (append_assoc fed.front stop.front stop.rest);
      left = sym left ∙ stop.told;
      written = subst (λ (rs : List Request). Appends first then (text_of_lines (lines_of begun rs))) (sym (script_stops all rest room met going.requests going.asked unmet later stop)) (rw same going.written);
    }

-- the bytes that may be read are over
past_text : (begun : Session) (held : code.Session) (all rest : Text) (first now : Option Text) (room : ℕ) (met : Bool) (going : Going begun held all rest first now room met) → next_reading (stream_from room rest) ≡ over
    → text_of_lines (output_in begun (script_of (stream_of all))).lines ≡ text_of_lines (lines_of begun going.requests) ++ (codes "limit: stream" ++ codes "\n")
past_text begun held all rest first now room met going is =
    whole_text begun all going.requests (no_requests true) (script_over all rest room met going.requests going.asked is)
    ∙ ap (λ t. text_of_lines (lines_of begun going.requests) ++ t) (text_of_one (codes "limit: stream"))

pub cut_serves : (begun : Session) (held : code.Session) (status : Status) (fault : LinesFault) (told left later source first now then : Option Text) (room next : ℕ) (met after : Bool)
    → GoesIfTold begun held told left first now room met → IfSome left (λ bytes. Answers reading_of next_reading (Err fault) bytes room later next) → IfSome left (λ bytes. Meets reading_of next_reading (Err fault) bytes later met after)
    → (fault ≡ lines.ReadFault → later ≡ source) → CutsShort status fault now then → IfSome told (λ bytes. Serves status begun bytes source first then)
cut_serves begun held status fault None left later source first now then room next met after goes answers meets drained cuts = tt
cut_serves begun held status fault (Some all) None later source first now then room next met after goes answers meets drained cuts = absurd goes
cut_serves begun held ReadFault fault (Some all) (Some rest) later source first now then room next met after goes answers meets drained cuts =
    stops begun held all rest later source first now then room met goes
    (subst (λ (f : LinesFault). Answers reading_of next_reading (Err f) rest room later next) cuts.0 answers)
    (subst (λ (f : LinesFault). Meets reading_of next_reading (Err f) rest later met after) cuts.0 meets) (drained cuts.0) cuts.1
cut_serves begun held Memory fault (Some all) (Some rest) later source first now then room next met after goes answers meets drained cuts = front_written begun held all rest first now then room met goes cuts.1
cut_serves begun held Limit fault (Some all) (Some rest) later source first now then room next met after goes answers meets drained cuts =
    let over = subst (λ (f : LinesFault). Answers reading_of next_reading (Err f) rest room later next) cuts.0 answers in (
      subst (λ (t : Text). Appends first then t) (sym (past_text begun held all rest first now room met goes over)) (whole_more first now then _ _ goes.written cuts.1),
      ap (λ s. (output_in begun s).ending) (script_over all rest room met goes.requests goes.asked over),
    )
cut_serves begun held WriteFault fault (Some all) (Some rest) later source first now then room next met after goes answers meets drained cuts =
    let over = subst (λ (f : LinesFault). Answers reading_of next_reading (Err f) rest room later next) cuts.0 answers in
    subst (λ (t : Text). AppendsFront first then t)
    (sym (past_text begun held all rest first now room met goes over ∙ ap (λ t. text_of_lines (lines_of begun goes.requests) ++ t) (sym (append-nil (codes "limit: stream" ++ codes "\n")))))
    (front_more first now then _ _ [] goes.written cuts.1)
cut_serves begun held Done fault (Some all) (Some rest) later source first now then room next met after goes answers meets drained cuts = absurd cuts
cut_serves begun held Usage fault (Some all) (Some rest) later source first now then room next met after goes answers meets drained cuts = absurd cuts
cut_serves begun held Config fault (Some all) (Some rest) later source first now then room next met after goes answers meets drained cuts = absurd cuts
cut_serves begun held FolderFault fault (Some all) (Some rest) later source first now then room next met after goes answers meets drained cuts = absurd cuts
