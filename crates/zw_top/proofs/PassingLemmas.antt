-- How much of a stream is taken, whatever the session that answers it.
use Rattle.std.proofs.Common.{◌≡◌, ◌≤◌, ◌+◌, ◌++◌, ℕ, Bool, true, false, List, [], ◌∷◌, Option, Some, None, Ok, Err, IfSome, length, refl, sym, ap, subst, inl, inr, arith}
use Rattle.std.proofs.lemmas.Option.{same_Some}
use Rattle.zw_def.specs.Text.{Text}
use Rattle.zw_def.specs.Told.{Draws}
use Rattle.zw_cmd.specs.Answer.{Answers, Gives, Meets, Spends}
use Rattle.zw_cmd.specs.Seen.{reading_of}
use Rattle.zw_cmd.specs.Streams.{next_reading}
use Rattle.zw_cmd.specs.declared.command.Got as gots
use Rattle.zw_io.specs.declared.lines.LinesFault.{LinesFault}
use Rattle.zw_top.specs.Reply.{CutsShort, EndsFor}
use Rattle.zw_top.specs.Script.{Request, request_seen}
use Rattle.zw_top.specs.Stream.{TakesFront, IsDone, TakesStream}
use Rattle.zw_top.specs.declared.status.Status.{Status}
use Rattle.zw_top.specs.declared.status.Status.TheVariants.{Done, Usage, Config, ReadFault, WriteFault, FolderFault, Memory, Limit}
use Rattle.zw_top.proofs.ScriptLemmas.{Asked, AskedIfTold, asks_first, asks_next, ends_itself}

-- ---- the requests that were got

pub passes_start : (told left : Option Text) (room : ℕ) (met : Bool) → left ≡ told → room ≡ 1073741824 → AskedIfTold told left room met
passes_start None left room met same fits = tt
passes_start (Some all) None room met same fits = absurd (cc)
passes_start (Some all) (Some rest) room met same fits =
    ([], subst (λ (t : Text). Asked all t room met []) (sym (same_Some rest all same)) (subst (λ (n : ℕ). Asked all all n met []) (sym fits) (asks_first all met)))

passes_by : (g : gots.Got) (asked : Option Request) (all rest : Text) (later : Option Text) (room next : ℕ) (met after : Bool) → asked ≡ request_seen g → (xs : List Request) → Asked all rest room met xs
    → Gives reading_of next_reading g rest room later next → Meets reading_of next_reading (Ok g) rest later met after → Spends g room next
    → EndsFor (Ok tt) asked → AskedIfTold (Some all) later next after
passes_by g None all rest later room next met after is xs passes gives meets spends ends = absurd ends
passes_by g (Some r) all rest later room next met after is xs passes gives meets spends ends =
    subst (λ (o : Option Text). AskedIfTold (Some all) o next after) (sym gives.told)
    (xs ++ r ∷ [], asks_next all rest room next met after g r later xs passes (sym is) gives meets spends)

pub passes_on : (g : gots.Got) (told left later : Option Text) (room next : ℕ) (met after : Bool) → AskedIfTold told left room met
    → IfSome left (λ bytes. Answers reading_of next_reading (Ok g) bytes room later next) → IfSome left (λ bytes. Meets reading_of next_reading (Ok g) bytes later met after) → Spends g room next
    → EndsFor (Ok tt) (request_seen g) → AskedIfTold told later next after
passes_on g None left later room next met after passes answers meets spends ends = tt
passes_on g (Some all) None later room next met after passes answers meets spends ends = absurd passes
passes_on g (Some all) (Some rest) later room next met after passes answers meets spends ends =
    passes_by g (request_seen g) all rest later room next met after refl passes.0 passes.1 answers meets spends ends

-- ---- the end of the requests

-- the end of input was met, and then the source has none left; or the requests end by themselves
done_by : (g : gots.Got) (all rest : Text) (later source : Option Text) (room : ℕ) (met after : Bool) (a : Bool) → a ≡ after → (xs : List Request) → Asked all rest room met xs → request_seen g ≡ None
    → Meets reading_of next_reading (Ok g) rest later met after → (after ≡ true → source ≡ Some []) → IsDone all source
done_by g all rest later source room met after true same xs passes is meets ended = inl (ended (sym same))
done_by g all rest later source room met after false same xs passes is meets ended = inr (ends_itself all rest room met xs passes g after later is meets (sym same))

pub passes_end : (g : gots.Got) (told left later source : Option Text) (room : ℕ) (met after : Bool) → AskedIfTold told left room met → request_seen g ≡ None
    → IfSome left (λ bytes. Meets reading_of next_reading (Ok g) bytes later met after) → (after ≡ true → IfSome told (λ bytes. source ≡ Some []))
    → IfSome told (λ bytes. IsDone bytes source)
passes_end g None left later source room met after passes is meets ended = tt
passes_end g (Some all) None later source room met after passes is meets ended = absurd passes
passes_end g (Some all) (Some rest) later source room met after passes is meets ended =
    done_by g all rest later source room met after after refl passes.0 passes.1 is meets ended

-- a session that is done is so at the end of the requests
pub ends_done : (status : Status) (asked : Option Request) → status ≡ Done → EndsFor (Err status) asked → asked ≡ None
ends_done status None done ends = refl
ends_done status (Some r) done ends = absurd (subst (λ (s : Status). EndsFor (Err s) (Some r)) done ends)

-- ---- what was taken

takes_front : (bytes : Text) (later : Option Text) (kept room : ℕ) → Draws bytes 0 1073741824 later kept room → kept ≤ room + 1 → TakesFront bytes later
takes_front bytes later kept room draws within =
    record { taken = draws.taken; rest = draws.rest; split = draws.split; few = omega (arith, draws.given, within); told = draws.told }

-- no other status than Done says more
takes_status : (status : Status) (told later : Option Text) (kept room : ℕ)
    → IfSome told (λ bytes. Draws bytes 0 1073741824 later kept room) → kept ≤ room + 1
    → (status ≡ Done → IfSome told (λ bytes. IsDone bytes later))
    → IfSome told (λ bytes. TakesStream status bytes later)
takes_status status None later kept room draws within ends = tt
takes_status Done (Some bytes) later kept room draws within ends = (takes_front bytes later kept room draws within, ends refl)
takes_status Usage (Some bytes) later kept room draws within ends = takes_front bytes later kept room draws within
takes_status Config (Some bytes) later kept room draws within ends = takes_front bytes later kept room draws within
takes_status ReadFault (Some bytes) later kept room draws within ends = takes_front bytes later kept room draws within
takes_status WriteFault (Some bytes) later kept room draws within ends = takes_front bytes later kept room draws within
takes_status FolderFault (Some bytes) later kept room draws within ends = takes_front bytes later kept room draws within
takes_status Memory (Some bytes) later kept room draws within ends = takes_front bytes later kept room draws within
takes_status Limit (Some bytes) later kept room draws within ends = takes_front bytes later kept room draws within

-- where the source tells what is left, and has none
pub none_left : (told later : Option Text) (kept room : ℕ) → IfSome told (λ bytes. Draws bytes 0 1073741824 later kept room)
    → IfSome later (λ rest. rest ≡ []) → IfSome told (λ bytes. later ≡ Some [])
none_left None later kept room draws empty = tt
none_left (Some bytes) None kept room draws empty = absurd (let e = draws.told in cc)
none_left (Some bytes) (Some rest) kept room draws empty = ap Some empty

-- a stream that is cut short is not done
pub not_cut : (status : Status) (fault : LinesFault) (told first now later : Option Text) → CutsShort status fault first now → status ≡ Done → IfSome told (λ bytes. IsDone bytes later)
not_cut Done fault told first now later cuts done = absurd cuts
not_cut Usage fault told first now later cuts done = absurd (cc)
not_cut Config fault told first now later cuts done = absurd (cc)
not_cut ReadFault fault told first now later cuts done = absurd (cc)
not_cut WriteFault fault told first now later cuts done = absurd (cc)
not_cut FolderFault fault told first now later cuts done = absurd (cc)
not_cut Memory fault told first now later cuts done = absurd (cc)
not_cut Limit fault told first now later cuts done = absurd (cc)

pub draws_start : (told later : Option Text) (held : Text) (room : ℕ) → later ≡ told → held ≡ [] → room ≡ 1073741824
    → IfSome told (λ bytes. Draws bytes 0 1073741824 later (length held) room)
draws_start None later held room same none fits = tt
draws_start (Some bytes) later held room same none fits =
    record { taken = []; rest = bytes; split = refl; told = same; given = omega (arith, ap length none, fits) }

-- where the source is the one that the lines leave
pub takes_by : {S : Type 0} (left : S → Option Text) (final source : S) (status : Status) (told : Option Text) (kept room : ℕ) → final ≡ source
    → IfSome told (λ bytes. Draws bytes 0 1073741824 (left source) kept room) → kept ≤ room + 1
    → (status ≡ Done → IfSome told (λ bytes. IsDone bytes (left source)))
    → IfSome told (λ bytes. TakesStream status bytes (left final))
takes_by left final source status told kept room same draws within ends =
    subst (λ (s : _). IfSome told (λ bytes. TakesStream status bytes (left s))) (sym same) (takes_status status told (left source) kept room draws within ends)
