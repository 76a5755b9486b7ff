-- What a stream asks for, request by request, whatever session answers it.
use Rattle.std.proofs.Common.{◌≡◌, ◌≤◌, ◌<◌, ◌-◌, ◌++◌, ℕ, suc, Bool, true, false, List, [], ◌∷◌, Option, Some, None, Ok, refl, sym, ap, ◌∙◌, append_assoc, append-nil, arith}
use Rattle.std.proofs.lemmas.Option.{same_Some}
use Rattle.zw_def.specs.Text.{Text}
use Rattle.zw_def_session.specs.Commands.{Stream, over, stream_of, max_stream}
use Rattle.zw_cmd.specs.Answer.{Gives, Meets, Spends, StopsIn}
use Rattle.zw_cmd.specs.Seen.{command_seen, reason_seen, reading_of}
use Rattle.zw_cmd.specs.Streams.{next_reading, stream_from, front_of_stream}
use Rattle.zw_cmd.specs.declared.command.Got as gots
use Rattle.zw_cmd.specs.declared.command.Got.TheVariants as got
use Rattle.zw_top.specs.Script.{Request, asks, wrong, Script, no_requests, behind, script_after, script_within, script_of, request_seen}
use Rattle.zw_top.specs.Stream.{EndsItself}

-- ---- one request

behind-more : (xs : List Request) (r : Request) (s : Script) → behind xs (behind (r ∷ []) s) ≡ behind (xs ++ r ∷ []) s
behind-more xs r s = ap (λ rs. record { requests = rs; is_over = s.is_over }) (sym (append_assoc xs (r ∷ []) s.requests))

-- what is read for what was got
read_request : (g : gots.Got) (r : Request) (more : Stream → Script) (s : Stream) → request_seen g ≡ Some r → script_after more (reading_of g s) ≡ behind (r ∷ []) (more s)
read_request (got.Command c) r more s is = ap (λ q. behind (q ∷ []) (more s)) (same_Some (asks (command_seen c)) r is)
read_request (got.Bad b) r more s is = ap (λ q. behind (q ∷ []) (more s)) (same_Some (wrong (reason_seen b)) r is)
read_request got.End r more s is = absurd (cc)

read_end : (g : gots.Got) (more : Stream → Script) (s : Stream) → request_seen g ≡ None → script_after more (reading_of g s) ≡ no_requests false
read_end (got.Command c) more s is = absurd (cc)
read_end (got.Bad b) more s is = absurd (cc)
read_end got.End more s is = refl

spends_request : (g : gots.Got) (r : Request) (room left : ℕ) → request_seen g ≡ Some r → Spends g room left → left < room
spends_request (got.Command c) r room left is spends = spends
spends_request (got.Bad b) r room left is spends = spends
spends_request got.End r room left is spends = absurd (cc)

-- ---- the requests so far

-- a front of the stream is that of these requests, whatever follows
pub record Fed (all rest : Text) (requests : List Request) (fuel : ℕ) : Type 0 where
  pub front : Text
  pub split : all ≡ front ++ rest
  pub script : (more : Text) → script_of (front_of_stream (front ++ more)) ≡ behind requests (script_within (suc fuel) (front_of_stream more))

-- some requests were got, and what is left asks for the rest; until the end of input is met, the bytes before it are theirs
pub record Asked (all rest : Text) (room : ℕ) (met : Bool) (requests : List Request) : Type 0 where
  pub fuel : ℕ
  pub enough : room ≤ fuel
  pub script : script_of (stream_of all) ≡ behind requests (script_within (suc fuel) (stream_from room rest))
  pub fed : met ≡ false → Fed all rest requests fuel

abbrev pub AskedIfTold : Option Text → Option Text → ℕ → Bool → Type 0
AskedIfTold None left room met = Unit {0}
AskedIfTold (Some all) None room met = ⊥
AskedIfTold (Some all) (Some rest) room met = (requests : List Request) × Asked all rest room met requests

pub asks_first : (all : Text) (met : Bool) → Asked all all 1073741824 met []
unfolding script_of
asks_first all met = record {
  fuel = max_stream;
  enough = omega arith;
  script = refl;
  fed = λ unmet. record { front = []; split = refl; script = λ more. refl };
}

one_less : (fuel room left : ℕ) → left < room → room ≤ fuel → fuel ≡ suc (fuel - 1)
one_less fuel room left less enough = omega (arith, less, enough)

-- one request more
module _ (all rest : Text) (room next : ℕ) (met after : Bool) (g : gots.Got) (r : Request) (later : Option Text) (xs : List Request) (asked : Asked all rest room met xs) (is : request_seen g ≡ Some r)
    (gives : Gives reading_of next_reading g rest room later next) (meets : Meets reading_of next_reading (Ok g) rest later met after) (spends : Spends g room next) where
  fewer : asked.fuel ≡ suc (asked.fuel - 1)
  fewer = one_less asked.fuel room next (spends_request g r room next is spends) asked.enough

  -- the same where what is left is read as the request, and then as that stream
  reads_on : (s t : Stream) → next_reading s ≡ reading_of g t → behind xs (script_within (suc asked.fuel) s) ≡ behind (xs ++ r ∷ []) (script_within (suc (asked.fuel - 1)) t)
  reads_on s t reads =
      ap (behind xs) (ap (script_after (script_within asked.fuel)) reads ∙ read_request g r (script_within asked.fuel) t is)
      ∙ behind-more xs r (script_within asked.fuel t)
      ∙ ap (λ n. behind (xs ++ r ∷ []) (script_within n t)) fewer

  fed_on : (rest' : Text) → later ≡ Some rest' → after ≡ false → Fed all rest' (xs ++ r ∷ []) (asked.fuel - 1)
  fed_on rest' told unmet =
      let before = asked.fed (meets unmet).0 in
      let stands = (meets unmet).1 in
      let same : stands.rest ≡ rest' = same_Some stands.rest rest' (sym stands.told ∙ told) in
      record {
        front = before.front ++ stands.front;
        split =
            before.split ∙ ap (λ t. before.front ++ t) (stands.split ∙ ap (λ t. stands.front ++ t) same)
            ∙ sym (append_assoc before.front stands.front rest');
        script = λ more.
            ap (λ t. script_of (front_of_stream t)) (append_assoc before.front stands.front more)
            ∙ before.script (stands.front ++ more)
            ∙ reads_on (front_of_stream (stands.front ++ more)) (front_of_stream more) (stands.whole more);
      }

  pub asks_next : Asked all gives.rest next after (xs ++ r ∷ [])
  asks_next = record {
    fuel = asked.fuel - 1;
    enough = omega (arith, spends_request g r room next is spends, asked.enough);
    script = asked.script ∙ reads_on (stream_from room rest) (stream_from next gives.rest) gives.reading;
    fed = fed_on gives.rest gives.told;
  }

  -- what the whole stream asks for, by this request
  pub script_next : script_of (stream_of all) ≡ behind (xs ++ r ∷ []) (script_within (suc (asked.fuel - 1)) (stream_from next gives.rest))
  script_next = asked.script ∙ reads_on (stream_from room rest) (stream_from next gives.rest) gives.reading

-- ---- the ends

module _ (all rest : Text) (room : ℕ) (met : Bool) (xs : List Request) (asked : Asked all rest room met xs) where
  -- no more is asked for
  pub script_ends : (g : gots.Got) (next : ℕ) (later : Option Text) → request_seen g ≡ None → Gives reading_of next_reading g rest room later next → script_of (stream_of all) ≡ behind xs (no_requests false)
  script_ends g next later is gives =
      asked.script ∙ ap (behind xs) (ap (script_after (script_within asked.fuel)) gives.reading ∙ read_end g (script_within asked.fuel) (stream_from next gives.rest) is)

  -- the bytes that may be read are over
  pub script_over : next_reading (stream_from room rest) ≡ over → script_of (stream_of all) ≡ behind xs (no_requests true)
  script_over is = asked.script ∙ ap (λ r. behind xs (script_after (script_within asked.fuel) r)) is

  -- the end stands whole in the bytes that were taken
  pub ends_itself : (g : gots.Got) (after : Bool) (later : Option Text) → request_seen g ≡ None → Meets reading_of next_reading (Ok g) rest later met after → after ≡ false → EndsItself all
  ends_itself g after later is meets unmet =
      let before = asked.fed (meets unmet).0 in
      let stands = (meets unmet).1 in
      record {
        front = before.front ++ stands.front;
        rest = stands.rest;
        split = before.split ∙ ap (λ t. before.front ++ t) stands.split ∙ sym (append_assoc before.front stands.front stands.rest);
        ends = λ more.
            ap (λ t. (script_of (front_of_stream t)).is_over) (append_assoc before.front stands.front more)
            ∙ ap (λ s. s.is_over) (before.script (stands.front ++ more))
            ∙ ap (λ r. (script_after (script_within asked.fuel) r).is_over) (stands.whole more)
            ∙ ap (λ s. s.is_over) (read_end g (script_within asked.fuel) (front_of_stream more) is);
      }

  -- a read failed: the bytes that were taken ask for what was got, and no more
  pub script_stops : (unmet : met ≡ false) (later : Option Text) (stops : StopsIn reading_of next_reading rest later) → (script_of (front_of_stream ((asked.fed unmet).front ++ stops.front))).requests ≡ xs
  script_stops unmet later stops =
      ap (λ s. s.requests) ((asked.fed unmet).script stops.front
      ∙ ap (λ r. behind xs (script_after (script_within asked.fuel) r)) stops.part)
      ∙ append-nil xs
