-- What is answered, from the lines that are taken to the next command.
use Rattle.std.proofs.Common.{◌≡◌, ◌<◌, ◌≤◌, ◌+◌, ◌++◌, cond, ℕ, Bool, true, false, List, [], ◌∷◌, Option, Some, None, Result, Ok, Err, IfSome, length, take, refl, sym, ap, ◌∙◌, append_assoc, arith}
use Rattle.std.proofs.lemmas.Bool.Decides.{nat_tests}
use Rattle.std.proofs.lemmas.List.{take_all}
use Rattle.std.proofs.lemmas.Option.{same_Some}
use Rattle.zw_def.specs.Text.{Text}
use Rattle.zw_def.specs.Line.{line_of, after_line, line_size, lines_of, HasLineFeed}
use Rattle.zw_def.proofs.LineLemmas.{line_split, line_of-within}
use Rattle.zw_def_session.specs.Commands as defined
use Rattle.zw_def_session.specs.Commands.{Stream, Reading, reads, refuses, skips, ends_here, over, Taken, taken, too_many, next_lines, next_command, read_line, command_on, is_comment, is_long_line, put_of, runs_of}
use Rattle.zw_io.specs.LineAnswers as line
use Rattle.zw_io.specs.LineAnswers.{TakesLine}
use Rattle.zw_io.specs.NextLines.{first_lines, after_lines, with_feeds, AnswersLines, MeetsLines}
use Rattle.zw_io.specs.declared.lines.LineEnd.TheVariants as line_end
use Rattle.zw_io.specs.declared.lines.LinesFault.{LinesFault}
use Rattle.zw_io.specs.declared.lines.LinesFault.TheVariants.{ReadFault, TooMuch, Memory}
use Rattle.zw_cmd.specs.Seen.{reading_of}
use Rattle.zw_cmd.specs.Streams.{stream_from, front_of_stream, after_skip, reading_within, next_reading}
use Rattle.zw_cmd.specs.Request.{line_read, short_read, long_read}
use Rattle.zw_cmd.specs.Answer.{step_of, Answers, Meets, Spends, SpendsStep}
use Rattle.zw_cmd.specs.declared.command.Got as gots
use Rattle.zw_cmd.specs.declared.command.Got.TheVariants as got
use Rattle.zw_cmd.proofs.SkipLemmas.{skip_step}
use Rattle.zw_cmd.proofs.StreamLemmas.{line_taken, line_end, line_over, line_part, line_whole, lines_taken, lines_over, lines_part, lines_whole, lines_split, lines_feeds}

-- ---- nothing more is taken

pub answers_still : {T : Type 0} (seen : T → Stream → Reading) (read : Stream → Reading) (x : T) (told : Option Text) (room : ℕ) → ((s : Stream) → read s ≡ seen x s) → IfSome told (λ bytes. Answers seen read (Ok x) bytes room told room)
answers_still seen read x None room same = tt
answers_still seen read x (Some bytes) room same = record { rest = bytes; told = refl; reading = same (stream_from room bytes) }

pub meets_still : {T : Type 0} (seen : T → Stream → Reading) (read : Stream → Reading) (x : T) (told : Option Text) (met : Bool) → ((s : Stream) → read s ≡ seen x s) → IfSome told (λ bytes. Meets seen read (Ok x) bytes told met met)
meets_still seen read x None met same = tt
meets_still seen read x (Some bytes) met same = λ other. (other, record { front = []; rest = bytes; split = refl; told = refl; whole = λ more. same (front_of_stream more) })

-- ---- lines that are taken, where `from` says what is read of them

module _ (from : Taken → Reading) (cut : from too_many ≡ over) (n : ℕ) (read : Stream → Reading) (is_read : (s : Stream) → read s ≡ from (next_lines n s)) where
  -- what was got is what is read of each k lines whose text was appended
  abbrev pub ReadsTaken : ℕ → Option gots.Got → Text → Type 0
  ReadsTaken k x into = (ls : List Text) (s : Stream) → length ls ≡ k → into ≡ with_feeds ls → lines_of into ≡ ls → step_of x s ≡ from (taken ls s)

  pub answers_taken : (k : ℕ) (x : Option gots.Got) (told later : Option Text) (had into : Text) (room left : ℕ) → had ≡ [] → IfSome told (λ bytes. AnswersLines n (Ok k) bytes room had into later left)
      → ReadsTaken k x into → IfSome told (λ bytes. Answers step_of read (Ok x) bytes room later left)
  answers_taken k x None later had into room left none takes same = tt
  answers_taken k x (Some bytes) later had into room left none takes same =
      let kept : into ≡ with_feeds (first_lines n bytes) = takes.kept ∙ ap (λ t. t ++ with_feeds (first_lines n bytes)) none in
      record {
        rest = after_lines n bytes;
        told = takes.rest;
        reading = is_read (stream_from room bytes) ∙ ap from (lines_taken n bytes room left takes.spent) ∙ sym (same (first_lines n bytes) (stream_from left (after_lines n bytes)) (sym takes.count) kept (ap lines_of kept ∙ lines_feeds n bytes));
      }

  pub answers_not : (r : Result (Option gots.Got) LinesFault) (e : LinesFault) (told later : Option Text) (had into : Text) (room left : ℕ) → r ≡ Err e → IfSome told (λ bytes. AnswersLines n (Err e) bytes room had into later left) → IfSome told (λ bytes. Answers step_of read r bytes room later left)
  answers_not r e None later had into room left is takes = tt
  answers_not r Memory (Some bytes) later had into room left is takes = rw is tt
  answers_not r TooMuch (Some bytes) later had into room left is takes = rw is (is_read (stream_from room bytes) ∙ ap from (lines_over n bytes room takes) ∙ cut)
  answers_not r ReadFault (Some bytes) later had into room left is takes =
      rw is (record {
        front = takes.front;
        rest = takes.rest;
        split = takes.split;
        told = takes.told;
        part = is_read (front_of_stream takes.front) ∙ ap from (lines_part n takes.front takes.few) ∙ cut;
      })

  pub meets_taken : (k : ℕ) (x : Option gots.Got) (told later : Option Text) (had into : Text) (room left : ℕ) (before after : Bool) → had ≡ [] → IfSome told (λ bytes. AnswersLines n (Ok k) bytes room had into later left)
      → IfSome told (λ bytes. MeetsLines n (Ok k) bytes before after) → ReadsTaken k x into → IfSome told (λ bytes. Meets step_of read (Ok x) bytes later before after)
  meets_taken k x None later had into room left before after none takes meets same = tt
  meets_taken k x (Some bytes) later had into room left before after none takes meets same = λ other.
      let whole = meets other in
      let kept : into ≡ with_feeds (first_lines n bytes) = takes.kept ∙ ap (λ t. t ++ with_feeds (first_lines n bytes)) none in (
        whole.0,
        record {
          front = with_feeds (first_lines n bytes);
          rest = after_lines n bytes;
          split = lines_split n bytes whole.1;
          told = takes.rest;
          whole = λ more.
              is_read (front_of_stream (with_feeds (first_lines n bytes) ++ more)) ∙ ap from (lines_whole n bytes more whole.1)
              ∙ sym (same (first_lines n bytes) (front_of_stream more) (sym takes.count) kept (ap lines_of kept ∙ lines_feeds n bytes));
        },
      )

-- ---- one line of the stream

-- the line's command, where the stream behind it is this, is what `read` says
abbrev pub ReadsLine : Text → (Stream → Reading) → Type 0
ReadsLine l read = (s : Stream) → command_on l s ≡ read s

pub reads_short : (l into : Text) (read : Stream → Reading) → into ≡ take 1048577 l → length l ≤ 1048576 → ((s : Stream) → read s ≡ short_read into s) → ReadsLine l read
reads_short l into read kept short same = λ s.
    let all : into ≡ l = kept ∙ take_all 1048577 l (omega (arith, short)) in
    let fits : is_long_line l ≡ false = grind (arith, nat_tests) in
    ap (λ b. cond (is_comment l) (skips s) (cond b (refuses defined.line_too_long s) (line_read l s))) fits ∙ ap (λ t. short_read t s) (sym all) ∙ sym (same s)

comment_front : (l : Text) → is_comment (take 1048577 l) ≡ is_comment l
comment_front [] = refl
comment_front (b ∷ bs) = refl

pub reads_long : (l into : Text) (read : Stream → Reading) → into ≡ take 1048577 l → 1048576 < length l → ((s : Stream) → read s ≡ long_read into s) → ReadsLine l read
reads_long l into read kept long same = λ s.
    let past : is_long_line l ≡ true = grind (arith, nat_tests) in
    ap (λ b. cond (is_comment l) (skips s) (cond b (refuses defined.line_too_long s) (line_read l s))) past
    ∙ ap (λ b. cond b (skips s) (refuses defined.line_too_long s)) (sym (comment_front l)) ∙ ap (λ t. long_read t s) (sym kept) ∙ sym (same s)

-- the command of the first line, where `read` says what its line asks for
command_taken : (bytes : Text) (room mid : ℕ) (read : Stream → Reading) → 0 < line_size bytes → mid + line_size bytes ≡ room → ReadsLine (line_of bytes) read → next_command (stream_from room bytes) ≡ read (stream_from mid (after_line bytes))
command_taken bytes room mid read some spent same = ap read_line (line_taken bytes room mid some spent) ∙ same (stream_from mid (after_line bytes))

command_whole : (bytes more : Text) (read : Stream → Reading) → ReadsLine (line_of bytes) read → next_command (front_of_stream ((line_of bytes ++ 10 ∷ []) ++ more)) ≡ read (front_of_stream more)
command_whole bytes more read same =
    ap (λ t. next_command (front_of_stream t)) (append_assoc (line_of bytes) (10 ∷ []) more) ∙ ap read_line (line_whole (line_of bytes) more (line_of-within bytes)) ∙ same (front_of_stream more)

split_line : (bytes front rest : Text) → HasLineFeed bytes → after_line bytes ≡ front ++ rest → bytes ≡ ((line_of bytes ++ 10 ∷ []) ++ front) ++ rest
split_line bytes front rest feed is =
    line_split bytes feed ∙ ap (λ t. line_of bytes ++ 10 ∷ t) is
    ∙ sym (append_assoc (line_of bytes) (10 ∷ []) (front ++ rest)) ∙ sym (append_assoc (line_of bytes ++ 10 ∷ []) front rest)

-- ---- behind the line

module _ (read : Stream → Reading) where
  -- what is told of the line, and of what is read behind it
  pub answers_line : {T : Type 0} (seen : T → Stream → Reading) (r : Result T LinesFault) (told mid later : Option Text) (into : Text) (room between left : ℕ) (before middle after : Bool)
      → IfSome told (λ bytes. TakesLine bytes room into mid between × ReadsLine (line_of bytes) read) → IfSome told (λ bytes. middle ≡ false → (before ≡ false) × HasLineFeed bytes)
      → IfSome mid (λ bytes. Answers seen read r bytes between later left) → IfSome mid (λ bytes. Meets seen read r bytes later middle after) → IfSome told (λ bytes. Answers seen next_command r bytes room later left)
  answers_line seen r None mid later into room between left before middle after takes met answers meets = tt
  answers_line seen r (Some bytes) None later into room between left before middle after takes met answers meets = absurd (let e : None ≡ Some (after_line bytes) = takes.0.rest in cc)
  answers_line seen (Err Memory) (Some bytes) (Some mid) later into room between left before middle after takes met answers meets = tt
  answers_line seen (Err TooMuch) (Some bytes) (Some mid) later into room between left before middle after takes met answers meets =
      command_taken bytes room between read takes.0.some takes.0.spent takes.1 ∙ ap (λ t. read (stream_from between t)) (sym (same_Some _ _ takes.0.rest)) ∙ answers
  answers_line seen (Ok x) (Some bytes) (Some mid) later into room between left before middle after takes met answers meets = record {
    rest = answers.rest;
    told = answers.told;
    reading = command_taken bytes room between read takes.0.some takes.0.spent takes.1 ∙ ap (λ t. read (stream_from between t)) (sym (same_Some _ _ takes.0.rest)) ∙ answers.reading;
  }
  answers_line seen (Err ReadFault) (Some bytes) (Some mid) later into room between left before middle after takes met answers meets =
      let feed = met meets in
      record {
        front = (line_of bytes ++ 10 ∷ []) ++ answers.front;
        rest = answers.rest;
        split = split_line bytes answers.front answers.rest feed.1 (sym (same_Some _ _ takes.0.rest) ∙ answers.split);
        told = answers.told;
        part = command_whole bytes answers.front read takes.1 ∙ answers.part;
      }

  pub meets_line : {T : Type 0} (seen : T → Stream → Reading) (r : Result T LinesFault) (told mid later : Option Text) (into : Text) (room between : ℕ) (before middle after : Bool)
      → IfSome told (λ bytes. TakesLine bytes room into mid between × ReadsLine (line_of bytes) read) → IfSome told (λ bytes. middle ≡ false → (before ≡ false) × HasLineFeed bytes)
      → IfSome mid (λ bytes. Meets seen read r bytes later middle after) → IfSome told (λ bytes. Meets seen next_command r bytes later before after)
  meets_line seen r None mid later into room between before middle after takes met meets = tt
  meets_line seen r (Some bytes) None later into room between before middle after takes met meets = absurd (let e : None ≡ Some (after_line bytes) = takes.0.rest in cc)
  meets_line seen (Err Memory) (Some bytes) (Some mid) later into room between before middle after takes met meets = tt
  meets_line seen (Err TooMuch) (Some bytes) (Some mid) later into room between before middle after takes met meets = tt
  meets_line seen (Err ReadFault) (Some bytes) (Some mid) later into room between before middle after takes met meets = (met meets).0
  meets_line seen (Ok x) (Some bytes) (Some mid) later into room between before middle after takes met meets = λ other.
      let behind = meets other in
      let feed = met behind.0 in (
        feed.0,
        record {
          front = (line_of bytes ++ 10 ∷ []) ++ behind.1.front;
          rest = behind.1.rest;
          split = split_line bytes behind.1.front behind.1.rest feed.1 (sym (same_Some _ _ takes.0.rest) ∙ behind.1.split);
          told = behind.1.told;
          whole = λ more.
              ap (λ t. next_command (front_of_stream t)) (append_assoc (line_of bytes ++ 10 ∷ []) behind.1.front more)
              ∙ command_whole bytes (behind.1.front ++ more) read takes.1 ∙ behind.1.whole more;
        },
      )

-- ---- where the first line could not be taken, and at the end of input

pub answers_no_line : {T : Type 0} (seen : T → Stream → Reading) (r : Result T LinesFault) (e : LinesFault) (told later : Option Text) (into : Text) (room left : ℕ) → r ≡ Err e → IfSome told (λ bytes. line.Answers (Err e) bytes room into later left) → IfSome told (λ bytes. Answers seen next_command r bytes room later left)
answers_no_line seen r e None later into room left is answers = tt
answers_no_line seen r Memory (Some bytes) later into room left is answers = rw is tt
answers_no_line seen r TooMuch (Some bytes) later into room left is answers = rw is (ap read_line (line_over bytes room answers))
answers_no_line seen r ReadFault (Some bytes) later into room left is answers =
    rw is (record { front = answers.front; rest = answers.rest; split = answers.split; told = answers.told; part = ap read_line (line_part answers.front answers.within) })

pub meets_no_line : {T : Type 0} (seen : T → Stream → Reading) (r : Result T LinesFault) (e : LinesFault) (told later : Option Text) (before after : Bool) → r ≡ Err e → IfSome told (λ bytes. line.MeetsEnd (Err e) bytes before after) → IfSome told (λ bytes. Meets seen next_command r bytes later before after)
meets_no_line seen r e None later before after is meets = tt
meets_no_line seen r Memory (Some bytes) later before after is meets = rw is tt
meets_no_line seen r TooMuch (Some bytes) later before after is meets = rw is tt
meets_no_line seen r ReadFault (Some bytes) later before after is meets = rw is meets

-- want of memory says nothing
pub answers_memory : {T : Type 0} (seen : T → Stream → Reading) (read : Stream → Reading) (r : Result T LinesFault) (told later : Option Text) (room left : ℕ) → r ≡ Err Memory → IfSome told (λ bytes. Answers seen read r bytes room later left)
answers_memory seen read r None later room left is = tt
answers_memory seen read r (Some bytes) later room left is = rw is tt

pub meets_memory : {T : Type 0} (seen : T → Stream → Reading) (read : Stream → Reading) (r : Result T LinesFault) (told later : Option Text) (before after : Bool) → r ≡ Err Memory → IfSome told (λ bytes. Meets seen read r bytes later before after)
meets_memory seen read r None later before after is = tt
meets_memory seen read r (Some bytes) later before after is = rw is tt

pub answers_end : (told later : Option Text) (into : Text) (room left : ℕ) → IfSome told (λ bytes. line.Answers (Ok line_end.End) bytes room into later left) → IfSome told (λ bytes. Answers step_of next_command (Ok (Some got.End)) bytes room later left)
answers_end None later into room left answers = tt
answers_end (Some bytes) later into room left answers = record {
  rest = [];
  told = answers.1;
  reading = ap (λ t. next_command (stream_from room t)) answers.0 ∙ ap read_line (line_end room);
}

pub meets_end : (told later : Option Text) (before after : Bool) → IfSome told (λ bytes. line.MeetsEnd (Ok line_end.End) bytes before after) → IfSome told (λ bytes. Meets step_of next_command (Ok (Some got.End)) bytes later before after)
meets_end None later before after meets = tt
meets_end (Some bytes) later before after meets = λ other. absurd (let e : true ≡ false = sym meets ∙ other in cc)

-- a line that is whole, and one that is too long
pub takes_short : (told mid : Option Text) (into : Text) (room between : ℕ) (read : Stream → Reading) → IfSome told (λ bytes. line.Answers (Ok line_end.Line) bytes room into mid between) → ((s : Stream) → read s ≡ short_read into s) → IfSome told (λ bytes. TakesLine bytes room into mid between × ReadsLine (line_of bytes) read)
takes_short None mid into room between read answers same = tt
takes_short (Some bytes) mid into room between read answers same = (answers.0, reads_short (line_of bytes) into read answers.0.kept answers.1 same)

pub takes_long : (told mid : Option Text) (into : Text) (room between : ℕ) (read : Stream → Reading) → IfSome told (λ bytes. line.Answers (Ok line_end.TooLong) bytes room into mid between) → ((s : Stream) → read s ≡ long_read into s) → IfSome told (λ bytes. TakesLine bytes room into mid between × ReadsLine (line_of bytes) read)
takes_long None mid into room between read answers same = tt
takes_long (Some bytes) mid into room between read answers same = (answers.0, reads_long (line_of bytes) into read answers.0.kept answers.1 same)

-- ---- behind lines that are skipped

-- what is read of all bytes is what is read of those that are left; until the end of input is met, whatever follows
pub record Passes (all now : Text) (start room : ℕ) (before met : Bool) : Type 0 where
  pub reading : next_reading (stream_from start all) ≡ next_reading (stream_from room now)
  pub gone : met ≡ false → (before ≡ false) × (front : Text) × (all ≡ front ++ now) × ((more : Text) → next_reading (front_of_stream (front ++ more)) ≡ next_reading (front_of_stream more))

abbrev pub PassesIfTold : Option Text → Option Text → ℕ → ℕ → Bool → Bool → Type 0
PassesIfTold None now start room before met = Unit {0}
PassesIfTold (Some all) None start room before met = ⊥
PassesIfTold (Some all) (Some now) start room before met = Passes all now start room before met

pub passes_first : (told : Option Text) (room : ℕ) (met : Bool) → PassesIfTold told told room room met met
passes_first None room met = tt
passes_first (Some all) room met = record { reading = refl; gone = λ other. (other, [], refl, λ more. refl) }

pub passes_on : (told now new : Option Text) (start room left : ℕ) (before met after : Bool) → PassesIfTold told now start room before met
    → IfSome now (λ bytes. Answers step_of next_command (Ok None) bytes room new left) → IfSome now (λ bytes. Meets step_of next_command (Ok None) bytes new met after) → PassesIfTold told new start left before after
passes_on None now new start room left before met after goes answers meets = tt
passes_on (Some all) None new start room left before met after goes answers meets = absurd goes
passes_on (Some all) (Some now) None start room left before met after goes answers meets = absurd (let e : None ≡ Some answers.rest = answers.told in cc)
passes_on (Some all) (Some now) (Some new) start room left before met after goes answers meets =
    let same : new ≡ answers.rest = same_Some _ _ answers.told in
    record {
      reading = goes.reading ∙ skip_step (stream_from room now) (stream_from left answers.rest) answers.reading ∙ ap (λ t. next_reading (stream_from left t)) (sym same);
      gone = λ other.
          let stands = meets other in
          let past = goes.gone stands.0 in (
            past.0,
            past.1 ++ stands.1.front,
            past.2 ∙ ap (λ t. past.1 ++ t) (stands.1.split ∙ ap (λ t. stands.1.front ++ t) (sym (same_Some _ _ stands.1.told))) ∙ sym (append_assoc past.1 stands.1.front new),
            λ more.
                ap (λ t. next_reading (front_of_stream t)) (append_assoc past.1 stands.1.front more) ∙ past.3 (stands.1.front ++ more)
                ∙ skip_step (front_of_stream (stands.1.front ++ more)) (front_of_stream more) (stands.1.whole more),
          );
    }

got_stays : (n : ℕ) (g : gots.Got) (s : Stream) → after_skip (reading_within n) (reading_of g s) ≡ reading_of g s
got_stays n (got.Command c) s = refl
got_stays n (got.Bad r) s = refl
got_stays n got.End s = refl

reading_here : (s : Stream) (g : gots.Got) (t : Stream) → next_command s ≡ reading_of g t → next_reading s ≡ reading_of g t
reading_here s g t is = ap (after_skip (reading_within (length s.bytes))) is ∙ got_stays (length s.bytes) g t

over_here : (s : Stream) → next_command s ≡ over → next_reading s ≡ over
over_here s is = ap (after_skip (reading_within (length s.bytes))) is

pub answers_got : (g : gots.Got) (told now new : Option Text) (start room left : ℕ) (before met : Bool) → PassesIfTold told now start room before met
    → IfSome now (λ bytes. Answers step_of next_command (Ok (Some g)) bytes room new left) → IfSome told (λ bytes. Answers reading_of next_reading (Ok g) bytes start new left)
answers_got g None now new start room left before met goes answers = tt
answers_got g (Some all) None new start room left before met goes answers = absurd goes
answers_got g (Some all) (Some now) new start room left before met goes answers = record {
  rest = answers.rest;
  told = answers.told;
  reading = goes.reading ∙ reading_here (stream_from room now) g (stream_from left answers.rest) answers.reading;
}

pub meets_got : (g : gots.Got) (told now new : Option Text) (start room : ℕ) (before met after : Bool) → PassesIfTold told now start room before met
    → IfSome now (λ bytes. Meets step_of next_command (Ok (Some g)) bytes new met after) → IfSome told (λ bytes. Meets reading_of next_reading (Ok g) bytes new before after)
meets_got g None now new start room before met after goes meets = tt
meets_got g (Some all) None new start room before met after goes meets = absurd goes
meets_got g (Some all) (Some now) new start room before met after goes meets = λ other.
    let stands = meets other in
    let past = goes.gone stands.0 in (
      past.0,
      record {
        front = past.1 ++ stands.1.front;
        rest = stands.1.rest;
        split = past.2 ∙ ap (λ t. past.1 ++ t) stands.1.split ∙ sym (append_assoc past.1 stands.1.front stands.1.rest);
        told = stands.1.told;
        whole = λ more.
            ap (λ t. next_reading (front_of_stream t)) (append_assoc past.1 stands.1.front more) ∙ past.3 (stands.1.front ++ more)
            ∙ reading_here (front_of_stream (stands.1.front ++ more)) g (front_of_stream more) (stands.1.whole more);
      },
    )

pub answers_stop : (r : Result gots.Got LinesFault) (e : LinesFault) (told now new : Option Text) (start room left : ℕ) (before met after : Bool) → r ≡ Err e → PassesIfTold told now start room before met
    → IfSome now (λ bytes. Answers step_of next_command (Err e) bytes room new left) → IfSome now (λ bytes. Meets step_of next_command (Err e) bytes new met after) → IfSome told (λ bytes. Answers reading_of next_reading r bytes start new left)
answers_stop r e None now new start room left before met after is goes answers meets = tt
answers_stop r e (Some all) None new start room left before met after is goes answers meets = absurd goes
answers_stop r Memory (Some all) (Some now) new start room left before met after is goes answers meets = rw is tt
answers_stop r TooMuch (Some all) (Some now) new start room left before met after is goes answers meets = rw is (goes.reading ∙ over_here (stream_from room now) answers)
answers_stop r ReadFault (Some all) (Some now) new start room left before met after is goes answers meets =
    let past = goes.gone meets in
    rw is (record {
      front = past.1 ++ answers.front;
      rest = answers.rest;
      split = past.2 ∙ ap (λ t. past.1 ++ t) answers.split ∙ sym (append_assoc past.1 answers.front answers.rest);
      told = answers.told;
      part = past.3 answers.front ∙ over_here (front_of_stream answers.front) answers.part;
    })

pub meets_stop : (r : Result gots.Got LinesFault) (e : LinesFault) (told now new : Option Text) (start room : ℕ) (before met after : Bool) → r ≡ Err e → PassesIfTold told now start room before met
    → IfSome now (λ bytes. Meets step_of next_command (Err e) bytes new met after) → IfSome told (λ bytes. Meets reading_of next_reading r bytes new before after)
meets_stop r e None now new start room before met after is goes meets = tt
meets_stop r e (Some all) None new start room before met after is goes meets = absurd goes
meets_stop r Memory (Some all) (Some now) new start room before met after is goes meets = rw is tt
meets_stop r TooMuch (Some all) (Some now) new start room before met after is goes meets = rw is tt
meets_stop r ReadFault (Some all) (Some now) new start room before met after is goes meets = rw is ((goes.gone meets).0)

-- ---- the room

pub spends_some : (x : Option gots.Got) (room left : ℕ) → left < room → SpendsStep x room left
spends_some None room left less = less
spends_some (Some (got.Command c)) room left less = less
spends_some (Some (got.Bad r)) room left less = less
spends_some (Some got.End) room left less = omega (arith, less)

pub spends_more : (g : gots.Got) (start room left : ℕ) → room ≤ start → Spends g room left → Spends g start left
spends_more (got.Command c) start room left within less = omega (arith, within, less)
spends_more (got.Bad r) start room left within less = omega (arith, within, less)
spends_more got.End start room left within less = omega (arith, within, less)

-- ---- `runs`

-- what is got of the lines of the bytes is what is got of the lines
pub runs_taken : (asked k : ℕ) (g : gots.Got) (bytes lent : Text) → lent ≡ bytes → ((s : Stream) → length (lines_of lent) ≡ k → reading_of g s ≡ runs_of asked (taken (lines_of lent) s))
    → (ls : List Text) (s : Stream) → length ls ≡ k → lines_of bytes ≡ ls → reading_of g s ≡ runs_of asked (taken ls s)
runs_taken asked k g bytes lent same reads_all ls s count is =
    let e : lines_of lent ≡ ls = ap lines_of same ∙ is in
    reads_all s (ap length e ∙ count) ∙ ap (λ l. runs_of asked (taken l s)) e
