-- The lines of some bytes, of which so many may be read, are the lines of the stream that they stand for.
use Rattle.std.proofs.Common.{◌≡◌, ◌<◌, ◌≤◌, ◌+◌, ◌-◌, ◌++◌, ◌==◌, ◌||◌, ◌⊎◌, inl, inr, cond, ℕ, zero, suc, Bool, true, false, [], ◌∷◌, length, take, nat_lt, refl, sym, ap, ◌∙◌, append-nil, append_assoc, arith}
use Rattle.std.specs.List.{list_any}
use Rattle.std.proofs.lemmas.Bool.{cases_lt}
use Rattle.std.proofs.lemmas.Bool.Decides.{nat_tests}
use Rattle.std.proofs.lemmas.List.{take_all}
use Rattle.zw_def.specs.Text.{Text}
use Rattle.zw_def.specs.Line.{line_of, after_line, line_size, lines_of, whole_lines, IsWithinLine, HasLineFeed}
use Rattle.zw_def.proofs.LineLemmas.{after_line-front, line_size-front, line_of-line, after_line-line, line_size-line, lines_of-line, line_size-ended, line_of-within, line_split, within-first, within-next, over_step, length_line, line_size-some}
use Rattle.zw_def_session.specs.Commands.{Stream, line, no_line, too_much, next_line, whole_line, last_line, is_line_end, taken, too_many, next_lines, lines_after, line_before}
use Rattle.zw_io.specs.NextLines.{first_lines, after_lines, lines_size, with_feeds}
use Rattle.zw_io.proofs.NextLinesLemmas.{whole_first, whole_some, first_more, after_none, size_none}
use Rattle.zw_cmd.specs.Streams.{stream_from, front_of_stream}

-- ---- whether there is an LF

feed_by : (b : ℕ) (bs : Text) (t : Bool) → t ≡ (b == 10) → HasLineFeed bs ⊎ IsWithinLine bs → (length (cond t [] (b ∷ line_of bs)) < cond t 1 (line_size bs + 1)) ⊎ (cond t [] (b ∷ line_of bs) ≡ b ∷ bs)
feed_by b bs true is rest = inl (omega arith)
feed_by b bs false is (inl feed) = inl (omega (arith, feed))
feed_by b bs false is (inr within) = inr (ap (λ t. b ∷ t) within)

pub feed_or : (bytes : Text) → HasLineFeed bytes ⊎ IsWithinLine bytes
feed_or [] = inr refl
feed_or (b ∷ bs) = feed_by b bs (b == 10) refl (feed_or bs)

any_by : (b : ℕ) (bs : Text) (t : Bool) → length (cond t [] (b ∷ line_of bs)) < cond t 1 (line_size bs + 1) → (HasLineFeed bs → list_any is_line_end bs ≡ true) → (t || list_any is_line_end bs) ≡ true
any_by b bs true feed rest = refl
any_by b bs false feed rest = rest (omega (arith, feed))

any_feed : (bytes : Text) → HasLineFeed bytes → list_any is_line_end bytes ≡ true
any_feed [] feed = absurd (omega (arith, feed))
any_feed (b ∷ bs) feed = any_by b bs (b == 10) feed (any_feed bs)

no_feed : (bytes : Text) → IsWithinLine bytes → list_any is_line_end bytes ≡ false
no_feed [] within = refl
no_feed (b ∷ bs) within =
    let first = within-first b bs within in
    ap (λ t. t || list_any is_line_end bs) (let other : (b == 10) ≡ false = grind (arith, nat_tests, first.0) in other) ∙ no_feed bs first.1

within_size : (bytes : Text) → IsWithinLine bytes → line_size bytes ≡ length bytes
within_size bytes within = ap line_size (sym (append-nil bytes)) ∙ line_size-front bytes [] within ∙ omega arith

within_after : (bytes : Text) → IsWithinLine bytes → after_line bytes ≡ []
within_after bytes within = ap after_line (sym (append-nil bytes)) ∙ after_line-front bytes [] within

-- ---- one line of a stream

next_feed : (s : Stream) → HasLineFeed s.bytes → next_line s ≡ line (line_of s.bytes) (record s { bytes = after_line s.bytes })
next_feed s feed = ap (λ t. cond t (whole_line s) (cond s.is_cut too_much (last_line s s.bytes))) (any_feed s.bytes feed)

-- a line, its LF and more
next_whole : (s : Stream) (l more : Text) → IsWithinLine l → s.bytes ≡ l ++ 10 ∷ more → next_line s ≡ line l (record s { bytes = more })
next_whole s l more within is =
    let feed : HasLineFeed s.bytes = omega (arith, ap (λ t. length (line_of t)) is, ap length (line_of-line l more within), ap line_size is, line_size-line l more within) in
    next_feed s feed ∙ (λ i. line ((ap line_of is ∙ line_of-line l more within) i) (record s { bytes = (ap after_line is ∙ after_line-line l more within) i }))

next_within : (s : Stream) → IsWithinLine s.bytes → next_line s ≡ cond s.is_cut too_much (last_line s s.bytes)
next_within s within = ap (λ t. cond t (whole_line s) (cond s.is_cut too_much (last_line s s.bytes))) (no_feed s.bytes within)

take_line : (l more : Text) (n : ℕ) → take (length l + 1 + n) (l ++ 10 ∷ more) ≡ l ++ 10 ∷ take n more
take_line [] more n = let size : 0 + 1 + n ≡ suc n = omega arith in ap (λ k. take k (10 ∷ more)) size
take_line (b ∷ bs) more n =
    let size : length (b ∷ bs) + 1 + n ≡ suc (length bs + 1 + n) = omega arith in
    rw size (ap (λ rest. b ∷ rest) (take_line bs more n))

taken_whole : (bytes : Text) (room left : ℕ) → HasLineFeed bytes → left + line_size bytes ≡ room → next_line (stream_from room bytes) ≡ line (line_of bytes) (stream_from left (after_line bytes))
taken_whole bytes room left feed spent =
    let size : room ≡ length (line_of bytes) + 1 + left = omega (arith, spent, line_size-ended bytes feed) in
    let front : take room bytes ≡ line_of bytes ++ 10 ∷ take left (after_line bytes) =
    ap (λ k. take k bytes) size ∙ ap (take (length (line_of bytes) + 1 + left)) (line_split bytes feed) ∙ take_line (line_of bytes) (after_line bytes) left in
    next_whole (stream_from room bytes) (line_of bytes) (take left (after_line bytes)) (line_of-within bytes) front
    ∙ (λ i. line (line_of bytes) (record { bytes = take left (after_line bytes); is_cut = over_step bytes room left spent i }))

last_by : (s : Stream) (bs : Text) → 0 < length bs → last_line s bs ≡ line bs (record s { bytes = [] })
last_by s [] some = absurd (omega (arith, some))
last_by s (b ∷ bs) some = refl

not_over : (room n : ℕ) → n ≤ room → nat_lt room n ≡ false
not_over room n within = grind (arith, nat_tests)

is_over : (room n : ℕ) → room < n → nat_lt room n ≡ true
is_over room n past = grind (arith, nat_tests)

take_none : (n : ℕ) → take {A = ℕ} n [] ≡ []
take_none zero = refl
take_none (suc n) = refl

stream_none : (room : ℕ) → stream_from room [] ≡ record { bytes = []; is_cut = false }
stream_none room = λ i. record { bytes = take_none room i; is_cut = not_over room 0 (omega arith) i }

taken_last : (bytes : Text) (room left : ℕ) → IsWithinLine bytes → 0 < line_size bytes → left + line_size bytes ≡ room → next_line (stream_from room bytes) ≡ line (line_of bytes) (stream_from left (after_line bytes))
taken_last bytes room left within some spent =
    let size = within_size bytes within in
    let all : take room bytes ≡ bytes = take_all room bytes (omega (arith, size, spent)) in
    let uncut : nat_lt room (length bytes) ≡ false = not_over room (length bytes) (omega (arith, size, spent)) in
    (λ i. next_line (record { bytes = all i; is_cut = uncut i }))
    ∙ next_within (record { bytes = bytes; is_cut = false }) within
    ∙ last_by (record { bytes = bytes; is_cut = false }) bytes (omega (arith, size, some))
    ∙ (λ i. line (sym within i) (sym (stream_none left) i)) ∙ ap (λ t. line (line_of bytes) (stream_from left t)) (sym (within_after bytes within))

pub line_taken : (bytes : Text) (room left : ℕ) → 0 < line_size bytes → left + line_size bytes ≡ room → next_line (stream_from room bytes) ≡ line (line_of bytes) (stream_from left (after_line bytes))
line_taken bytes room left some spent = by (feed_or bytes) where
  by : HasLineFeed bytes ⊎ IsWithinLine bytes → next_line (stream_from room bytes) ≡ line (line_of bytes) (stream_from left (after_line bytes))
  by (inl feed) = taken_whole bytes room left feed spent
  by (inr within) = taken_last bytes room left within some spent

pub line_end : (room : ℕ) → next_line (stream_from room []) ≡ no_line
line_end room = ap next_line (stream_none room)

within_take : (bytes : Text) (room : ℕ) → room < line_size bytes → IsWithinLine (take room bytes)
within_take [] room past = absurd (omega arith)
within_take (b ∷ bs) zero past = refl
within_take (b ∷ bs) (suc r) past = by (b == 10) refl past (λ less. within_take bs r less) where
  by : (t : Bool) → t ≡ (b == 10) → suc r < cond t 1 (line_size bs + 1) → (r < line_size bs → IsWithinLine (take r bs)) → IsWithinLine (b ∷ take r bs)
  by true is less rest = absurd (omega arith)
  by false is less rest = within-next b (take r bs) (grind (arith, nat_tests)) (rest (omega arith))

pub line_over : (bytes : Text) (room : ℕ) → room < line_size bytes → next_line (stream_from room bytes) ≡ too_much
line_over bytes room past =
    next_within (stream_from room bytes) (within_take bytes room past)
    ∙ ap (λ t. cond t too_much (last_line (stream_from room bytes) (take room bytes))) (is_over room (length bytes) (omega (arith, past, length_line bytes)))

-- ---- one line of a stream that goes on

pub line_part : (front : Text) → IsWithinLine front → next_line (front_of_stream front) ≡ too_much
line_part front within = next_within (front_of_stream front) within

pub line_whole : (l more : Text) → IsWithinLine l → next_line (front_of_stream (l ++ 10 ∷ more)) ≡ line l (front_of_stream more)
line_whole l more within = next_whole (front_of_stream (l ++ 10 ∷ more)) l more within refl

-- ---- several lines

pub lines_taken : (n : ℕ) (bytes : Text) (room left : ℕ) → left + lines_size n bytes ≡ room → next_lines n (stream_from room bytes) ≡ taken (first_lines n bytes) (stream_from left (after_lines n bytes))
lines_taken zero bytes room left spent = let same : room ≡ left = omega (arith, spent) in ap (λ r. taken [] (stream_from r bytes)) same
lines_taken (suc n) [] room left spent =
    let same : room ≡ left = omega (arith, spent, size_none n) in
    ap (lines_after (next_lines n) (stream_from room [])) (line_end room)
    ∙ ap (λ r. taken [] (stream_from r [])) same ∙ ap (λ t. taken [] (stream_from left t)) (sym (after_none n))
lines_taken (suc n) (b ∷ bs) room left spent =
    let some = line_size-some b bs in
    let next : left + lines_size n (after_line (b ∷ bs)) + line_size (b ∷ bs) ≡ room = omega (arith, spent) in
    ap (lines_after (next_lines n) (stream_from room (b ∷ bs))) (line_taken (b ∷ bs) room (left + lines_size n (after_line (b ∷ bs))) some next)
    ∙ ap (line_before (line_of (b ∷ bs))) (lines_taken n (after_line (b ∷ bs)) (left + lines_size n (after_line (b ∷ bs))) left refl)
    ∙ ap (λ ls. taken ls (stream_from left (after_lines n (after_line (b ∷ bs))))) (sym (first_more n (b ∷ bs) some))

pub lines_over : (n : ℕ) (bytes : Text) (room : ℕ) → room < lines_size n bytes → next_lines n (stream_from room bytes) ≡ too_many
lines_over zero bytes room past = absurd (omega (arith, past))
lines_over (suc n) [] room past = absurd (omega (arith, past, size_none n))
lines_over (suc n) (b ∷ bs) room past = by (cases_lt room (line_size (b ∷ bs))) (λ left less. lines_over n (after_line (b ∷ bs)) left less) where
  by : (room < line_size (b ∷ bs)) ⊎ (line_size (b ∷ bs) ≤ room) → ((left : ℕ) → left < lines_size n (after_line (b ∷ bs)) → next_lines n (stream_from left (after_line (b ∷ bs))) ≡ too_many) → next_lines (suc n) (stream_from room (b ∷ bs)) ≡ too_many
  by (inl less) rest = ap (lines_after (next_lines n) (stream_from room (b ∷ bs))) (line_over (b ∷ bs) room less)
  by (inr within) rest =
      ap (lines_after (next_lines n) (stream_from room (b ∷ bs))) (line_taken (b ∷ bs) room (room - line_size (b ∷ bs)) (line_size-some b bs) (omega (arith, within)))
      ∙ ap (line_before (line_of (b ∷ bs))) (rest (room - line_size (b ∷ bs)) (omega (arith, past, within)))

pub lines_part : (n : ℕ) (front : Text) → length (whole_lines front) < n → next_lines n (front_of_stream front) ≡ too_many
lines_part zero front few = absurd (omega (arith, few))
lines_part (suc n) front few = by (feed_or front) (λ less. lines_part n (after_line front) less) where
  by : HasLineFeed front ⊎ IsWithinLine front → (length (whole_lines (after_line front)) < n → next_lines n (front_of_stream (after_line front)) ≡ too_many) → next_lines (suc n) (front_of_stream front) ≡ too_many
  by (inl feed) rest =
      ap (lines_after (next_lines n) (front_of_stream front)) (ap (λ t. next_line (front_of_stream t)) (line_split front feed) ∙ line_whole (line_of front) (after_line front) (line_of-within front))
      ∙ ap (line_before (line_of front)) (rest (omega (arith, few, whole_first front feed)))
  by (inr within) rest = ap (lines_after (next_lines n) (front_of_stream front)) (line_part front within)

some_size : (bytes : Text) → HasLineFeed bytes → 0 < line_size bytes
some_size bytes feed = omega (arith, feed)

pub lines_whole : (n : ℕ) (bytes more : Text) → n ≤ length (whole_lines bytes) → next_lines n (front_of_stream (with_feeds (first_lines n bytes) ++ more)) ≡ taken (first_lines n bytes) (front_of_stream more)
lines_whole zero bytes more whole = refl
lines_whole (suc n) bytes more whole =
    let feed = whole_some bytes (omega (arith, whole)) in
    let first = first_more n bytes (some_size bytes feed) in
    let rest = first_lines n (after_line bytes) in
    let text : with_feeds (first_lines (suc n) bytes) ++ more ≡ line_of bytes ++ 10 ∷ (with_feeds rest ++ more) =
    ap (λ ls. with_feeds ls ++ more) first ∙ append_assoc (line_of bytes) (10 ∷ with_feeds rest) more in
    ap (λ t. next_lines (suc n) (front_of_stream t)) text
    ∙ ap (lines_after (next_lines n) (front_of_stream (line_of bytes ++ 10 ∷ (with_feeds rest ++ more)))) (line_whole (line_of bytes) (with_feeds rest ++ more) (line_of-within bytes))
    ∙ ap (line_before (line_of bytes)) (lines_whole n (after_line bytes) more (omega (arith, whole, whole_first bytes feed)))
    ∙ ap (λ ls. taken ls (front_of_stream more)) (sym first)

pub lines_split : (n : ℕ) (bytes : Text) → n ≤ length (whole_lines bytes) → bytes ≡ with_feeds (first_lines n bytes) ++ after_lines n bytes
lines_split zero bytes whole = refl
lines_split (suc n) bytes whole =
    let feed = whole_some bytes (omega (arith, whole)) in
    let rest = first_lines n (after_line bytes) in
    line_split bytes feed ∙ ap (λ t. line_of bytes ++ 10 ∷ t) (lines_split n (after_line bytes) (omega (arith, whole, whole_first bytes feed)))
    ∙ sym (append_assoc (line_of bytes) (10 ∷ with_feeds rest) (after_lines n (after_line bytes)))
    ∙ ap (λ ls. with_feeds ls ++ after_lines n (after_line bytes)) (sym (first_more n bytes (some_size bytes feed)))

-- the lines of what was taken
pub lines_feeds : (n : ℕ) (bytes : Text) → lines_of (with_feeds (first_lines n bytes)) ≡ first_lines n bytes
lines_feeds zero bytes = refl
lines_feeds (suc n) [] = refl
lines_feeds (suc n) (b ∷ bs) =
    let first = first_more n (b ∷ bs) (line_size-some b bs) in
    ap (λ ls. lines_of (with_feeds ls)) first
    ∙ lines_of-line (line_of (b ∷ bs)) (with_feeds (first_lines n (after_line (b ∷ bs)))) (line_of-within (b ∷ bs))
    ∙ ap (λ ls. line_of (b ∷ bs) ∷ ls) (lines_feeds n (after_line (b ∷ bs))) ∙ sym first
