-- Lines, over plain bytes.
use Rattle.std.proofs.Common.{◌≡◌, ◌≢◌, ◌≤◌, ◌<◌, ◌+◌, ◌-◌, ◌++◌, ◌==◌, ◌⊎◌, cond, true, false, Bool, ℕ, zero, suc, List, [], ◌∷◌, nat_lt, length, take, refl, sym, ap, ◌∙◌, append-nil, append_assoc, arith, inl, inr}
use Rattle.std.specs.Prelude.{All}
use Rattle.std.proofs.lemmas.List.{length-append}
use Rattle.std.proofs.Math.Seq.{take-append_seam}
use Rattle.std.proofs.lemmas.Bool.{cases_Bool}
use Rattle.std.proofs.lemmas.Bool.Decides.{nat_tests}
use Rattle.std.specs.List.{onto_first}
use Rattle.zw_def.specs.Text.{Text}
use Rattle.zw_def.specs.Line.{line_of, after_line, line_size, lines_of, onto_whole, whole_lines, IsWithinLine, HasLineFeed}

-- ---- byte by byte

pub line_of-other : (b : ℕ) (bs : Text) → b ≢ 10 → line_of (b ∷ bs) ≡ b ∷ line_of bs
line_of-other b bs other = grind (arith, nat_tests)

pub after_line-other : (b : ℕ) (bs : Text) → b ≢ 10 → after_line (b ∷ bs) ≡ after_line bs
after_line-other b bs other = grind (arith, nat_tests)

pub line_size-other : (b : ℕ) (bs : Text) → b ≢ 10 → line_size (b ∷ bs) ≡ line_size bs + 1
line_size-other b bs other = grind (arith, nat_tests)

pub lines_of-other : (b : ℕ) (bs : Text) → b ≢ 10 → lines_of (b ∷ bs) ≡ onto_first b (lines_of bs)
lines_of-other b bs other = grind (arith, nat_tests)

pub whole_lines-other : (b : ℕ) (bs : Text) → b ≢ 10 → whole_lines (b ∷ bs) ≡ onto_whole b (whole_lines bs)
whole_lines-other b bs other = grind (arith, nat_tests)

pub line_size-some : (b : ℕ) (bs : Text) → 0 < line_size (b ∷ bs)
line_size-some b bs = grind (arith, nat_tests)

pub line_size-none : (bytes : Text) → line_size bytes ≡ 0 → bytes ≡ []
line_size-none [] none = refl
line_size-none (b ∷ bs) none = absurd (omega (arith, line_size-some b bs))

pub line_size-length : (bytes : Text) → 0 < length bytes → 0 < line_size bytes
line_size-length [] some = absurd (omega arith)
line_size-length (b ∷ bs) some = line_size-some b bs

-- ---- bytes with no LF

first_by : (b : ℕ) (bs : Text) (t : Bool) → t ≡ (b == 10) → cond t [] (b ∷ line_of bs) ≡ b ∷ bs → (b ≢ 10) × IsWithinLine bs
first_by b bs true is within = absurd (cc)
first_by b bs false is within = (grind (arith, nat_tests), cc)

-- of bytes with no LF the first is none, and the others have none
pub within-first : (b : ℕ) (bs : Text) → IsWithinLine (b ∷ bs) → (b ≢ 10) × IsWithinLine bs
within-first b bs within = first_by b bs (b == 10) refl within

pub within-next : (b : ℕ) (bs : Text) → b ≢ 10 → IsWithinLine bs → IsWithinLine (b ∷ bs)
within-next b bs other within = line_of-other b bs other ∙ ap (λ rest. b ∷ rest) within

-- one byte more, which is no LF
pub within-more : (front : Text) (b : ℕ) → IsWithinLine front → b ≢ 10 → IsWithinLine (front ++ b ∷ [])
within-more [] b within other = line_of-other b [] other
within-more (c ∷ cs) b within other =
    let first = within-first c cs within in
    within-next c (cs ++ b ∷ []) first.0 (within-more cs b first.1 other)

within_by : (b : ℕ) (bs : Text) (t : Bool) → t ≡ (b == 10) → IsWithinLine (line_of bs) → IsWithinLine (cond t [] (b ∷ line_of bs))
within_by b bs true is within = refl
within_by b bs false is within = within-next b (line_of bs) (grind (arith, nat_tests)) within

-- a line has no LF
pub line_of-within : (bytes : Text) → IsWithinLine (line_of bytes)
line_of-within [] = refl
line_of-within (b ∷ bs) = within_by b bs (b == 10) refl (line_of-within bs)

-- ---- bytes with no LF, and more bytes

pub line_of-front : (front rest : Text) → IsWithinLine front → line_of (front ++ rest) ≡ front ++ line_of rest
line_of-front [] rest within = refl
line_of-front (b ∷ bs) rest within =
    let first = within-first b bs within in
    line_of-other b (bs ++ rest) first.0 ∙ ap (λ more. b ∷ more) (line_of-front bs rest first.1)

pub after_line-front : (front rest : Text) → IsWithinLine front → after_line (front ++ rest) ≡ after_line rest
after_line-front [] rest within = refl
after_line-front (b ∷ bs) rest within =
    let first = within-first b bs within in
    after_line-other b (bs ++ rest) first.0 ∙ after_line-front bs rest first.1

pub line_size-front : (front rest : Text) → IsWithinLine front → line_size (front ++ rest) ≡ length front + line_size rest
line_size-front [] rest within = omega arith
line_size-front (b ∷ bs) rest within =
    let first = within-first b bs within in
    omega (arith, line_size-other b (bs ++ rest) first.0, line_size-front bs rest first.1)

-- no line stands whole in bytes with no LF
pub whole_lines-within : (front : Text) → IsWithinLine front → whole_lines front ≡ []
whole_lines-within [] within = refl
whole_lines-within (b ∷ bs) within =
    let first = within-first b bs within in
    whole_lines-other b bs first.0 ∙ ap (onto_whole b) (whole_lines-within bs first.1)

-- ---- a line, its LF, and more bytes

pub line_of-line : (line more : Text) → IsWithinLine line → line_of (line ++ 10 ∷ more) ≡ line
line_of-line line more within = line_of-front line (10 ∷ more) within ∙ append-nil line

pub after_line-line : (line more : Text) → IsWithinLine line → after_line (line ++ 10 ∷ more) ≡ more
after_line-line line more within = after_line-front line (10 ∷ more) within

pub line_size-line : (line more : Text) → IsWithinLine line → line_size (line ++ 10 ∷ more) ≡ length line + 1
line_size-line line more within = line_size-front line (10 ∷ more) within

pub lines_of-line : (line more : Text) → IsWithinLine line → lines_of (line ++ 10 ∷ more) ≡ line ∷ lines_of more
lines_of-line [] more within = refl
lines_of-line (b ∷ bs) more within =
    let first = within-first b bs within in
    lines_of-other b (bs ++ 10 ∷ more) first.0 ∙ ap (onto_first b) (lines_of-line bs more first.1)

pub whole_lines-line : (line more : Text) → IsWithinLine line → whole_lines (line ++ 10 ∷ more) ≡ line ∷ whole_lines more
whole_lines-line [] more within = refl
whole_lines-line (b ∷ bs) more within =
    let first = within-first b bs within in
    whole_lines-other b (bs ++ 10 ∷ more) first.0 ∙ ap (onto_whole b) (whole_lines-line bs more first.1)

-- ---- the first of the lines

first_line : (b : ℕ) (bs : Text) (t : Bool) → (bs ≡ []) ⊎ (lines_of bs ≡ line_of bs ∷ lines_of (after_line bs))
    → cond t ([] ∷ lines_of bs) (onto_first b (lines_of bs)) ≡ cond t [] (b ∷ line_of bs) ∷ lines_of (cond t bs (after_line bs))
first_line b bs true rest = refl
first_line b bs false (inl none) = rw none refl
first_line b bs false (inr more) = ap (onto_first b) more

lines_or : (bytes : Text) → (bytes ≡ []) ⊎ (lines_of bytes ≡ line_of bytes ∷ lines_of (after_line bytes))
lines_or [] = inl refl
lines_or (b ∷ bs) = inr (first_line b bs (b == 10) (lines_or bs))

-- the first line, and then the lines after it
pub lines_step : (bytes : Text) → 0 < line_size bytes → lines_of bytes ≡ line_of bytes ∷ lines_of (after_line bytes)
lines_step [] some = absurd (omega arith)
lines_step (b ∷ bs) some = first_line b bs (b == 10) (lines_or bs)

first_whole : (b : ℕ) (bs : Text) (r : ℕ) (t : Bool) → cond t 1 (line_size bs + 1) ≤ suc r
    → (line_size bs ≤ r → whole_lines (take r bs) ≡ line_of bs ∷ whole_lines (take (r - line_size bs) (after_line bs)))
    → cond t ([] ∷ whole_lines (take r bs)) (onto_whole b (whole_lines (take r bs))) ≡ cond t [] (b ∷ line_of bs) ∷ whole_lines (take (suc r - cond t 1 (line_size bs + 1)) (cond t bs (after_line bs)))
first_whole b bs r true fits rest = let same : r ≡ suc r - 1 = omega arith in ap (λ k. [] ∷ whole_lines (take k bs)) same
first_whole b bs r false fits rest =
    let same : r - line_size bs ≡ suc r - (line_size bs + 1) = omega arith in
    ap (onto_whole b) (rest (omega arith)) ∙ ap (λ k. (b ∷ line_of bs) ∷ whole_lines (take k (after_line bs))) same

-- where a front of the bytes has the first line, and more bytes follow the front
pub whole_step : (bytes : Text) (room : ℕ) → line_size bytes ≤ room → room < length bytes → whole_lines (take room bytes) ≡ line_of bytes ∷ whole_lines (take (room - line_size bytes) (after_line bytes))
whole_step [] room fits more = absurd (omega arith)
whole_step (b ∷ bs) zero fits more = absurd (omega (arith, line_size-some b bs))
whole_step (b ∷ bs) (suc r) fits more = first_whole b bs r (b == 10) fits (λ within. whole_step bs r within (omega arith))

length_by : (t : Bool) (bs : Text) → length bs ≡ line_size bs + length (after_line bs) → length bs + 1 ≡ cond t 1 (line_size bs + 1) + length (cond t bs (after_line bs))
length_by true bs rest = omega arith
length_by false bs rest = omega arith

-- the bytes are the first line's and those after it
pub length_line : (bytes : Text) → length bytes ≡ line_size bytes + length (after_line bytes)
length_line [] = refl
length_line (b ∷ bs) = let e = length_by (b == 10) bs (length_line bs) in omega (arith, e)

-- no line stands whole in a front that is shorter than the first line
pub whole_none : (bytes : Text) (room : ℕ) → room < line_size bytes → whole_lines (take room bytes) ≡ []
whole_none [] room past = absurd (omega arith)
whole_none (b ∷ bs) zero past = refl
whole_none (b ∷ bs) (suc r) past = whole_none_by b bs r (b == 10) past (λ more. whole_none bs r more)
  where
    whole_none_by : (c : ℕ) (cs : Text) (k : ℕ) (t : Bool) → suc k < cond t 1 (line_size cs + 1) → (k < line_size cs → whole_lines (take k cs) ≡ []) → cond t ([] ∷ whole_lines (take k cs)) (onto_whole c (whole_lines (take k cs))) ≡ []
    whole_none_by c cs k true past rest = absurd (omega arith)
    whole_none_by c cs k false past rest = ap (onto_whole c) (rest (omega arith))

-- ---- lines that end with an LF within the bytes

split_by : (b : ℕ) (bs : Text) (t : Bool) → t ≡ (b == 10) → length (cond t [] (b ∷ line_of bs)) < cond t 1 (line_size bs + 1)
    → (HasLineFeed bs → bs ≡ line_of bs ++ 10 ∷ after_line bs) → b ∷ bs ≡ cond t [] (b ∷ line_of bs) ++ 10 ∷ cond t bs (after_line bs)
split_by b bs true is ended rest = let lf : b ≡ 10 = grind (arith, nat_tests) in ap (λ c. c ∷ bs) lf
split_by b bs false is ended rest = ap (λ more. b ∷ more) (rest (omega arith))

-- the bytes are the first line, its LF, and what follows
pub line_split : (bytes : Text) → HasLineFeed bytes → bytes ≡ line_of bytes ++ 10 ∷ after_line bytes
line_split [] ended = absurd (omega arith)
line_split (b ∷ bs) ended = split_by b bs (b == 10) refl ended (line_split bs)

-- a line with its LF has one byte more than the line
pub line_size-ended : (bytes : Text) → HasLineFeed bytes → line_size bytes ≡ length (line_of bytes) + 1
line_size-ended bytes ended = ap line_size (line_split bytes ended) ∙ line_size-line (line_of bytes) (after_line bytes) (line_of-within bytes)

take_line : (line more : Text) (n : ℕ) → take (length line + 1 + n) (line ++ 10 ∷ more) ≡ line ++ 10 ∷ take n more
take_line [] more n = let size : 0 + 1 + n ≡ suc n = omega arith in ap (λ k. take k (10 ∷ more)) size
take_line (b ∷ bs) more n =
    let size : length (b ∷ bs) + 1 + n ≡ suc (length bs + 1 + n) = omega arith in
    rw size (ap (λ rest. b ∷ rest) (take_line bs more n))

-- a front of the bytes that has the first line with its LF, and n bytes more
pub whole_lines-take : (bytes : Text) (n : ℕ) → HasLineFeed bytes → whole_lines (take (line_size bytes + n) bytes) ≡ line_of bytes ∷ whole_lines (take n (after_line bytes))
whole_lines-take bytes n ended =
    let size : line_size bytes + n ≡ length (line_of bytes) + 1 + n = omega (arith, line_size-ended bytes ended) in
    let front : take (line_size bytes + n) bytes ≡ line_of bytes ++ 10 ∷ take n (after_line bytes) =
    ap (λ k. take k bytes) size ∙ ap (take (length (line_of bytes) + 1 + n)) (line_split bytes ended) ∙ take_line (line_of bytes) (after_line bytes) n in
    ap whole_lines front ∙ whole_lines-line (line_of bytes) (take n (after_line bytes)) (line_of-within bytes)

-- ---- the bytes taken, where the last of the bytes are still left

-- no line stands whole in what was taken of bytes where a front of a line was passed
pub whole_lines-stop : (bytes front rest : Text) → bytes ≡ front ++ rest → IsWithinLine front → whole_lines (take (length bytes - length rest) bytes) ≡ []
whole_lines-stop bytes front rest split within =
    let taken : length bytes - length rest ≡ length front = omega (arith, ap length split, length-append front rest) in
    let begin : take (length bytes - length rest) bytes ≡ front = ap (λ k. take k bytes) taken ∙ ap (take (length front)) split ∙ take-append_seam front rest in
    ap whole_lines begin ∙ whole_lines-within front within

-- the first line stands whole in what was taken, where no more is left than what follows it
pub whole_lines-taken : (bytes : Text) (left : ℕ) → HasLineFeed bytes → left ≤ length (after_line bytes) → whole_lines (take (length bytes - left) bytes) ≡ line_of bytes ∷ whole_lines (take (length (after_line bytes) - left) (after_line bytes))
whole_lines-taken bytes left ended within =
    let taken : length bytes - left ≡ line_size bytes + (length (after_line bytes) - left) = omega (arith, length_line bytes) in
    ap (λ k. whole_lines (take k bytes)) taken ∙ whole_lines-take bytes (length (after_line bytes) - left) ended

-- ---- lines, each with its LF

-- the lines, each with an LF behind it
abbrev pub with_feeds : List Text → Text
with_feeds [] = []
with_feeds (line ∷ lines) = line ++ 10 ∷ with_feeds lines

pub with_feeds-more : (lines : List Text) (line rest : Text) → with_feeds (lines ++ line ∷ []) ++ rest ≡ with_feeds lines ++ (line ++ 10 ∷ rest)
with_feeds-more [] line rest = append_assoc line (10 ∷ []) rest
with_feeds-more (first ∷ lines) line rest =
    append_assoc first (10 ∷ with_feeds (lines ++ line ∷ [])) rest
    ∙ ap (λ more. first ++ 10 ∷ more) (with_feeds-more lines line rest)
    ∙ sym (append_assoc first (10 ∷ with_feeds lines) (line ++ 10 ∷ rest))

-- the lines that stand whole in them and more bytes
pub whole_lines-feeds : (lines : List Text) (more : Text) → All IsWithinLine lines → whole_lines (with_feeds lines ++ more) ≡ lines ++ whole_lines more
whole_lines-feeds [] more within = refl
whole_lines-feeds (line ∷ lines) more within =
    ap whole_lines (append_assoc line (10 ∷ with_feeds lines) more)
    ∙ whole_lines-line line (with_feeds lines ++ more) (within 0 [] (omega arith))
    ∙ ap (λ rest. line ∷ rest) (whole_lines-feeds lines more (λ k other below. within (suc k) other (omega arith)))

-- ---- lines within some room

over_same : (room left size m n : ℕ) → left + size ≡ room → m ≡ size + n → nat_lt room m ≡ nat_lt left n
over_same room left size m n a b = grind (arith, nat_tests)

-- there are more bytes than the room, before and after the first line
pub over_step : (bytes : Text) (room left : ℕ) → left + line_size bytes ≡ room → nat_lt room (length bytes) ≡ nat_lt left (length (after_line bytes))
over_step bytes room left spent = over_same room left (line_size bytes) _ _ spent (length_line bytes)

-- the lines that stand whole within the room, before and after the first line
pub within_step : (bytes : Text) (room left : ℕ) → 0 < line_size bytes → left + line_size bytes ≡ room
    → cond (nat_lt room (length bytes)) (whole_lines (take room bytes)) (lines_of bytes)
    ≡ line_of bytes ∷ cond (nat_lt left (length (after_line bytes))) (whole_lines (take left (after_line bytes))) (lines_of (after_line bytes))
within_step bytes room left some spent = elim (cases_Bool (nat_lt room (length bytes))) [
  | inl over ↦
      let same : room - line_size bytes ≡ left = omega arith in
      let later : nat_lt left (length (after_line bytes)) ≡ true = sym (over_step bytes room left spent) ∙ over in
      rw (over, later) (whole_step bytes room (omega arith) (grind (arith, nat_tests)) ∙ ap (λ k. line_of bytes ∷ whole_lines (take k (after_line bytes))) same)
  | inr all ↦
      let later : nat_lt left (length (after_line bytes)) ≡ false = sym (over_step bytes room left spent) ∙ all in
      rw (all, later) (lines_step bytes some)
]
