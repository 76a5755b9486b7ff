-- Lines that are skipped: each takes a byte, and what is read behind them does not hang on how many may be skipped.
use Rattle.std.proofs.Common.{◌≡◌, ◌<◌, ◌==◌, cond, not, ℕ, zero, suc, Bool, true, false, List, [], ◌∷◌, Option, Some, None, length, refl, sym, ap, subst, ◌∙◌, arith}
use Rattle.std.specs.List.{list_any, list_all}
use Rattle.std.specs.Str.{is_utf8}
use Rattle.zw_def.specs.Text.{Text, joined}
use Rattle.zw_def.specs.Path.{Path, path_of}
use Rattle.zw_def.specs.Line.{after_line, line_of, is_blank}
use Rattle.zw_def.specs.ConstantPath.{constant_path_of}
use Rattle.zw_def.proofs.LineLemmas.{length_line, line_size-some}
use Rattle.zw_def_session.specs.Commands as defined
use Rattle.zw_def_session.specs.Commands.{Command, Stream, Reading, reads, refuses, skips, ends_here, over, Taken, taken, too_many, next_line, next_lines, whole_line, last_line, is_line_end, read_line, next_command, command_on, command_of, put_rest, put_lines, put_of, runs_lines, runs_of, with_argument, alone, is_word, is_comment, is_long_line, first_word, rest_of, without_return, without_returns, before_last_space, last_word, number_in, max_put, max_runs}
use Rattle.zw_cmd.specs.Streams.{after_skip, reading_within, next_reading}

-- a reading that skips leaves fewer bytes than n
abbrev pub SkipsBelow : ℕ → Reading → Type 0
SkipsBelow n (reads command s) = Unit {0}
SkipsBelow n (refuses reason s) = Unit {0}
SkipsBelow n (skips s) = length s.bytes < n
SkipsBelow n ends_here = Unit {0}
SkipsBelow n over = Unit {0}

either : (n : ℕ) (b : Bool) (x y : Reading) → SkipsBelow n x → SkipsBelow n y → SkipsBelow n (cond b x y)
either n true x y left right = left
either n false x y left right = right

-- ---- commands skip nothing

with_argument_skips : {A : Type 0} (n : ℕ) (command : A → Command) (s : Stream) (o : Option A) → SkipsBelow n (with_argument command s o)
with_argument_skips n command s None = tt
with_argument_skips n command s (Some a) = tt

alone_skips : (n : ℕ) (r : Reading) (s : Stream) (rest : Text) → SkipsBelow n r → SkipsBelow n (alone r s rest)
alone_skips n r s [] whole = whole
alone_skips n r s (b ∷ bs) whole = tt

put_skips : (n : ℕ) (s : Stream) (path : Option Path) (count : Option ℕ) → SkipsBelow n (put_lines s path count)
put_skips n s None count = tt
put_skips n s (Some path) None = tt
put_skips n s (Some path) (Some count) = by (next_lines count s) where
  by : (t : Taken) → SkipsBelow n (put_of count path t)
  by too_many = tt
  by (taken ls u) = either n _ (reads (defined.put path (defined.with_line_ends ls)) u) (refuses defined.input_ended u) tt tt

runs_taken : (n count : ℕ) (ls : List Text) (s : Stream) → SkipsBelow n (runs_of count (taken ls s))
runs_taken n count ls s =
    either n (list_any is_long_line ls) (refuses defined.line_too_long s) _ tt
    (either n (not (list_all is_utf8 ls)) (refuses defined.not_utf8 s) _ tt
    (either n (length ls == count) (reads (defined.run (joined 10 (without_returns ls))) s) (refuses defined.input_ended s) tt tt))

runs_skips : (n : ℕ) (s : Stream) (count : Option ℕ) → SkipsBelow n (runs_lines s count)
runs_skips n s None = tt
runs_skips n s (Some count) = by (next_lines count s) where
  by : (t : Taken) → SkipsBelow n (runs_of count t)
  by too_many = tt
  by (taken ls u) = runs_taken n count ls u

command_skips : (n : ℕ) (word rest : Text) (s : Stream) → SkipsBelow n (command_of word rest s)
command_skips n word rest s =
    either n (is_word word "put") _ _ (put_skips n s (path_of (before_last_space rest)) (number_in 0 max_put (last_word rest)))
    (either n (is_word word "del") _ _ (with_argument_skips n defined.del s (path_of rest))
    (either n (is_word word "run") _ _ tt
    (either n (is_word word "runs") _ _ (runs_skips n s (number_in 1 max_runs rest))
    (either n (is_word word "reload") _ _ (alone_skips n (reads defined.reload s) s rest tt)
    (either n (is_word word "eager") _ _ (alone_skips n (reads defined.eager s) s rest tt)
    (either n (is_word word "eager_dir") _ _ (with_argument_skips n defined.eager_dir s (path_of rest))
    (either n (is_word word "eager_ns") _ _ (with_argument_skips n defined.eager_ns s (constant_path_of rest))
    (either n (is_word word "load") _ _ (with_argument_skips n defined.load s (path_of rest))
    (either n (is_word word "expect") _ _ (with_argument_skips n defined.expect s (path_of rest))
    (either n (is_word word "map") _ _ (alone_skips n (reads defined.map s) s rest tt)
    (either n (is_word word "shadows") _ _ (alone_skips n (reads defined.shadows s) s rest tt)
    (either n (is_word word "check") _ _ (alone_skips n (reads defined.check s) s rest tt)
    (either n (is_word word "end") _ _ (alone_skips n ends_here s rest tt) tt)))))))))))))

-- ---- a skipped line takes a byte

line_skips : (n : ℕ) (l : Text) (s : Stream) → length s.bytes < n → SkipsBelow n (command_on l s)
line_skips n l s less =
    either n (is_comment l) (skips s) _ less
    (either n (is_long_line l) (refuses defined.line_too_long s) _ tt
    (either n (not (is_utf8 (without_return l))) (refuses defined.not_utf8 s) _ tt
    (either n (list_all is_blank (without_return l)) (skips s) _ less (command_skips n (first_word (without_return l)) (rest_of (without_return l)) s))))

pub command_shrinks : (s : Stream) → SkipsBelow (length s.bytes) (next_command s)
command_shrinks s = by s.bytes (list_any is_line_end s.bytes) s.is_cut refl refl where
  whole : (bs : Text) → list_any is_line_end bs ≡ true → length (after_line bs) < length bs
  whole [] any = absurd (cc)
  whole (b ∷ bs) any = omega (arith, length_line (b ∷ bs), line_size-some b bs)

  last : (bs : Text) → SkipsBelow (length bs) (read_line (last_line s bs))
  last [] = tt
  last (b ∷ bs) = line_skips (length (b ∷ bs)) (b ∷ bs) (record s { bytes = [] }) (omega arith)

  by : (bs : Text) (any cut : Bool) → bs ≡ s.bytes → any ≡ list_any is_line_end s.bytes → SkipsBelow (length bs) (read_line (cond any (whole_line s) (cond cut defined.too_much (last_line s bs))))
  by bs true cut is found = line_skips (length bs) (line_of s.bytes) (record s { bytes = after_line s.bytes }) (omega (arith, ap length is, whole s.bytes (sym found)))
  by bs false true is found = tt
  by bs false false is found = last bs

-- ---- how many lines may be skipped

fuel_by : (k n m : ℕ) (r : Reading) → SkipsBelow k r → ((t : Stream) → length t.bytes < k → reading_within n t ≡ reading_within m t) → after_skip (reading_within n) r ≡ after_skip (reading_within m) r
fuel_by k n m (reads command s) less same = refl
fuel_by k n m (refuses reason s) less same = refl
fuel_by k n m (skips s) less same = same s less
fuel_by k n m ends_here less same = refl
fuel_by k n m over less same = refl

pub enough : (n m : ℕ) (s : Stream) → length s.bytes < n → length s.bytes < m → reading_within n s ≡ reading_within m s
enough zero m s left right = absurd (omega (arith, left))
enough (suc n) zero s left right = absurd (omega (arith, right))
enough (suc n) (suc m) s left right =
    fuel_by (length s.bytes) n m (next_command s) (command_shrinks s) (λ t less. enough n m t (omega (arith, left, less)) (omega (arith, right, less)))

-- behind a line that is skipped
pub skip_step : (s t : Stream) → next_command s ≡ skips t → next_reading s ≡ next_reading t
skip_step s t is =
    let less : length t.bytes < length s.bytes = subst (SkipsBelow (length s.bytes)) is (command_shrinks s) in
    ap (after_skip (reading_within (length s.bytes))) is ∙ enough (length s.bytes) (suc (length t.bytes)) t less (omega arith)
