-- A line, byte by byte: what a loop over the bytes knows, and what it answers.
use Rattle.std.proofs.Common.{◌≡◌, ◌≢◌, ◌≤◌, ◌<◌, ◌+◌, ◌++◌, cond, true, false, Bool, ℕ, [], ◌∷◌, Option, Some, None, Result, Ok, Err, IfSome, option_map, nat_lt, length, take, refl, sym, ap, subst, append-nil, ◌∙◌, append_assoc, arith}
use Rattle.std.proofs.lemmas.Option.{same_Some}
use Rattle.std.proofs.lemmas.List.{take_all, take-append-le, length-append, length-take}
use Rattle.std.proofs.lemmas.Bool.Decides.{nat_tests}
use Rattle.zw_def.specs.Text.{Text}
use Rattle.zw_def.specs.Line.{line_of, after_line, line_size, IsWithinLine, HasLineFeed}
use Rattle.zw_io.specs.LineAnswers.{kept_with, TakesLine, Answers, MeetsEnd, Steps}
use Rattle.zw_io.specs.declared.lines.LineEnd.{LineEnd}
use Rattle.zw_io.specs.declared.lines.LineEnd.TheVariants.{Line, TooLong}
use Rattle.zw_io.specs.declared.lines.LinesFault.{LinesFault}
use Rattle.zw_io.specs.declared.lines.LinesFault.TheVariants.{ReadFault, TooMuch, Memory}
use Rattle.zw_def.proofs.LineLemmas.{line_of-front, after_line-front, line_size-front, line_size-length, within-more}

-- a front with no LF has gone by, and into has at most n bytes of it
pub record Goes (n : ℕ) (all rest into : Text) (start room : ℕ) : Type 0 where
  pub front : Text
  pub split : all ≡ front ++ rest
  pub within : IsWithinLine front
  pub kept : into ≡ take n front
  pub spent : room + length front ≡ start

-- the same of what is told
abbrev pub GoesIfTold : ℕ → Option Text → Option Text → Text → ℕ → ℕ → Type 0
GoesIfTold n None now into start room = Unit {0}
GoesIfTold n (Some all) None into start room = ⊥
GoesIfTold n (Some all) (Some rest) into start room = Goes n all rest into start room

-- one byte more is kept where fewer than n are
kept_more : (n : ℕ) (front into : Text) (b : ℕ) (t : Bool) → t ≡ nat_lt (length into) n → into ≡ take n front → cond t (into ++ b ∷ []) into ≡ take n (front ++ b ∷ [])
kept_more n front into b true is kept =
    let few : length front < n = grind (arith, nat_tests, ap length kept, length-take n front) in
    let all : into ≡ front = kept ∙ take_all n front (omega arith) in
    ap (λ bytes. bytes ++ b ∷ []) all ∙ sym (take_all n (front ++ b ∷ []) (omega (arith, length-append front (b ∷ []))))
kept_more n front into b false is kept =
    let many : n ≤ length front = grind (arith, nat_tests, ap length kept, length-take n front) in
    kept ∙ sym (take-append-le n front (b ∷ []) many)

-- one byte further, which is no LF
goes_on : (n : ℕ) (all rest into : Text) (start room later b : ℕ) → Goes n all (b ∷ rest) into start room → b ≢ 10 → later + 1 ≡ room → Goes n all rest (kept_with n into b) start later
goes_on n all rest into start room later b goes other less = record {
  front = goes.front ++ b ∷ [];
  split = goes.split ∙ sym (append_assoc goes.front (b ∷ []) rest);
  within = within-more goes.front b goes.within other;
  kept = kept_more n goes.front into b _ refl goes.kept;
  spent = omega (arith, goes.spent, less, length-append goes.front (b ∷ []));
}

pub told_on : (n : ℕ) (told now new : Option Text) (into kept : Text) (start room later b : ℕ) → GoesIfTold n told now into start room → now ≡ option_map (λ bytes. b ∷ bytes) new → b ≢ 10 → later + 1 ≡ room → kept ≡ kept_with n into b → GoesIfTold n told new kept start later
told_on n None now new into kept start room later b goes is other less keeps = tt
told_on n (Some all) None new into kept start room later b goes is other less keeps = absurd goes
told_on n (Some all) (Some rest) None into kept start room later b goes is other less keeps = absurd (cc)
told_on n (Some all) (Some rest) (Some more) into kept start room later b goes is other less keeps =
    rw keeps (goes_on n all more into start room later b (let P : Text → Type 0 = λ t. Goes n all t into start room in subst P (same_Some _ _ is) goes) other less)

-- ---- answers

-- the bytes that went by are the line
pub front_line : (all front rest : Text) → all ≡ front ++ rest → IsWithinLine front → line_of rest ≡ [] → line_of all ≡ front
front_line all front rest split within none = ap line_of split ∙ line_of-front front rest within ∙ ap (λ more. front ++ more) none ∙ append-nil front

pub front_size : (all front rest : Text) → all ≡ front ++ rest → IsWithinLine front → line_size all ≡ length front + line_size rest
front_size all front rest split within = ap line_size split ∙ line_size-front front rest within

pub front_after : (all front rest : Text) → all ≡ front ++ rest → IsWithinLine front → after_line all ≡ after_line rest
front_after all front rest split within = ap after_line split ∙ after_line-front front rest within

short : (n : ℕ) (line into : Text) → into ≡ take (n + 1) line → length into < n + 1 → length line ≤ n
short n line into is less = omega (arith, ap length is, length-take (n + 1) line)

long : (n : ℕ) (line into : Text) → into ≡ take (n + 1) line → n + 1 ≤ length into → n < length line
long n line into is less = omega (arith, ap length is, length-take (n + 1) line)

-- the answer by how much was kept
ended_answers : (t : Bool) (e : LineEnd) (bytes into : Text) (room left : ℕ) (later : Option Text) → t ≡ nat_lt (length into) 1048577 → e ≡ cond t Line TooLong → TakesLine bytes room into later left → Answers (Ok e) bytes room into later left
ended_answers true e bytes into room left later is same takes = rw same (takes, short 1048576 _ into takes.kept (grind (arith, nat_tests)))
ended_answers false e bytes into room left later is same takes = rw same (takes, long 1048576 _ into takes.kept (grind (arith, nat_tests)))

pub told_err : (r : Result LineEnd LinesFault) (e : LinesFault) (told now new : Option Text) (into : Text) (start room left : ℕ) → r ≡ Err e → GoesIfTold 1048577 told now into start room → Steps (Err e) now room new left → IfSome told (λ bytes. Answers r bytes start into new left)
told_err r e None now new into start room left is goes step = tt
told_err r e (Some all) None new into start room left is goes step = absurd goes
told_err r Memory (Some all) (Some rest) new into start room left is goes step = rw is tt
told_err r ReadFault (Some all) (Some rest) new into start room left is goes step =
    rw is (record { front = goes.front; rest = rest; split = goes.split; within = goes.within; told = step })
told_err r TooMuch (Some all) (Some rest) new into start room left is goes step =
    rw is (omega (arith, goes.spent, step.0, line_size-length rest step.1, front_size all goes.front rest goes.split goes.within))

pub told_last : (e : LineEnd) (told now new : Option Text) (into : Text) (start room left : ℕ) → GoesIfTold 1048577 told now into start room → Steps (Ok None) now room new left → left ≢ start → room ≤ start → e ≡ cond (nat_lt (length into) 1048577) Line TooLong → IfSome told (λ bytes. Answers (Ok e) bytes start into new left)
told_last e None now new into start room left goes step other within is = tt
told_last e (Some all) None new into start room left goes step other within is = absurd goes
told_last e (Some all) (Some rest) new into start room left goes step other within is =
    let nothing : line_size rest ≡ 0 = ap line_size step.2 in
    let size = front_size all goes.front rest goes.split goes.within in
    ended_answers _ e all into start left new refl is (record {
      some = omega (arith, goes.spent, step.0);
      kept = goes.kept ∙ ap (take 1048577) (sym (front_line all goes.front rest goes.split goes.within (ap line_of step.2)));
      rest = step.1 ∙ ap Some (step.2 ∙ sym (front_after all goes.front rest goes.split goes.within ∙ ap after_line step.2));
      spent = omega (arith, goes.spent, step.0);
    })

pub told_line : (e : LineEnd) (told now new : Option Text) (into : Text) (start room left b : ℕ) → GoesIfTold 1048577 told now into start room → Steps (Ok (Some b)) now room new left → b ≡ 10 → room ≤ start → e ≡ cond (nat_lt (length into) 1048577) Line TooLong → IfSome told (λ bytes. Answers (Ok e) bytes start into new left)
told_line e None now new into start room left b goes step lf within is = tt
told_line e (Some all) None new into start room left b goes step lf within is = absurd goes
told_line e (Some all) (Some rest) None into start room left b goes step lf within is = absurd (cc)
told_line e (Some all) (Some rest) (Some more) into start room left b goes step lf within is =
    let begins : rest ≡ 10 ∷ more = same_Some _ _ step.1 ∙ ap (λ x. x ∷ more) lf in
    let one : line_size rest ≡ 1 = ap line_size begins in
    let size = front_size all goes.front rest goes.split goes.within in
    ended_answers _ e all into start left (Some more) refl is (record {
      some = omega (arith, size, one);
      kept = goes.kept ∙ ap (take 1048577) (sym (front_line all goes.front rest goes.split goes.within (ap line_of begins)));
      rest = ap Some (sym (front_after all goes.front rest goes.split goes.within ∙ ap after_line begins));
      spent = omega (arith, goes.spent, step.0, size, one);
    })

-- ---- the end of input

-- at a line with its LF
met_by : (t : Bool) (e : LineEnd) (bytes : Text) (before after : Bool) → e ≡ cond t Line TooLong → after ≡ before → HasLineFeed bytes → MeetsEnd (Ok e) bytes before after
met_by true e bytes before after is same ended = rw is (λ other. (sym same ∙ other, ended))
met_by false e bytes before after is same ended = rw is (λ other. (sym same ∙ other, ended))

pub met_line : (e : LineEnd) (n : ℕ) (told now new : Option Text) (into : Text) (start room left b : ℕ) (before after : Bool) → GoesIfTold n told now into start room → Steps (Ok (Some b)) now room new left → b ≡ 10 → e ≡ cond (nat_lt (length into) 1048577) Line TooLong → after ≡ before → IfSome told (λ bytes. MeetsEnd (Ok e) bytes before after)
met_line e n None now new into start room left b before after goes step lf is same = tt
met_line e n (Some all) None new into start room left b before after goes step lf is same = absurd goes
met_line e n (Some all) (Some rest) None into start room left b before after goes step lf is same = absurd (cc)
met_line e n (Some all) (Some rest) (Some more) into start room left b before after goes step lf is same =
    let begins : rest ≡ 10 ∷ more = same_Some _ _ step.1 ∙ ap (λ x. x ∷ more) lf in
    let one : line_size rest ≡ 1 = ap line_size begins in
    let line = ap length (front_line all goes.front rest goes.split goes.within (ap line_of begins)) in
    met_by _ e all before after is same (omega (arith, line, one, front_size all goes.front rest goes.split goes.within))
