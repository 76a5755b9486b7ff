-- A line that is appended whole, byte by byte: what a loop over the bytes knows, and what it answers.
use Rattle.std.proofs.Common.{◌≡◌, ◌≢◌, ◌≤◌, ◌+◌, ◌++◌, true, false, Bool, ℕ, [], ◌∷◌, Option, Some, None, Result, Ok, Err, IfSome, option_map, length, refl, sym, ap, append-nil, ◌∙◌, append_assoc, arith}
use Rattle.std.proofs.lemmas.Option.{same_Some}
use Rattle.std.proofs.lemmas.List.{length-append}
use Rattle.zw_def.specs.Text.{Text}
use Rattle.zw_def.specs.Line.{line_of, after_line, line_size, IsWithinLine}
use Rattle.zw_io.specs.LineAnswers.{Steps}
use Rattle.zw_io.specs.NextLines.{AnswersOne, MeetsOne}
use Rattle.zw_io.specs.declared.lines.LinesFault.{LinesFault}
use Rattle.zw_io.specs.declared.lines.LinesFault.TheVariants.{ReadFault, TooMuch, Memory}
use Rattle.zw_def.proofs.LineLemmas.{line_size-length, within-more}
use Rattle.zw_io.proofs.LineStepLemmas.{front_line, front_size, front_after}

-- a front with no LF has gone by, and stands behind what `into` had
pub record Comes (all rest had into : Text) (start room : ℕ) : Type 0 where
  pub front : Text
  pub split : all ≡ front ++ rest
  pub within : IsWithinLine front
  pub kept : into ≡ had ++ front
  pub spent : room + length front ≡ start

-- the same of what is told
abbrev pub ComesIfTold : Option Text → Option Text → Text → Text → ℕ → ℕ → Type 0
ComesIfTold None now had into start room = Unit {0}
ComesIfTold (Some all) None had into start room = ⊥
ComesIfTold (Some all) (Some rest) had into start room = Comes all rest had into start room

-- no byte has gone by
pub comes_first : (told now : Option Text) (had into : Text) (start room : ℕ) → now ≡ told → into ≡ had → room ≡ start → ComesIfTold told now had into start room
comes_first None now had into start room same kept is = tt
comes_first (Some all) None had into start room same kept is = absurd (cc)
comes_first (Some all) (Some rest) had into start room same kept is = record {
  front = [];
  split = sym (same_Some _ _ same);
  within = refl;
  kept = kept ∙ sym (append-nil had);
  spent = omega (arith, is);
}

-- one byte further, which is no LF
pub comes_on : (told now new : Option Text) (had into kept : Text) (start room later b : ℕ) → ComesIfTold told now had into start room → now ≡ option_map (λ bytes. b ∷ bytes) new → b ≢ 10 → later + 1 ≡ room → kept ≡ into ++ b ∷ [] → ComesIfTold told new had kept start later
comes_on None now new had into kept start room later b goes is other less keeps = tt
comes_on (Some all) None new had into kept start room later b goes is other less keeps = absurd goes
comes_on (Some all) (Some rest) None had into kept start room later b goes is other less keeps = absurd (cc)
comes_on (Some all) (Some rest) (Some more) had into kept start room later b goes is other less keeps = record {
  front = goes.front ++ b ∷ [];
  split = goes.split ∙ ap (λ r. goes.front ++ r) (same_Some _ _ is) ∙ sym (append_assoc goes.front (b ∷ []) more);
  within = within-more goes.front b goes.within other;
  kept = keeps ∙ ap (λ r. r ++ b ∷ []) goes.kept ∙ append_assoc had goes.front (b ∷ []);
  spent = omega (arith, goes.spent, less, length-append goes.front (b ∷ []));
}

-- ---- answers

-- the byte after what went by, and the LF behind it
kept_line : (all had into new front : Text) → into ≡ had ++ front → new ≡ into ++ 10 ∷ [] → line_of all ≡ front → new ≡ had ++ (line_of all ++ 10 ∷ [])
kept_line all had into new front kept more line =
    more ∙ ap (λ r. r ++ 10 ∷ []) kept ∙ append_assoc had front (10 ∷ []) ∙ ap (λ r. had ++ (r ++ 10 ∷ [])) (sym line)

-- where a byte could not be taken
pub one_err : (r : Result Bool LinesFault) (e : LinesFault) (told now new : Option Text) (had into : Text) (start room left : ℕ) → r ≡ Err e → ComesIfTold told now had into start room → Steps (Err e) now room new left → (kept : Text) → IfSome told (λ bytes. AnswersOne r bytes start had kept new left)
one_err r e None now new had into start room left is goes step kept = tt
one_err r e (Some all) None new had into start room left is goes step kept = absurd goes
one_err r Memory (Some all) (Some rest) new had into start room left is goes step kept = rw is tt
one_err r ReadFault (Some all) (Some rest) new had into start room left is goes step kept =
    rw is (record { front = goes.front; rest = rest; split = goes.split; within = goes.within; told = step })
one_err r TooMuch (Some all) (Some rest) new had into start room left is goes step kept =
    rw is (omega (arith, goes.spent, step.0, line_size-length rest step.1, front_size all goes.front rest goes.split goes.within))

-- at the end of input, where no byte went by
pub one_none : (told now new : Option Text) (had into : Text) (start room left : ℕ) → ComesIfTold told now had into start room → Steps (Ok None) now room new left → left ≡ start → room ≤ start → IfSome told (λ bytes. AnswersOne (Ok false) bytes start had into new left)
one_none None now new had into start room left goes step same within = tt
one_none (Some all) None new had into start room left goes step same within = absurd goes
one_none (Some all) (Some rest) new had into start room left goes step same within =
    let nothing : goes.front ≡ [] = empty goes.front (omega (arith, goes.spent, step.0)) in
    (goes.split ∙ ap (λ f. f ++ rest) nothing ∙ step.2, goes.kept ∙ ap (λ f. had ++ f) nothing ∙ append-nil had, step.1 ∙ ap Some step.2, same)
  where
    empty : (t : Text) → length t ≡ 0 → t ≡ []
    empty [] h = refl
    empty (b ∷ bs) h = absurd (omega (arith, h))

-- at the end of input, behind some bytes
pub one_last : (told now new : Option Text) (had into kept : Text) (start room left : ℕ) → ComesIfTold told now had into start room → Steps (Ok None) now room new left → left ≢ start → room ≤ start → kept ≡ into ++ 10 ∷ [] → IfSome told (λ bytes. AnswersOne (Ok true) bytes start had kept new left)
one_last None now new had into kept start room left goes step other within is = tt
one_last (Some all) None new had into kept start room left goes step other within is = absurd goes
one_last (Some all) (Some rest) new had into kept start room left goes step other within is =
    let nothing : line_size rest ≡ 0 = ap line_size step.2 in
    let size = front_size all goes.front rest goes.split goes.within in
    record {
      some = omega (arith, goes.spent, step.0);
      kept = kept_line all had into kept goes.front goes.kept is (front_line all goes.front rest goes.split goes.within (ap line_of step.2));
      rest = step.1 ∙ ap Some (step.2 ∙ sym (front_after all goes.front rest goes.split goes.within ∙ ap after_line step.2));
      spent = omega (arith, goes.spent, step.0);
    }

-- at an LF
pub one_line : (told now new : Option Text) (had into kept : Text) (start room left b : ℕ) → ComesIfTold told now had into start room → Steps (Ok (Some b)) now room new left → b ≡ 10 → kept ≡ into ++ 10 ∷ [] → IfSome told (λ bytes. AnswersOne (Ok true) bytes start had kept new left)
one_line None now new had into kept start room left b goes step lf is = tt
one_line (Some all) None new had into kept start room left b goes step lf is = absurd goes
one_line (Some all) (Some rest) None had into kept start room left b goes step lf is = absurd (cc)
one_line (Some all) (Some rest) (Some more) had into kept start room left b goes step lf is =
    let begins : rest ≡ 10 ∷ more = same_Some _ _ step.1 ∙ ap (λ x. x ∷ more) lf in
    let one : line_size rest ≡ 1 = ap line_size begins in
    let size = front_size all goes.front rest goes.split goes.within in
    record {
      some = omega (arith, size, one);
      kept = kept_line all had into kept goes.front goes.kept is (front_line all goes.front rest goes.split goes.within (ap line_of begins));
      rest = ap Some (sym (front_after all goes.front rest goes.split goes.within ∙ ap after_line begins));
      spent = omega (arith, goes.spent, step.0, size, one);
    }

-- ---- the end of input

pub met_one : (told now new : Option Text) (had into : Text) (start room left b : ℕ) (before after : Bool) → ComesIfTold told now had into start room → Steps (Ok (Some b)) now room new left → b ≡ 10 → after ≡ before → IfSome told (λ bytes. MeetsOne (Ok true) bytes before after)
met_one None now new had into start room left b before after goes step lf same = tt
met_one (Some all) None new had into start room left b before after goes step lf same = absurd goes
met_one (Some all) (Some rest) None had into start room left b before after goes step lf same = absurd (cc)
met_one (Some all) (Some rest) (Some more) had into start room left b before after goes step lf same =
    let begins : rest ≡ 10 ∷ more = same_Some _ _ step.1 ∙ ap (λ x. x ∷ more) lf in
    let one : line_size rest ≡ 1 = ap line_size begins in
    let line = ap length (front_line all goes.front rest goes.split goes.within (ap line_of begins)) in
    λ other. (sym same ∙ other, omega (arith, line, one, front_size all goes.front rest goes.split goes.within))
