-- Several lines that are appended, one after another: what a loop over the lines knows, and what it answers.
use Rattle.std.proofs.Common.{◌≡◌, ◌≤◌, ◌<◌, ◌+◌, ◌++◌, true, false, Bool, ℕ, zero, suc, [], ◌∷◌, Option, Some, None, Result, Ok, Err, IfSome, length, take, refl, sym, ap, append-nil, ◌∙◌, append_assoc, arith}
use Rattle.std.proofs.lemmas.Option.{same_Some}
use Rattle.zw_def.specs.Text.{Text}
use Rattle.zw_def.specs.Line.{line_of, after_line, line_size, whole_lines, HasLineFeed}
use Rattle.zw_io.specs.NextLines.{first_lines, after_lines, lines_size, with_feeds, AnswersOne, MeetsOne, AnswersLines, MeetsLines}
use Rattle.zw_io.specs.declared.lines.LinesFault.{LinesFault}
use Rattle.zw_io.specs.declared.lines.LinesFault.TheVariants.{ReadFault, TooMuch, Memory}
use Rattle.zw_def.proofs.LineLemmas.{lines_step, line_split, line_of-within, whole_lines-line, whole_lines-within}

-- ---- lines that stand whole

-- a line with its LF, and those that stand whole behind it
pub whole_first : (bytes : Text) → HasLineFeed bytes → length (whole_lines bytes) ≡ length (whole_lines (after_line bytes)) + 1
whole_first bytes feed = ap (λ b. length (whole_lines b)) (line_split bytes feed) ∙ ap length (whole_lines-line (line_of bytes) (after_line bytes) (line_of-within bytes)) ∙ omega arith

-- where a line stands whole, the first one does
pub whole_some : (bytes : Text) → 0 < length (whole_lines bytes) → HasLineFeed bytes
whole_some bytes some = by bytes some where
  by : (bs : Text) → 0 < length (whole_lines bs) → HasLineFeed bs
  by [] some = absurd (omega (arith, some))
  by (b ∷ bs) some = grind (arith, by bs)

-- ---- one line of several

pub first_more : (n : ℕ) (bytes : Text) → 0 < line_size bytes → first_lines (suc n) bytes ≡ line_of bytes ∷ first_lines n (after_line bytes)
first_more n bytes some = ap (take (suc n)) (lines_step bytes some)

pub first_none : (n : ℕ) → first_lines n [] ≡ []
first_none zero = refl
first_none (suc n) = refl

pub after_none : (n : ℕ) → after_lines n [] ≡ []
after_none zero = refl
after_none (suc n) = after_none n

pub size_none : (n : ℕ) → lines_size n [] ≡ 0
size_none zero = refl
size_none (suc n) = omega (arith, size_none n)

-- ---- the loop

-- of n lines k are taken, and m are still to be taken; until the end of input is met, those k stand whole
pub record Proceeds (n k m : ℕ) (all now had into : Text) (start room : ℕ) (before met : Bool) : Type 0 where
  pub lines : into ++ with_feeds (first_lines m now) ≡ had ++ with_feeds (first_lines n all)
  pub count : k + length (first_lines m now) ≡ length (first_lines n all)
  pub rest : after_lines m now ≡ after_lines n all
  pub size : room + lines_size n all ≡ start + lines_size m now
  pub gone : met ≡ false → (before ≡ false) × (front : Text) × (all ≡ front ++ now) × ((more : Text) → length (whole_lines (front ++ more)) ≡ k + length (whole_lines more))

abbrev pub ProceedsBy : ℕ → ℕ → ℕ → Option Text → Option Text → Text → Text → ℕ → ℕ → Bool → Bool → Type 0
ProceedsBy n k m None now had into start room before met = Unit {0}
ProceedsBy n k m (Some all) None had into start room before met = ⊥
ProceedsBy n k m (Some all) (Some now) had into start room before met = Proceeds n k m all now had into start room before met

abbrev pub ProceedsIfTold : ℕ → ℕ → Option Text → Option Text → Text → Text → ℕ → ℕ → Bool → Bool → Type 0
ProceedsIfTold n k told now had into start room before met =
    (m : ℕ) × (k + m ≡ n) × ProceedsBy n k m told now had into start room before met

pub begins : (n : ℕ) (told now : Option Text) (had into : Text) (start room : ℕ) (before met : Bool) → now ≡ told → into ≡ had → room ≡ start → met ≡ before → ProceedsIfTold n 0 told now had into start room before met
begins n None now had into start room before met same kept is ended = (n, omega arith, tt)
begins n (Some all) None had into start room before met same kept is ended = absurd (cc)
begins n (Some all) (Some now) had into start room before met same kept is ended =
    let e : now ≡ all = same_Some _ _ same in (
      n,
      omega arith,
      record {
        lines = (λ i. kept i ++ with_feeds (first_lines n (e i)));
        count = omega (arith, ap (λ b. length (first_lines n b)) e);
        rest = ap (after_lines n) e;
        size = (λ i. is i + lines_size n (sym e i));
        gone = λ more. (sym ended ∙ more, [], sym e, λ rest. omega arith);
      },
    )

-- one line further
on_by : (n k m : ℕ) (all now new had into kept : Text) (start room later : ℕ) (before met after : Bool) → Proceeds n k (suc m) all now had into start room before met
    → 0 < line_size now → kept ≡ into ++ (line_of now ++ 10 ∷ []) → new ≡ after_line now → later + line_size now ≡ room → (after ≡ false → (met ≡ false) × HasLineFeed now)
    → Proceeds n (k + 1) m all new had kept start later before after
on_by n k m all now new had into kept start room later before met after goes some keeps is spent ended =
    let step = first_more m now some in
    let more : first_lines m new ≡ first_lines m (after_line now) = ap (first_lines m) is in
    record {
      lines =
          ap (λ t. t ++ with_feeds (first_lines m new)) keeps ∙ append_assoc into (line_of now ++ 10 ∷ []) (with_feeds (first_lines m new))
          ∙ ap (λ t. into ++ t) (append_assoc (line_of now) (10 ∷ []) (with_feeds (first_lines m new)) ∙ ap (λ ls. line_of now ++ 10 ∷ with_feeds ls) more ∙ ap with_feeds (sym step))
          ∙ goes.lines;
      count = omega (arith, ap length step, ap length more, goes.count);
      rest = ap (after_lines m) is ∙ goes.rest;
      size = omega (arith, ap (lines_size m) is, goes.size, spent);
      gone = λ false.
          let feed = ended false in
          let past = goes.gone feed.0 in
          let line = line_split now feed.1 in (
            past.0,
            past.1 ++ (line_of now ++ 10 ∷ []),
            past.2 ∙ ap (λ t. past.1 ++ t) (line ∙ ap (λ t. line_of now ++ 10 ∷ t) (sym is) ∙ sym (append_assoc (line_of now) (10 ∷ []) new)) ∙ sym (append_assoc past.1 (line_of now ++ 10 ∷ []) new),
            λ rest.
                ap (λ t. length (whole_lines t)) (append_assoc past.1 (line_of now ++ 10 ∷ []) rest ∙ ap (λ t. past.1 ++ t) (append_assoc (line_of now) (10 ∷ []) rest))
                ∙ past.3 (line_of now ++ 10 ∷ rest) ∙ ap (λ ls. k + length ls) (whole_lines-line (line_of now) rest (line_of-within now)) ∙ omega arith,
          );
    }

pub goes_on : (n k : ℕ) (told now new : Option Text) (had into kept : Text) (start room later : ℕ) (before met after : Bool) → ProceedsIfTold n k told now had into start room before met → k < n
    → IfSome now (λ bytes. AnswersOne (Ok true) bytes room into kept new later) → IfSome now (λ bytes. MeetsOne (Ok true) bytes met after)
    → ProceedsIfTold n (k + 1) told new had kept start later before after
goes_on n k told now new had into kept start room later before met after (zero, sum, goes) less answers meets = absurd (omega (arith, sum, less))
goes_on n k None now new had into kept start room later before met after (suc m, sum, goes) less answers meets = (m, omega (arith, sum), tt)
goes_on n k (Some all) None new had into kept start room later before met after (suc m, sum, goes) less answers meets = absurd goes
goes_on n k (Some all) (Some now) None had into kept start room later before met after (suc m, sum, goes) less answers meets = absurd (let e : None ≡ Some (after_line now) = answers.rest in cc)
goes_on n k (Some all) (Some now) (Some new) had into kept start room later before met after (suc m, sum, goes) less answers meets =
    (m, omega (arith, sum), on_by n k m all now new had into kept start room later before met after goes answers.some answers.kept (same_Some _ _ answers.rest) answers.spent meets)

-- ---- answers

-- all n lines are taken
pub answers_all : (n k : ℕ) (told now : Option Text) (had into : Text) (start room : ℕ) (before met : Bool) → ProceedsIfTold n k told now had into start room before met → n ≤ k → IfSome told (λ bytes. AnswersLines n (Ok n) bytes start had into now room)
answers_all n k told now had into start room before met (suc m, sum, goes) all = absurd (omega (arith, sum, all))
answers_all n k None now had into start room before met (zero, sum, goes) all = tt
answers_all n k (Some bytes) None had into start room before met (zero, sum, goes) all = absurd goes
answers_all n k (Some bytes) (Some now) had into start room before met (zero, sum, goes) all = record {
  count = omega (arith, goes.count, sum);
  kept = sym (append-nil into) ∙ goes.lines;
  rest = ap Some goes.rest;
  spent = omega (arith, goes.size);
}

pub meets_all : (n k : ℕ) (told now : Option Text) (had into : Text) (start room : ℕ) (before met : Bool) → ProceedsIfTold n k told now had into start room before met → n ≤ k → IfSome told (λ bytes. MeetsLines n (Ok n) bytes before met)
meets_all n k None now had into start room before met goes all = tt
meets_all n k (Some bytes) None had into start room before met goes all = absurd goes.2
meets_all n k (Some bytes) (Some now) had into start room before met goes all = λ other.
    let past = goes.2.gone other in
    (past.0, omega (arith, all, ap (λ t. length (whole_lines t)) past.2, past.3 now))

-- the end of input is met before
pub answers_fewer : (n k : ℕ) (told now new : Option Text) (had into kept : Text) (start room later : ℕ) (before met : Bool) → ProceedsIfTold n k told now had into start room before met
    → IfSome now (λ bytes. AnswersOne (Ok false) bytes room into kept new later) → IfSome told (λ bytes. AnswersLines n (Ok k) bytes start had kept new later)
answers_fewer n k None now new had into kept start room later before met goes answers = tt
answers_fewer n k (Some bytes) None new had into kept start room later before met goes answers = absurd goes.2
answers_fewer n k (Some bytes) (Some now) new had into kept start room later before met (m, sum, goes) answers =
    let none : first_lines m now ≡ [] = ap (first_lines m) answers.0 ∙ first_none m in
    record {
      count = omega (arith, ap length none, goes.count);
      kept = answers.1 ∙ sym (append-nil into) ∙ ap (λ ls. into ++ with_feeds ls) (sym none) ∙ goes.lines;
      rest = answers.2 ∙ ap Some (sym (after_none m) ∙ ap (after_lines m) (sym answers.0) ∙ goes.rest);
      spent = omega (arith, goes.size, answers.3, ap (lines_size m) answers.0, size_none m);
    }

-- a line could not be taken
pub answers_err : (r : Result ℕ LinesFault) (e : LinesFault) (n k : ℕ) (told now new : Option Text) (had into kept : Text) (start room later : ℕ) (before met after : Bool) → r ≡ Err e → ProceedsIfTold n k told now had into start room before met → k < n
    → IfSome now (λ bytes. AnswersOne (Err e) bytes room into kept new later) → IfSome now (λ bytes. MeetsOne (Err e) bytes met after) → IfSome told (λ bytes. AnswersLines n r bytes start had kept new later)
answers_err r e n k told now new had into kept start room later before met after is (zero, sum, goes) less answers meets = absurd (omega (arith, sum, less))
answers_err r e n k None now new had into kept start room later before met after is (suc m, sum, goes) less answers meets = tt
answers_err r e n k (Some bytes) None new had into kept start room later before met after is (suc m, sum, goes) less answers meets = absurd goes
answers_err r Memory n k (Some bytes) (Some now) new had into kept start room later before met after is (suc m, sum, goes) less answers meets = rw is tt
answers_err r TooMuch n k (Some bytes) (Some now) new had into kept start room later before met after is (suc m, sum, goes) less answers meets =
    rw is (omega (arith, goes.size, answers))
answers_err r ReadFault n k (Some bytes) (Some now) new had into kept start room later before met after is (suc m, sum, goes) less answers meets =
    let past = goes.gone meets in
    rw is (record {
      front = past.1 ++ answers.front;
      rest = answers.rest;
      split = past.2 ∙ ap (λ t. past.1 ++ t) answers.split ∙ sym (append_assoc past.1 answers.front answers.rest);
      few = omega (arith, sum, past.3 answers.front, ap length (whole_lines-within answers.front answers.within));
      told = answers.told;
    })

pub meets_err : (r : Result ℕ LinesFault) (e : LinesFault) (n k : ℕ) (told now : Option Text) (had into : Text) (start room : ℕ) (before met after : Bool) → r ≡ Err e → ProceedsIfTold n k told now had into start room before met
    → IfSome now (λ bytes. MeetsOne (Err e) bytes met after) → IfSome told (λ bytes. MeetsLines n r bytes before after)
meets_err r e n k None now had into start room before met after is goes meets = tt
meets_err r e n k (Some bytes) None had into start room before met after is goes meets = absurd goes.2
meets_err r Memory n k (Some bytes) (Some now) had into start room before met after is goes meets = rw is tt
meets_err r TooMuch n k (Some bytes) (Some now) had into start room before met after is goes meets = rw is tt
meets_err r ReadFault n k (Some bytes) (Some now) had into start room before met after is goes meets = rw is ((goes.2.gone meets).0)

pub meets_fewer : (n k : ℕ) (told now : Option Text) (had into : Text) (start room : ℕ) (before met after : Bool) → ProceedsIfTold n k told now had into start room before met
    → IfSome now (λ bytes. MeetsOne (Ok false) bytes met after) → IfSome told (λ bytes. MeetsLines n (Ok k) bytes before after)
meets_fewer n k None now had into start room before met after goes meets = tt
meets_fewer n k (Some bytes) None had into start room before met after goes meets = absurd goes.2
meets_fewer n k (Some bytes) (Some now) had into start room before met after goes meets = λ other. absurd (let e : true ≡ false = sym meets ∙ other in cc)

-- ---- the bytes that are held

-- where more lines are to be taken and stand whole in them, the first one does
pub some_held : (n k : ℕ) (block : Text) → k < n → n ≤ k + length (whole_lines block) → HasLineFeed block
some_held n k block less whole = whole_some block (omega (arith, less, whole))

-- one line that stands whole in them less
pub held_on : (n k : ℕ) (block new : Text) → k < n → n ≤ k + length (whole_lines block) → new ≡ after_line block → n ≤ (k + 1) + length (whole_lines new)
held_on n k block new less whole is =
    omega (arith, less, whole, ap (λ t. length (whole_lines t)) is, whole_first block (whole_some block (omega (arith, less, whole))))
