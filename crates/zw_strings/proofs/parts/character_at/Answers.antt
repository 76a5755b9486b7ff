use Rattle.std.proofs.Common.{chars, FitsSigned, ap, sym, ◌∙◌}
use Rattle.std.specs.Int.{w64}
use Rattle.std.proofs.lemmas.Int.{to_z-of_z}
use Rattle.zw_def_world.specs.Making.{makes_text}
use Rattle.zw_strings.proofs.PartLemmas.{character-none, character-past, character-some}
use Rattle.zw_strings.proofs.WorkLemmas.{same_left}
use Rattle.zw_strings.proofs.parts.character_at.Goals as goal

pub returns-in_default : goal.returns-in_default
returns-in_default c = λ h names.
    let cs = chars c.args.text.now in
    let fits_place : FitsSigned w64 c.args.place = c.ranges.place in
    same_left h names _ _ (λ s I fit. character-none c.args.place c.size-size.result cs c.size-size.ensures.value c.place_in.result (simp to_z-of_z at c.place_in.ensures) c.in_default.is) c.nothing.result (c.nothing.ensures h names)

pub returns-then-place-size : goal.returns-then-place-size
returns-then-place-size c = λ h names.
    let cs = chars c.args.text.now in
    let fits_place : FitsSigned w64 c.args.place = c.ranges.place in
    same_left h names _ _ (λ s I fit. character-past c.args.place c.size-size.result cs c.size-size.ensures.value c.place_in.result (simp to_z-of_z at c.place_in.ensures) c.in-Some.place c.in-Some.is c.if-place-size.true) c.nothing-then-place-size.result (c.nothing-then-place-size.ensures h names)

pub returns : goal.returns
returns c = λ h names.
    let cs = chars c.args.text.now in
    let fits_place : FitsSigned w64 c.args.place = c.ranges.place in
    record {
      told = λ s I fit.
          character-some c.args.place c.size-size.result cs c.size-size.ensures.value c.place_in.result (simp to_z-of_z at c.place_in.ensures) c.in-Some.place c.in-Some.is c.if-place-size.false
          ∙ ap makes_text (sym c.in_ok-part.ensures);
      settled = tt;
    }
