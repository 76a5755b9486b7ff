use Rattle.std.proofs.Common.{◌≡◌, ◌<ℤ◌, chars, length, pos, FitsSigned, ap, sym, ◌∙◌, arith, rules}
use Rattle.std.specs.Int.{w64}
use Rattle.std.proofs.lemmas.Int.{ints, to_z-of_z}
use Rattle.zw_def_world.specs.Making.{makes_text}
use Rattle.zw_def_world.specs.StringRows.{place_in}
use Rattle.zw_strings.proofs.PartLemmas.{characters-negative, characters-none, characters-past, characters-some}
use Rattle.zw_strings.proofs.WorkLemmas.{same_left}
use Rattle.zw_strings.proofs.parts.characters_at.Goals as goal

pub returns-in_default : goal.returns-in_default
returns-in_default c = λ h names.
    let cs = chars c.args.text.now in
    let low : c.args.count <ℤ pos 0 = grind (arith, ints, c.in_default.ensures) in
    same_left h names _ _ (λ s I fit. characters-negative (place_in c.args.place (length cs)) c.args.count cs low) c.nothing.result (c.nothing.ensures h names)

pub returns-in_default-place_in : goal.returns-in_default-place_in
returns-in_default-place_in c = λ h names.
    let cs = chars c.args.text.now in
    let fits_place : FitsSigned w64 c.args.place = c.ranges.place in
    let is : c.args.count ≡ pos c.in-Ok.count = search rules in
    same_left h names _ _ (λ s I fit. characters-none c.args.place c.size-size.result cs c.size-size.ensures.value c.place_in.result (simp to_z-of_z at c.place_in.ensures) c.args.count c.in-Ok.count is c.in_default-place_in.is)
    c.nothing-in_default-place_in.result (c.nothing-in_default-place_in.ensures h names)

pub returns-then-place-size : goal.returns-then-place-size
returns-then-place-size c = λ h names.
    let cs = chars c.args.text.now in
    let fits_place : FitsSigned w64 c.args.place = c.ranges.place in
    let is : c.args.count ≡ pos c.in-Ok.count = search rules in
    same_left h names _ _ (λ s I fit. characters-past c.args.place c.size-size.result cs c.size-size.ensures.value c.place_in.result (simp to_z-of_z at c.place_in.ensures) c.args.count c.in-Ok.count is c.in-Some.place c.in-Some.is c.if-place-size.true)
    c.nothing-then-place-size.result (c.nothing-then-place-size.ensures h names)

pub returns : goal.returns
returns c = λ h names.
    let cs = chars c.args.text.now in
    let fits_place : FitsSigned w64 c.args.place = c.ranges.place in
    let is : c.args.count ≡ pos c.in-Ok.count = search rules in
    record {
      told = λ s I fit.
          characters-some c.args.place c.size-size.result cs c.size-size.ensures.value c.place_in.result (simp to_z-of_z at c.place_in.ensures) c.args.count c.in-Ok.count is c.in-Some.place c.in-Some.is c.if-place-size.false
          ∙ ap makes_text (sym c.in_ok-part.ensures);
      settled = tt;
    }
