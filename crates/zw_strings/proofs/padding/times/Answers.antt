use Rattle.std.proofs.Common.{◌≡◌, ◌*◌, ◌<◌, ◌<ℤ◌, pos, codes, length, ap, sym, ◌∙◌, arith, rules}
use Rattle.std.proofs.lemmas.Int.{ints}
use Rattle.zw_def_world.specs.CoreClass.{ArgumentError}
use Rattle.zw_def_world.specs.Making.{fails, max_text, makes_text, too_long}
use Rattle.zw_def_world.specs.StringRows.{times}
use Rattle.zw_strings.proofs.PaddingLemmas.{times-negative, times-long, times-nothing, times-over}
use Rattle.zw_strings.proofs.WorkLemmas.{all_left}
use Rattle.zw_strings.proofs.padding.times.Goals as goal

pub returns-in_default : goal.returns-in_default
returns-in_default c = λ h names.
    let low : c.args.number <ℤ pos 0 = grind (arith, ints, c.in_default.ensures) in
    all_left h names (λ s I. fails ArgumentError (codes "argument must be non-negative")) (λ s I. times c.args.number c.args.text.now)
    (λ s I fit. times-negative c.args.number c.args.text.now low) c.negative.result (c.negative.ensures h names)

pub returns-then-is_empty : goal.returns-then-is_empty
returns-then-is_empty c = λ h names.
    let is : c.args.number ≡ pos c.in-Ok.count = search rules in
    let empty : length c.args.text.now ≡ 0 = grind arith in
    record { told = λ s I fit. times-nothing c.args.number c.in-Ok.count c.args.text.now is empty ∙ ap makes_text (sym c.new.ensures.bytes); settled = tt }

pub returns-then-count-text : goal.returns-then-count-text
returns-then-count-text c = λ h names.
    let is : c.args.number ≡ pos c.in-Ok.count = search rules in
    let some : 0 < length c.args.text.now = grind arith in
    let long : max_text < c.in-Ok.count * length c.args.text.now = times-over max_text (length c.args.text.now) c.in-Ok.count some c.if-count-text.true in
    all_left h names (λ s I. too_long) (λ s I. times c.args.number c.args.text.now)
    (λ s I fit. times-long c.args.number c.in-Ok.count c.args.text.now is long) c.too_long.result (c.too_long.ensures h names)
