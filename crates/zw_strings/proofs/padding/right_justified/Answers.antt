use Rattle.std.proofs.Common.{◌≡◌, ◌+◌, true, nat_lt, length, FitsSigned, ap, sym, ◌∙◌}
use Rattle.std.specs.Int.{w64}
use Rattle.std.proofs.lemmas.Int.{to_z-of_z}
use Rattle.zw_def_world.specs.Making.{max_text, too_long}
use Rattle.zw_def_world.specs.StringRows.{justified_right, padding}
use Rattle.zw_strings.proofs.PaddingLemmas.{unless-long}
use Rattle.zw_strings.proofs.WorkLemmas.{all_left}
use Rattle.zw_strings.proofs.padding.right_justified.Goals as goal

pub returns-then-is_too_long : goal.returns-then-is_too_long
returns-then-is_too_long c = λ h names.
    let t = c.args.text.now in
    let more = c.padding-more.result in
    let fits_width : FitsSigned w64 c.args.width = c.ranges.width in
    let is : more ≡ padding c.args.width t = simp to_z-of_z at c.padding-more.ensures in
    let long : nat_lt max_text (length t + more) ≡ true = sym c.is_too_long.ensures ∙ c.if-is_too_long.true in
    all_left h names (λ s I. too_long) (λ s I. justified_right (padding c.args.width t) t)
    (λ s I fit. ap (λ n. justified_right n t) (sym is) ∙ unless-long (length t + more) _ long)
    c.too_long.result (c.too_long.ensures h names)
