use Rattle.std.proofs.Common.{◌≡◌, rules, true, Some, Err, sym, ◌∙◌}
use Rattle.std.proofs.lemmas.Result.{IfOk-weaker}
use Rattle.zw_inflect.specs.Layout.{layout_seen}
use Rattle.zw_layout.specs.Expects.{wrong_seen}
use Rattle.zw_scan.proofs.ClaimLemmas.{file_shown}
use Rattle.zw_scan.proofs.seen_file.seen_file.Goals as goal

pub returns-in-Err-Refused-clause-told : goal.returns-in-Err-Refused-clause-told
returns-in-Err-Refused-clause-told c =
    let told = rw c.in-Err-Refused.field-0-is at c.in-Err-Refused.ensures.told in
    let shown : c.in_ok-is_visible.field-0 ≡ true = search rules in
    IfOk-weaker c.with_path-in-Err-Refused.result _ _ (λ file is later grows.
    is later ∙ sym (file_shown (layout_seen later c.args.layout.now) c.args.path.now (Some (Err (wrong_seen c.in-Err-Refused.wrong))) (sym (c.in_ok-is_visible.ensures later) ∙ shown) (told later grows)))
    c.with_path-in-Err-Refused.ensures.told
