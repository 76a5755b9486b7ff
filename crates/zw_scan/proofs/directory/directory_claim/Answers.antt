use Rattle.std.proofs.Common.{Some, Ok, Err, sym, ◌∙◌}
use Rattle.std.proofs.lemmas.Result.{IfOk-weaker}
use Rattle.zw_def.specs.Names.{texts_of}
use Rattle.zw_inflect.specs.Layout.{layout_seen}
use Rattle.zw_layout.specs.Expects.{wrong_seen}
use Rattle.zw_scan.proofs.ClaimLemmas.{directory_hidden, directory_shown}
use Rattle.zw_scan.proofs.directory.directory_claim.Goals as goal

pub returns-then-is_collapsed-clause-told : goal.returns-then-is_collapsed-clause-told
returns-then-is_collapsed-clause-told c later grows =
    sym (directory_hidden (layout_seen later c.args.layout.now) c.args.directory.now (sym (c.is_collapsed.ensures later) ∙ c.if-is_collapsed.true))

pub returns-in-Ok-Some-clause-told : goal.returns-in-Ok-Some-clause-told
returns-in-Ok-Some-clause-told c =
    let told = rw c.in-Ok-Some.field-0-is at c.in-Ok-Some.ensures.told in
    IfOk-weaker c.with_path.result _ _ (λ claim is later grows.
    is later ∙ sym (directory_shown (layout_seen later c.args.layout.now) c.args.directory.now (Some (Ok (texts_of later c.in-Ok-Some.expected))) (sym (c.is_collapsed.ensures later) ∙ c.if-is_collapsed.false) (told later grows)))
    c.with_path.ensures.told

pub returns-in-Err-Refused-clause-told : goal.returns-in-Err-Refused-clause-told
returns-in-Err-Refused-clause-told c =
    let told = rw c.in-Err-Refused.field-0-is at c.in-Err-Refused.ensures.told in
    IfOk-weaker c.with_path-in-Err-Refused.result _ _ (λ claim is later grows.
    is later ∙ sym (directory_shown (layout_seen later c.args.layout.now) c.args.directory.now (Some (Err (wrong_seen c.in-Err-Refused.wrong))) (sym (c.is_collapsed.ensures later) ∙ c.if-is_collapsed.false) (told later grows)))
    c.with_path-in-Err-Refused.ensures.told
