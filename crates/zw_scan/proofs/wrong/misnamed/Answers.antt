use Rattle.std.proofs.Common.{Some, None, cond, ap, sym, ◌∙◌}
use Rattle.zw_def.specs.Names.{texts_of}
use Rattle.zw_def.specs.Map.{Expecting}
use Rattle.zw_inflect.specs.Layout.{layout_seen, root_seen}
use Rattle.zw_layout.specs.Expects.{wrong_seen}
use Rattle.zw_scan.specs.ClaimSeen.{expected_seen, claim_seen}
use Rattle.zw_scan.specs.Wrong.{misnamed_in}
use Rattle.zw_scan.proofs.WrongLemmas.{misnamed_claim, misnamed_here}
use Rattle.zw_scan.proofs.wrong.misnamed.Goals as goal

pub returns-then-not-belongs_to-clause-told : goal.returns-then-not-belongs_to-clause-told
returns-then-not-belongs_to-clause-told c later grows =
    let layout = layout_seen later c.args.layout.now in
    let wrong = wrong_seen c.in-Err.wrong in
    sym (misnamed_claim layout (root_seen later c.args.root.now) (claim_seen later c.args.claim.now) wrong (ap (expected_seen later) c.in-Err.is)
    ∙ ap (λ b. cond b (misnamed_in layout c.args.claim.now.path wrong) None) (sym (c.belongs_to.ensures later) ∙ c.if-not-belongs_to.true))

pub returns-in-Ok-Some-clause-told : goal.returns-in-Ok-Some-clause-told
returns-in-Ok-Some-clause-told c later grows =
    let told = rw c.in-Ok-Some.field-0-is at c.in-Ok-Some.ensures.told in
    let found : Expecting → Expecting = λ f. f in
    ap (λ p. Some (found (record { path = p; names = texts_of later c.in-Ok-Some.namespace }))) c.in_ok-copy-in-Ok-Some.ensures
    ∙ sym (misnamed_here (layout_seen later c.args.layout.now) (root_seen later c.args.root.now) (claim_seen later c.args.claim.now) (wrong_seen c.in-Err.wrong) _ (ap (expected_seen later) c.in-Err.is) (sym (c.belongs_to.ensures later) ∙ c.if-not-belongs_to.false) (told later grows))

pub returns-in-Ok-None-clause-told : goal.returns-in-Ok-None-clause-told
returns-in-Ok-None-clause-told c later grows =
    let told = rw c.in-Ok-None.field-0-is at c.in-Ok-None.ensures.told in
    sym (misnamed_here (layout_seen later c.args.layout.now) (root_seen later c.args.root.now) (claim_seen later c.args.claim.now) (wrong_seen c.in-Err.wrong) None (ap (expected_seen later) c.in-Err.is) (sym (c.belongs_to.ensures later) ∙ c.if-not-belongs_to.false) (told later grows))

pub returns-in-Err-Refused-clause-told : goal.returns-in-Err-Refused-clause-told
returns-in-Err-Refused-clause-told c later grows =
    let told = rw c.in-Err-Refused.field-0-is at c.in-Err-Refused.ensures.told in
    sym (misnamed_here (layout_seen later c.args.layout.now) (root_seen later c.args.root.now) (claim_seen later c.args.claim.now) (wrong_seen c.in-Err.wrong) _ (ap (expected_seen later) c.in-Err.is) (sym (c.belongs_to.ensures later) ∙ c.if-not-belongs_to.false) (told later grows))
