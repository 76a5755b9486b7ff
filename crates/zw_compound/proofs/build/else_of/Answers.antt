use Rattle.std.proofs.Common.{rules, ◌∙◌}
use Rattle.zw_ast.specs.Grown.{all_seen}
use Rattle.zw_compound.proofs.ElseLemmas.{arms_go, arms_fail}
use Rattle.zw_compound.proofs.NamedLemmas.{arms_left}
use Rattle.zw_compound.proofs.build.else_of.Goals as goal

pub returns-in_err-other-clause-told : goal.returns-in_err-other-clause-told
returns-in_err-other-clause-told c =
    let names = c.args.maker.now.names.now in
    let none = arms_fail names _ _ _ (all_seen names c.arms.other.items) c.in-Some.ensures.items c.in_err-other.field-0.0 c.in_err-other.ensures.told in
    search (rules, none, c.arms.invariant.0)

pub arms-preserved : goal.arms-preserved
arms-preserved c =
    let names = c.args.maker.now.names.now in
    let goes = arms_go names _ _ _ (all_seen names c.arms.other.items) c.in-Some.ensures.items _ c.in_ok-other.ensures.told in
    (c.arms.invariant.0 ∙ goes, arms_left _ _ _ _ c.in-Some.ensures.items c.arms.invariant.1, c.in_ok-other.ensures.named)
