use Rattle.std.proofs.Common.{Ok, Err, ap, sym, subst, ◌∙◌}
use Rattle.std.proofs.lemmas.Result.{IfOk-weaker}
use Rattle.zw_def_session.specs.Answers as defined
use Rattle.zw_layout.specs.Expects.{ExpectsAny}
use Rattle.zw_map.specs.Expected.{expected_of}
use Rattle.zw_view.proofs.ViewLemmas.{expects_in, view_grown}
use Rattle.zw_view.proofs.view.View.expect.Goals as goal

pub returns-in-Ok-None-clause-kept : goal.returns-in-Ok-None-clause-kept
returns-in-Ok-None-clause-kept c layout tree is = view_grown layout tree c.args.self.now c.expected.new.names c.expected.ensures.grows is

pub returns-in-Ok-Some-clause-kept : goal.returns-in-Ok-Some-clause-kept
returns-in-Ok-Some-clause-kept c layout tree is = view_grown layout tree c.args.self.now c.expected.new.names c.expected.ensures.grows is

pub returns-in-Err-Refused-clause-kept : goal.returns-in-Err-Refused-clause-kept
returns-in-Err-Refused-clause-kept c layout tree is = view_grown layout tree c.args.self.now c.expected.new.names c.expected.ensures.grows is

pub returns-in-Err-Memory-clause-kept : goal.returns-in-Err-Memory-clause-kept
returns-in-Err-Memory-clause-kept c layout tree is = view_grown layout tree c.args.self.now c.expected.new.names c.expected.ensures.grows is

pub returns-in-Ok-None-clause-told : goal.returns-in-Ok-None-clause-told
returns-in-Ok-None-clause-told c = IfOk-weaker c.from_str.result _ _ (λ line is layout tree view.
    let names = c.expected.new.names in
    let told = expects_in layout tree c.args.self.now names c.args.path.now _ c.expected.ensures.grows view c.expected.ensures.told in
    is ∙ ap defined.expect_line (sym (subst (λ r. ExpectsAny names r (expected_of layout tree c.args.path.now)) (c.in-Ok-None.is ∙ ap Ok c.in-Ok-None.field-0-is) told)))
    c.from_str.ensures.ok

pub returns-in-Ok-Some-clause-told : goal.returns-in-Ok-Some-clause-told
returns-in-Ok-Some-clause-told c = IfOk-weaker c.expected_line.result _ _ (λ line is layout tree view.
    let names = c.expected.new.names in
    let told = expects_in layout tree c.args.self.now names c.args.path.now _ c.expected.ensures.grows view c.expected.ensures.told in
    is ∙ ap defined.expect_line (sym (subst (λ r. ExpectsAny names r (expected_of layout tree c.args.path.now)) (c.in-Ok-Some.is ∙ ap Ok c.in-Ok-Some.field-0-is) told)))
    c.expected_line.ensures

pub returns-in-Err-Refused-clause-told : goal.returns-in-Err-Refused-clause-told
returns-in-Err-Refused-clause-told c = IfOk-weaker c.wrong_name_line.result _ _ (λ line is layout tree view.
    let names = c.expected.new.names in
    let told = expects_in layout tree c.args.self.now names c.args.path.now _ c.expected.ensures.grows view c.expected.ensures.told in
    is ∙ ap defined.expect_line (sym (subst (λ r. ExpectsAny names r (expected_of layout tree c.args.path.now)) (c.in-Err-Refused.is ∙ ap Err c.in-Err-Refused.field-0-is) told)))
    c.wrong_name_line.ensures
