use Rattle.std.proofs.Common.{◌≡◌, ◌+◌, ◌-◌, Some, Ok, length, take, string_bytes, ap, sym, subst, ◌∙◌, arith}
use Rattle.std.proofs.lemmas.List.{length-map, take_all}
use Rattle.zw_def.specs.Expected.{named}
use Rattle.zw_def.specs.Names.{texts_of}
use Rattle.zw_def.proofs.NameLemmas.{OnlyGrows-trans, AreNamed-grown, texts_of-grown}
use Rattle.zw_inflect.specs.Layout.{layout_seen, root_seen}
use Rattle.zw_layout.specs.Expects.{Tells}
use Rattle.zw_layout.proofs.DeepestLemmas.{below_front}
use Rattle.zw_layout.proofs.ExpectedLemmas.{file_below, file_named, file_unnamed, any_fault, root_named, namespaces_grown, file_later, err_is}
use Rattle.zw_layout.proofs.expected.expected_path.Goals as goal

pub namespace_at-requires-clause-root : goal.namespace_at-requires-clause-root
namespace_at-requires-clause-root c = (below_front c.args.path.now c.in-Some.root.now.path c.in-Some.ensures.below).1

pub namespace_at-requires-clause-begins : goal.namespace_at-requires-clause-begins
namespace_at-requires-clause-begins c =
    omega (arith, (below_front c.args.path.now c.in-Some.root.now.path c.in-Some.ensures.below).0, ap length c.components-end.ensures.value, length-map c.components-end.result.now (λ s. string_bytes s))

pub returns-in_err-namespace-clause-told : goal.returns-in_err-namespace-clause-told
returns-in_err-namespace-clause-told c later grows =
    let path = c.args.path.now in
    let names = c.namespace_at.new.names in
    let n = length c.components-end.result.now - 1 in
    let below = below_front path c.in-Some.root.now.path c.in-Some.ensures.below in
    let size : n + 1 ≡ length path = omega (arith, below.0, ap length c.components-end.ensures.value, length-map c.components-end.result.now (λ s. string_bytes s)) in
    let layout = layout_seen names c.args.layout.now in
    let fault = c.in_err-namespace.field-0.0 in
    let told = file_unnamed fault names c.args.layout.now c.in-Some.root.now path n size c.in_err-namespace.ensures.told in
    let is = err_is c.from_residual.result fault c.from_residual.ensures.1 in
    let known = namespaces_grown c.args.names.now names c.args.layout.now c.in_err-namespace.ensures.grows c.requires in
    let below = file_below layout (root_seen names c.in-Some.root.now) path (c.in-Some.ensures.root names) in
    any_fault later c.from_residual.result fault _ _ is (file_later names later c.args.layout.now path grows known ∙ below) told

pub returns-in_err-push_name-clause-told : goal.returns-in_err-push_name-clause-told
returns-in_err-push_name-clause-told c later grows =
    let path = c.args.path.now in
    let mid = c.namespace_at.new.names in
    let names = c.push_name.new.names in
    let n = length c.components-end.result.now - 1 in
    let below = below_front path c.in-Some.root.now.path c.in-Some.ensures.below in
    let size : n + 1 ≡ length path = omega (arith, below.0, ap length c.components-end.ensures.value, length-map c.components-end.result.now (λ s. string_bytes s)) in
    let layout = layout_seen names c.args.layout.now in
    let known = AreNamed-grown c.args.names.now mid c.in-Some.root.now.namespace c.in_ok-namespace.ensures.grows (root_named c.args.names.now c.args.layout.now c.in-Some.root.now c.requires c.in-Some.ensures.among) in
    let p = texts_of mid c.in_ok-namespace.namespace in
    let whole = file_named mid names c.args.layout.now c.in-Some.root.now path n p c.in_err-push_name.ensures.grows known size c.in_ok-namespace.ensures.told in
    let fault = c.in_err-push_name.field-0.0 in
    let all = take_all (length c.components-end.result.now) path (omega (arith, ap length c.components-end.ensures.value, length-map c.components-end.result.now (λ s. string_bytes s))) in
    let told : Tells fault (named layout c.base.result.now (take (length c.components-end.result.now) path) p) = c.in_err-push_name.ensures.told in
    let here = (λ i. named layout (c.base.ensures i) (all i) p) ∙ sym whole in
    let is = err_is c.from_residual-in_err-push_name.result fault c.from_residual-in_err-push_name.ensures.1 in
    let all_named = namespaces_grown c.args.names.now names c.args.layout.now (OnlyGrows-trans _ _ _ c.in_ok-namespace.ensures.grows c.in_err-push_name.ensures.grows) c.requires in
    let there = file_below layout (root_seen names c.in-Some.root.now) path (c.in-Some.ensures.root names) in
    any_fault later c.from_residual-in_err-push_name.result fault _ _ is (file_later names later c.args.layout.now path grows all_named ∙ there) (subst (Tells fault) here told)

pub returns-clause-told : goal.returns-clause-told
returns-clause-told c later grows =
    let path = c.args.path.now in
    let mid = c.namespace_at.new.names in
    let names = c.push_name.new.names in
    let n = length c.components-end.result.now - 1 in
    let below = below_front path c.in-Some.root.now.path c.in-Some.ensures.below in
    let size : n + 1 ≡ length path = omega (arith, below.0, ap length c.components-end.ensures.value, length-map c.components-end.result.now (λ s. string_bytes s)) in
    let layout = layout_seen names c.args.layout.now in
    let known = AreNamed-grown c.args.names.now mid c.in-Some.root.now.namespace c.in_ok-namespace.ensures.grows (root_named c.args.names.now c.args.layout.now c.in-Some.root.now c.requires c.in-Some.ensures.among) in
    let p = texts_of mid c.in_ok-namespace.namespace in
    let whole = file_named mid names c.args.layout.now c.in-Some.root.now path n p c.in_ok-push_name.ensures.grows known size c.in_ok-namespace.ensures.told in
    let all = take_all (length c.components-end.result.now) path (omega (arith, ap length c.components-end.ensures.value, length-map c.components-end.result.now (λ s. string_bytes s))) in
    let told : named layout c.base.result.now (take (length c.components-end.result.now) path) p ≡ Ok (texts_of names c.push_name.new.namespace) = c.in_ok-push_name.ensures.told in
    let all_named = namespaces_grown c.args.names.now names c.args.layout.now (OnlyGrows-trans _ _ _ c.in_ok-namespace.ensures.grows c.in_ok-push_name.ensures.grows) c.requires in
    let same = texts_of-grown names later c.push_name.new.namespace grows c.in_ok-push_name.ensures.named in
    file_later names later c.args.layout.now path grows all_named
    ∙ file_below layout (root_seen names c.in-Some.root.now) path (c.in-Some.ensures.root names)
    ∙ ap Some (whole ∙ (λ i. named layout (sym c.base.ensures i) (sym all i) p) ∙ told ∙ ap Ok (sym same))
