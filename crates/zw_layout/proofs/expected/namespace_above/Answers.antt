use Rattle.std.proofs.Common.{◌≡◌, ◌+◌, ◌-◌, Some, Ok, length, take, string_bytes, ap, sym, subst, ◌∙◌, arith}
use Rattle.std.proofs.lemmas.List.{length-map}
use Rattle.zw_def.specs.Nesting.{parent_of}
use Rattle.zw_def.specs.Expected.{namespace_of}
use Rattle.zw_def.proofs.NameLemmas.{texts_of-grown}
use Rattle.zw_inflect.specs.Layout.{layout_seen, root_seen}
use Rattle.zw_layout.specs.Expects.{Tells}
use Rattle.zw_layout.proofs.DeepestLemmas.{below_front}
use Rattle.zw_layout.proofs.ExpectedLemmas.{namespace_below, above_later, parent-front, namespaces_grown, any_fault, err_is}
use Rattle.zw_layout.proofs.expected.namespace_above.Goals as goal

pub namespace_at-requires-clause-root : goal.namespace_at-requires-clause-root
namespace_at-requires-clause-root c = (below_front c.args.path.now c.in-Some.root.now.path c.in-Some.ensures.below).1

pub namespace_at-requires-clause-begins : goal.namespace_at-requires-clause-begins
namespace_at-requires-clause-begins c =
    omega (arith, (below_front c.args.path.now c.in-Some.root.now.path c.in-Some.ensures.below).0, ap length c.components.ensures.value, length-map c.components.result.now (λ s. string_bytes s))

pub returns-in_err-namespace_at-clause-told : goal.returns-in_err-namespace_at-clause-told
returns-in_err-namespace_at-clause-told c later grows =
    let path = c.args.path.now in
    let names = c.namespace_at.new.names in
    let n = length c.components.result.now - 1 in
    let below = below_front path c.in-Some.root.now.path c.in-Some.ensures.below in
    let size : n + 1 ≡ length path = omega (arith, below.0, ap length c.components.ensures.value, length-map c.components.result.now (λ s. string_bytes s)) in
    let layout = layout_seen names c.args.layout.now in
    let known = namespaces_grown c.args.names.now names c.args.layout.now c.in_err-namespace_at.ensures.grows c.requires in
    let here = namespace_below layout (root_seen names c.in-Some.root.now) path (c.in-Some.ensures.root names) in
    let fault = c.in_err-namespace_at.field-0.0 in
    let told : Tells fault (namespace_of layout (root_seen names c.in-Some.root.now) (take n path)) = c.in_err-namespace_at.ensures.told in
    let is = err_is c.from_residual.result fault c.from_residual.ensures.1 in
    any_fault later c.from_residual.result fault _ _ is (above_later names later c.args.layout.now path grows known ∙ here) (subst (λ d. Tells fault (namespace_of layout (root_seen names c.in-Some.root.now) d)) (parent-front path n size) told)

pub returns-clause-told : goal.returns-clause-told
returns-clause-told c later grows =
    let path = c.args.path.now in
    let names = c.namespace_at.new.names in
    let n = length c.components.result.now - 1 in
    let below = below_front path c.in-Some.root.now.path c.in-Some.ensures.below in
    let size : n + 1 ≡ length path = omega (arith, below.0, ap length c.components.ensures.value, length-map c.components.result.now (λ s. string_bytes s)) in
    let layout = layout_seen names c.args.layout.now in
    let known = namespaces_grown c.args.names.now names c.args.layout.now c.in_ok-namespace_at.ensures.grows c.requires in
    let same = texts_of-grown names later c.in_ok-namespace_at.field-0 grows c.in_ok-namespace_at.ensures.named in
    above_later names later c.args.layout.now path grows known
    ∙ namespace_below layout (root_seen names c.in-Some.root.now) path (c.in-Some.ensures.root names)
    ∙ ap Some (ap (namespace_of layout (root_seen names c.in-Some.root.now)) (sym (parent-front path n size)) ∙ c.in_ok-namespace_at.ensures.told ∙ ap Ok (sym same))
