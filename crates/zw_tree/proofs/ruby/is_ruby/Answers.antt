use Rattle.std.proofs.Common.{rules, tests, sym, ◌∙◌, ap, not, ◌&&◌, string_bytes}
use Rattle.std.specs.List.{list_any}
use Rattle.std.proofs.lemmas.Iterator.{YieldsList-from_slice}
use Rattle.std.proofs.lemmas.Iterator.Search.{any_from_yields_List}
use Rattle.zw_def.specs.Tree.{begins_with_dot, ends_in_rb}
use Rattle.zw_def.proofs.RubyPathLemmas.{ruby_by_told}
use Rattle.zw_tree.proofs.ruby.is_ruby.Goals as goal

pub returns-then-ends_in_rb : goal.returns-then-ends_in_rb
returns-then-ends_in_rb c =
    let dots = any_from_yields_List (λ s. begins_with_dot (string_bytes s)) _ _ c.any.result c.any.ensures.ran (YieldsList-from_slice c.components-components.result.now c.iter.ensures.rest) (λ x b q k. search (rules, tests)) in
    let ends = sym (c.ends_in_rb.ensures ∙ ap ends_in_rb c.deref.ensures) ∙ c.if-ends_in_rb.true in
    ap not dots
    ∙ ap (λ b. b && not (list_any (λ s. begins_with_dot (string_bytes s)) c.components-components.result.now)) (sym ends)
    ∙ ruby_by_told (λ s. string_bytes s) c.components-components.result.now c.args.path.now c.index-components-components.result c.components-components.ensures.value c.components-components.ensures.whole.nonempty c.index-components-components.is

pub returns-else-ends_in_rb : goal.returns-else-ends_in_rb
returns-else-ends_in_rb c =
    let ends = sym (c.ends_in_rb.ensures ∙ ap ends_in_rb c.deref.ensures) ∙ c.if-ends_in_rb.false in
    c.if-ends_in_rb.false
    ∙ ap (λ b. b && not (list_any (λ s. begins_with_dot (string_bytes s)) c.components-components.result.now)) (sym ends)
    ∙ ruby_by_told (λ s. string_bytes s) c.components-components.result.now c.args.path.now c.index-components-components.result c.components-components.ensures.value c.components-components.ensures.whole.nonempty c.index-components-components.is
