use Rattle.std.proofs.Common.{◌≡◌, true, sym, ◌∙◌, ap, is_some, not, ◌&&◌}
use Rattle.zw_def.specs.Layout as defined
use Rattle.zw_inflect.specs.Layout.{root_seen, layout_seen}
use Rattle.zw_layout.proofs.DeepestLemmas.{is_some_seen}
use Rattle.zw_layout.proofs.covered.is_visible.Goals as goal

pub returns-then-is_some : goal.returns-then-is_some
returns-then-is_some c names =
    let found : true ≡ is_some (defined.root_of (layout_seen names c.args.layout.now) c.args.path.now) = c.if-is_some.ensures ∙ sym (is_some_seen (root_seen names) (λ r. r.now) c.root_of.result) ∙ ap is_some (c.root_of.ensures.root names) in
    λ i. found i && not (c.in_ok-is_ignored.ensures names i)
