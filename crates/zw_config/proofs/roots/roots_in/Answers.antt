use Rattle.std.proofs.Common.{◌≡◌, ◌∙◌, ◌+◌, ap, rules, map, get_or, drop, Ok}
use Rattle.toml.specs.View.{items_view, view}
use Rattle.zw_def.proofs.NameLemmas.{OnlyGrows-trans}
use Rattle.zw_inflect.specs.Layout.{root_seen}
use Rattle.zw_def_config.specs.Root.{root_in}
use Rattle.zw_def_config.specs.Value.{elements_after}
use Rattle.zw_config.proofs.ElementLemmas.{element_read, element_refused}
use Rattle.zw_config.proofs.RootLemmas.{roots_pushed, named_pushed, paths_pushed}
use Rattle.zw_config.proofs.roots.roots_in.Goals as goal

pub loop-value-preserved : goal.loop-value-preserved
loop-value-preserved c =
    let inv = c.loop-value.invariant in
    let old = c.loop-value.names in
    let new = c.root_in.new.names in
    let grows = c.in_ok-root.ensures.grows in
    let is = c.in_ok-push.ensures.items in
    let before = map (root_seen old) c.loop-value.roots.items in
    let read : root_in before (view (get_or c.args.values.now c.loop-value.value-index c.value-item.result)) ≡ Ok (root_seen new c.in_ok-root.root) = search (rules, c.in_ok-root.ensures.told before inv.3) in
    let pushed = roots_pushed old new grows c.loop-value.roots.items _ c.in_ok-root.root is inv.1 in (
      ap (λ rs. elements_after root_in rs (items_view (drop (c.loop-value.value-index + 1) c.args.values.now))) pushed
          ∙ element_read root_in before c.args.values.now c.loop-value.value-index c.value-item.result c.loop-value-test.true _ inv.0 (root_seen new c.in_ok-root.root) read,
      named_pushed old new grows c.loop-value.roots.items _ c.in_ok-root.root is inv.1 c.in_ok-root.ensures.named,
      OnlyGrows-trans c.args.names.now old new inv.2 grows,
      rw pushed (paths_pushed c.loop-value.paths c.insert.new.self before _ (root_seen new c.in_ok-root.root) inv.3 c.in_ok-copy.ensures c.in_ok-insert.ensures.updates.0),
    )

pub returns-in_err-root-clause-told : goal.returns-in_err-root-clause-told
returns-in_err-root-clause-told c =
    let inv = c.loop-value.invariant in
    let before = map (root_seen c.loop-value.names) c.loop-value.roots.items in
    let refused = element_refused root_in before c.args.values.now c.loop-value.value-index c.value-item.result c.loop-value-test.true _ inv.0 in
    search (rules, c.in_err-root.ensures.told before inv.3, refused)
