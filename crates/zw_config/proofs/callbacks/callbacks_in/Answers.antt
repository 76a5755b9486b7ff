use Rattle.std.proofs.Common.{◌≡◌, ◌∙◌, ◌+◌, ap, rules, map, get_or, drop, Ok}
use Rattle.toml.specs.View.{items_view, view}
use Rattle.zw_def.proofs.NameLemmas.{OnlyGrows-trans}
use Rattle.zw_hooks.specs.HookSeen.{hook_seen}
use Rattle.zw_def_config.specs.Callback.{callback_in}
use Rattle.zw_def_config.specs.Value.{elements_after}
use Rattle.zw_config.proofs.ElementLemmas.{element_read}
use Rattle.zw_config.proofs.HookLemmas.{hooks_pushed, hooks_named}
use Rattle.zw_config.proofs.callbacks.callbacks_in.Goals as goal

pub loop-value-preserved : goal.loop-value-preserved
loop-value-preserved c =
    let inv = c.loop-value.invariant in
    let old = c.loop-value.names in
    let new = c.callback_in.new.names in
    let grows = c.in_ok-hook.ensures.grows in
    let is = c.in_ok-push.ensures.items in
    let before = map (hook_seen old) c.loop-value.hooks.items in
    let read : callback_in before (view (get_or c.args.values.now c.loop-value.value-index c.value-item.result)) ≡ Ok (hook_seen new c.in_ok-hook.hook) = search (rules, c.in_ok-hook.ensures.told) in (
      ap (λ rs. elements_after callback_in rs (items_view (drop (c.loop-value.value-index + 1) c.args.values.now))) (hooks_pushed old new grows c.loop-value.hooks.items _ c.in_ok-hook.hook is inv.1)
          ∙ element_read callback_in before c.args.values.now c.loop-value.value-index c.value-item.result c.loop-value-test.true _ inv.0 (hook_seen new c.in_ok-hook.hook) read,
      hooks_named old new grows c.loop-value.hooks.items _ c.in_ok-hook.hook is inv.1 c.in_ok-hook.ensures.named,
      OnlyGrows-trans c.args.names.now old new inv.2 grows,
    )
