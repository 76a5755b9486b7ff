use Rattle.std.proofs.Common.{◌≡◌, [], drop, map}
use Rattle.std.specs.List.{All}
use Rattle.toml.specs.View.{items_view}
use Rattle.zw_def.specs.Names.{OnlyGrows}
use Rattle.zw_hooks.specs.HookSeen.{hook_seen}
use Rattle.zw_def_config.specs.Callback.{callback_in}
use Rattle.zw_def_config.specs.Value.{elements_after}
use Rattle.zw_config.specs.Callback.{IsNamed}
use Rattle.zw_config.proofs.callbacks.callbacks_in.Given as goal

abbrev pub invariant-loop-value : goal.invariant-loop-value
invariant-loop-value l =
    (elements_after callback_in (map (hook_seen l.names) l.hooks.items) (items_view (drop l.value-index l.values))
    ≡ elements_after callback_in [] (items_view l.values))
    × All (IsNamed l.names) l.hooks.items
    × OnlyGrows l.fn.names l.names
