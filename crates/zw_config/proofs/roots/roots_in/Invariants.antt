use Rattle.std.proofs.Common.{◌≡◌, [], drop, map}
use Rattle.std.specs.List.{All}
use Rattle.toml.specs.View.{items_view}
use Rattle.zw_def.specs.Names.{OnlyGrows}
use Rattle.zw_inflect.specs.Layout.{root_seen}
use Rattle.zw_def_config.specs.Root.{root_in}
use Rattle.zw_def_config.specs.Value.{elements_after}
use Rattle.zw_config.specs.Root.{HasPaths, IsNamed}
use Rattle.zw_config.proofs.roots.roots_in.Given as goal

abbrev pub invariant-loop-value : goal.invariant-loop-value
invariant-loop-value l =
    (elements_after root_in (map (root_seen l.names) l.roots.items) (items_view (drop l.value-index l.values))
    ≡ elements_after root_in [] (items_view l.values))
    × All (IsNamed l.names) l.roots.items
    × OnlyGrows l.fn.names l.names
    × HasPaths l.paths (map (root_seen l.names) l.roots.items)
