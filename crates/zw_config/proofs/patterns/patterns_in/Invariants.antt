use Rattle.std.proofs.Common.{◌≡◌, [], drop}
use Rattle.toml.specs.View.{items_view}
use Rattle.zw_def_config.specs.Value.{elements_after, path_in}
use Rattle.zw_config.proofs.patterns.patterns_in.Given as goal

abbrev pub invariant-loop-value : goal.invariant-loop-value
invariant-loop-value l =
    elements_after (λ before. path_in l.fn.key) l.patterns.items (items_view (drop l.value-index l.values))
    ≡ elements_after (λ before. path_in l.fn.key) [] (items_view l.values)
