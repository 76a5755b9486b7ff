use Rattle.std.proofs.Common.{◌≡◌, [], ◌++◌}
use Rattle.std.specs.Map.{keys_of}
use Rattle.toml.specs.View.{members_view}
use Rattle.zw_def_config.specs.Inflection.{overrides_after}
use Rattle.zw_config.proofs.KeyLemmas.{texts}
use Rattle.zw_config.proofs.OverrideLemmas.{bases}
use Rattle.zw_config.proofs.inflection.overrides_in.Given as goal

abbrev pub invariant-entry : goal.invariant-entry
invariant-entry l =
    (overrides_after l.overrides (members_view l.base-iterator) ≡ overrides_after [] (members_view l.table.entries))
    × ((bases l.overrides ++ texts (keys_of l.base-iterator)) ≡ texts (keys_of l.table.entries))
