use Rattle.std.proofs.Common.{◌≡◌, map}
use Rattle.std.specs.List.Sorted.{IsStrictlySortedBy}
use Rattle.std.specs.Map.{keys_of}
use Rattle.std.specs.String.{string_cmp}
use Rattle.zw_def_config.specs.Key.{least}
use Rattle.zw_config.proofs.KeyLemmas.{others}
use Rattle.zw_config.proofs.keys.least_unknown.Given as goal

abbrev pub invariant-loop-key : goal.invariant-loop-key
invariant-loop-key l =
    (least (others (map (λ k. k.now) l.known) l.key-iterator) ≡ least (others (map (λ k. k.now) l.known) (keys_of l.table.entries)))
    × IsStrictlySortedBy string_cmp l.key-iterator
