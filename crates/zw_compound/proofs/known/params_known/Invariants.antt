use Rattle.std.proofs.Common.{◌≡◌, ◌++◌, take}
use Rattle.zw_compound.proofs.KnownLemmas.{optional_numbers, required_numbers}
use Rattle.zw_compound.proofs.known.params_known.Given as goal

abbrev pub invariant-required : goal.invariant-required
invariant-required l = l.known ≡ required_numbers (take l.name-index l.params.required.items)

abbrev pub invariant-optional : goal.invariant-optional
invariant-optional l =
    l.known ≡ required_numbers l.params.required.items ++ optional_numbers (take l.optional-index l.params.optional.items)
