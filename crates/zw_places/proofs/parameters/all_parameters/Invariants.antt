use Rattle.std.proofs.Common.{◌≡◌, ◌++◌, take, map}
use Rattle.zw_places.proofs.parameters.all_parameters.Given as goal

abbrev pub invariant-defaults : goal.invariant-defaults
invariant-defaults l = l.all.items ≡ l.required ++ map (λ d. d.name) (take l.default-index l.defaults)
