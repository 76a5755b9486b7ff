use Rattle.std.proofs.Common.{◌≡◌, take}
use Rattle.zw_names.proofs.names.Names.copy.Given as goal

-- the first names are copied
abbrev pub invariant-loop-text : goal.invariant-loop-text
invariant-loop-text l = l.copy ≡ take l.text-index l.fn.self
