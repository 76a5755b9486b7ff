use Rattle.std.proofs.Common.{◌≡◌, ◌∷◌, take}
use Rattle.zw_frames.proofs.frame.Frame.of_body.Given as goal

abbrev pub invariant-loop-scope : goal.invariant-loop-scope
invariant-loop-scope l = l.inner.items ≡ l.fn.of ∷ take l.scope-index l.scopes.items
