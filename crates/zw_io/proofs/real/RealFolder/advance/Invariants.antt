use Rattle.std.proofs.Common.{◌≡◌}
use Rattle.zw_io.proofs.real.RealFolder.advance.Given as goal

abbrev pub invariant-entries : goal.invariant-entries
invariant-entries g l = l.self.faults ≡ l.fn.self.faults
