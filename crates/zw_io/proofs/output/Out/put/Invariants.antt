use Rattle.std.proofs.Common.{◌≡◌, ◌≤◌, ◌-◌, length, take}
use Rattle.zw_def.specs.Told.{Appends}
use Rattle.zw_io.proofs.output.Out.put.Given as goal

abbrev pub invariant-pieces : goal.invariant-pieces
invariant-pieces g l = record {
  same_sink : l.self.sink.ghost_name ≡ l.fn.self.sink.ghost_name;
  within : l.at ≤ length l.bytes;
  written : Appends (g.K.Sink.taken l.fn.self.sink.now) (g.K.Sink.taken l.self.sink.now) (take l.at l.bytes);
  counts : g.K.Sink.faults l.self.sink.now ≡ g.K.Sink.faults l.fn.self.sink.now;
}

abbrev pub decreases-pieces : goal.decreases-pieces
decreases-pieces g l = length l.bytes - l.at
