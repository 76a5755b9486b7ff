use Rattle.std.proofs.Common.{◌≡◌, map, string_bytes}
use Rattle.zw_top.specs.Reply.{lines_seen}
use Rattle.zw_top.proofs.OutputLemmas.{Putting}
use Rattle.zw_top.proofs.line.put_lines.Given as goal

abbrev pub invariant-loop-line : goal.invariant-loop-line
invariant-loop-line g l = record {
  same_sink : l.out.sink.ghost_name ≡ l.fn.out.sink.ghost_name;
  counts : g.K.Sink.faults l.out.sink.now ≡ g.K.Sink.faults l.fn.out.sink.now;
  written : Putting (lines_seen l.fn.lines) (map string_bytes l.line-iterator.rest.items) (g.K.Sink.taken l.fn.out.sink.now) (g.K.Sink.taken l.out.sink.now);
}
