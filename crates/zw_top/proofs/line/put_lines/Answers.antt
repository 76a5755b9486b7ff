use Rattle.std.proofs.Common.{map, string_bytes, ap, rules}
use Rattle.zw_top.proofs.OutputLemmas.{puts_next, puts_fail}
use Rattle.zw_top.proofs.line.put_lines.Goals as goal

pub loop-line-preserved : goal.loop-line-preserved
loop-line-preserved g c = record {
  same_sink = search rules;
  counts = search rules;
  written = puts_next _ _ _ _ _ _ _ c.loop-line.invariant.written (ap (map string_bytes) c.in-Some.ensures.steps.0) c.in-Ok.ensures.puts;
}

pub returns-in-Err-clause-puts : goal.returns-in-Err-clause-puts
returns-in-Err-clause-puts g c = puts_fail _ _ _ _ c.in-Err.status _ _ _ c.loop-line.invariant.written (ap (map string_bytes) c.in-Some.ensures.steps.0) c.in-Err.ensures.puts
