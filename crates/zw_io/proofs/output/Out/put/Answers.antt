use Rattle.std.proofs.Common.{rules, arith}
use Rattle.std.proofs.lemmas.List.{length-take, length-drop}
use Rattle.zw_def.proofs.ToldLemmas.{appends_more, take_piece}
use Rattle.zw_io.proofs.output.Out.put.Goals as goal

pub pieces-preserved : goal.pieces-preserved
pieces-preserved g c = record {
  same_sink = search rules;
  within = grind (arith, length-take, length-drop);
  written = appends_more _ _ _ _ _ _ c.pieces.invariant.written c.in-Ok.ensures.bytes (take_piece c.pieces.at c.in-Ok.n c.args.bytes.now);
  counts = search rules;
}
