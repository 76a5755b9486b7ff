use Rattle.zw_top.proofs.ReplyLemmas.{cut_line}
use Rattle.zw_top.proofs.stream.cut_short.Goals as goal

pub returns-in-Err-put_line-clause-cuts : goal.returns-in-Err-put_line-clause-cuts
returns-in-Err-put_line-clause-cuts g c = cut_line c.in-Err-put_line.status c.args.fault _ _ _ c.in-TooMuch.is c.in-Ok.ensures.ok c.in-Err-put_line.ensures.puts
