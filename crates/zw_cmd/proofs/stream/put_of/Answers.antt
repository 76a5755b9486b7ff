use Rattle.zw_cmd.proofs.TakenLemmas.{put_all}
use Rattle.zw_cmd.proofs.stream.put_of.Goals as goal

pub returns-then-taken-asked-clause-reads : goal.returns-then-taken-asked-clause-reads
returns-then-taken-asked-clause-reads c = λ ls s count is.
    put_all c.args.asked c.args.taken c.args.path c.args.bytes.items ls s c.if-taken-asked.true count is
