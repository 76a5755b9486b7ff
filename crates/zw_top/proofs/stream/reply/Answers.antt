use Rattle.zw_top.specs.Script.{request_seen}
use Rattle.zw_top.proofs.ReplyLemmas.{lacks_replies}
use Rattle.zw_top.proofs.stream.reply.Goals as goal

pub returns-in-Err-clause-replies : goal.returns-in-Err-clause-replies
returns-in-Err-clause-replies g c = lacks_replies c.args.session.now c.answer_to.new.self (request_seen c.args.got) _
