use Rattle.std.proofs.Common.{codes}
use Rattle.zw_show.specs.Shown.{path_shown}
use Rattle.zw_show.proofs.QuoteLemmas.{Writes-then}
use Rattle.zw_show.proofs.receiver.push_instance.Goals as goal

pub returns : goal.returns
returns c =
    Writes-then c.args.writer.now c.push.new.writer c.push_path.new.writer (codes "an instance of ") (path_shown c.args.names.now c.args.heap.now c.args.class.0) c.push_path.result
    c.in_ok-push.ensures.0 c.in_ok-push.ensures.1 c.push_path.ensures
