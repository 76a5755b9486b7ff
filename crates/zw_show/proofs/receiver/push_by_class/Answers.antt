use Rattle.std.proofs.Common.{ap, sym, subst, unwrap_or}
use Rattle.zw_def_world.specs.Inspect.{instance_text}
use Rattle.zw_show.specs.Shown.{path_shown}
use Rattle.zw_show.specs.Writes.{Writes}
use Rattle.zw_show.proofs.receiver.push_by_class.Goals as goal

pub returns : goal.returns
returns c =
    subst (λ n. Writes c.args.writer.now c.push_instance.new.writer (instance_text (path_shown c.args.names.now c.args.heap.now n)) c.push_instance.result)
    (sym (ap (λ o. unwrap_or o 0) c.class_of-class.ensures.class)) c.push_instance.ensures
