use Rattle.std.proofs.Common.{ap, ◌∙◌}
use Rattle.zw_def_world.specs.Act.{Act}
use Rattle.zw_def_world.specs.Equality.{same}
use Rattle.zw_heap.specs.Heap.{sizes_of}
use Rattle.zw_heap.specs.Telling.{tell}
use Rattle.zw_arrays.specs.Answer.{answer_seen}
use Rattle.zw_prims.proofs.kernel.equal.Goals as goal

pub returns-in-Some-clause-performs : goal.returns-in-Some-clause-performs
returns-in-Some-clause-performs c = λ names. record {
  told = λ s I p fit agrees is.
      c.same.ensures.told I names p fit is ∙ ap (λ a. answer_seen a (record p { left = c.same.new.meter.left })) c.in-Some.is
      ∙ ap (λ (act : Act). act (record p { left = c.same.new.meter.left })) (c.yes_or_no.ensures.told I (same (tell I c.args.one) (tell I c.args.other)));
  held = c.yes_or_no.ensures.held (sizes_of c.args.heap.now);
  done = c.yes_or_no.ensures.done;
}
