use Rattle.std.proofs.Common.{ap, ◌∙◌, sym, subst, string_bytes, IfOk}
use Rattle.zw_def_world.specs.Act.{read, reading}
use Rattle.zw_def_world.specs.Making.{makes_text}
use Rattle.zw_show.specs.IsTold.{IsTold}
use Rattle.zw_prims.proofs.EndLemmas.{all_like}
use Rattle.zw_prims.proofs.shown.made.Goals as goal

pub returns-in-Ok-clause-performs : goal.returns-in-Ok-clause-performs
returns-in-Ok-clause-performs c = λ names text_of shown refused.
    let told : IsTold c.args.heap.now names text_of (string_bytes c.in-Ok.shown) = subst (λ r. IfOk r (λ made. IsTold c.args.heap.now names text_of (string_bytes made))) c.in-Ok.is shown in
    all_like c.args.heap.now c.text.new.heap names c.args.meter.now.left c.text.new.meter.left (λ s I. makes_text c.as_str.result.now) (λ s I. reading (text_of I) makes_text) c.text.ensures.adds
    (λ s I p fit agrees. ap (λ o. read o makes_text p) (told I p.world fit agrees) ∙ ap (λ t. makes_text t p) (sym c.as_str.ensures.value)) c.text.result (c.text.ensures.performs names)
