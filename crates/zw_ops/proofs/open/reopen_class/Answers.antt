use Rattle.std.proofs.Common.{Some, ap, sym, ◌∙◌}
use Rattle.zw_def_world.specs.Act.{Act}
use Rattle.zw_def_world.specs.Definition.{reopens_class_value}
use Rattle.zw_def_world.specs.Value.{as_module}
use Rattle.zw_heap.specs.Telling.{tell, told_superclass}
use Rattle.zw_heap.specs.declared.value.ModuleKind.TheVariants as k
use Rattle.zw_ops.proofs.OpenLemmas.{stands, mismatched}
use Rattle.zw_ops.proofs.open.reopen_class.Goals as goal

pub returns : goal.returns
returns c = λ names go_on I p fit agrees.
    let there = stands I c.args.heap.now p.world c.in-Module.module.0 (k.Class c.in-Class.above) agrees (c.kind.ensures ∙ ap Some c.in-Class.is) in
    ap (λ x. reopens_class_value (told_superclass I (k.Class c.args.superclass)) c.args.name.now go_on (as_module (tell I x)) p) c.in-Module.is
    ∙ mismatched (I.module_id c.in-Module.module.0) there.«module» (told_superclass I (k.Class c.args.superclass)) (told_superclass I (k.Class c.in-Class.above)) c.args.name.now go_on p there.there there.kind_told there.superclass (c.is_superclass.ensures I ∙ c.if-is_superclass.false)
    ∙ ap (λ (act : Act). act p) (sym c.in_ok-mismatch.ensures)
