use Rattle.std.proofs.Common.{◌∙◌}
use Rattle.std.specs.Option.{option_map}
use Rattle.zw_def_world.specs.Definition.{is_superclass}
use Rattle.zw_heap.specs.declared.value.ModuleId.{ModuleId}
use Rattle.zw_told.proofs.NameLemmas.{module_told}
use Rattle.zw_ops.proofs.open.is_superclass.Goals as goal

pub returns : goal.returns
returns c = λ I.
    (λ i. is_superclass (option_map (λ (m : ModuleId). I.module_id m.0) (c.in-Some.is i)) (option_map (λ (m : ModuleId). I.module_id m.0) (c.in-Some-above.is i)))
    ∙ module_told I c.in-Some.given.0 c.in-Some-above.above.0
