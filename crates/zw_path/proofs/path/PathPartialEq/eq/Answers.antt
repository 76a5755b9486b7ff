use Rattle.std.proofs.Common.{string_bytes, ◌∙◌}
use Rattle.zw_def.specs.Path.{same_path}
use Rattle.zw_def.proofs.PathLemmas.{same-map}
use Rattle.zw_path.proofs.path.PathPartialEq.eq.Goals as goal

pub returns : goal.returns
returns c = c.eq.ensures ∙ same-map (λ s. string_bytes s) c.self.inside.components.items c.other.inside.components.items ∙ (λ i. same_path (c.self.view_is i) (c.other.view_is i))
