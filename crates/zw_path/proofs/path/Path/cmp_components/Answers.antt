use Rattle.std.proofs.Common.{map, string_bytes, ap, ◌∙◌}
use Rattle.zw_def.specs.Path.{path_cmp}
use Rattle.zw_def.proofs.PathLemmas.{cmp-map}
use Rattle.zw_path.proofs.path.Path.cmp_components.Goals as goal

pub returns : goal.returns
returns c =
    c.cmp.ensures
    ∙ cmp-map (λ s. string_bytes s) c.as_slice.result.now c.args.components.now
    ∙ (λ i. path_cmp (map string_bytes (c.as_slice.ensures.value i)) (map string_bytes c.args.components.now))
    ∙ ap (λ p. path_cmp p (map string_bytes c.args.components.now)) c.self.view_is
