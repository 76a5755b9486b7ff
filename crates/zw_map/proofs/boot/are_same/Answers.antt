use Rattle.std.proofs.Common.{refl, ◌∙◌}
use Rattle.zw_map.proofs.BootLemmas.{pointwise_told}
use Rattle.zw_map.proofs.boot.are_same.Goals as goal

pub returns : goal.returns
returns c = c.eq.ensures ∙ pointwise_told (λ n. n.0) _ (λ x y. refl) c.args.names.now c.args.others.now
