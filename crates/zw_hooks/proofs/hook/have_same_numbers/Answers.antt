use Rattle.std.proofs.Common.{refl, ◌∙◌}
use Rattle.zw_hooks.proofs.PlaceLemmas.{pointwise_told}
use Rattle.zw_hooks.proofs.hook.have_same_numbers.Goals as goal

pub returns : goal.returns
returns c = c.eq.ensures ∙ pointwise_told (λ n. n.0) _ (λ x y. refl) c.args.names.now c.args.others.now
