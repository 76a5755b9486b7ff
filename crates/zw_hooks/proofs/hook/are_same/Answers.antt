use Rattle.std.proofs.Common.{ap, sym, ◌∙◌}
use Rattle.std.specs.Str.{bytes_eq}
use Rattle.zw_hooks.proofs.PlaceLemmas.{same_by_numbers}
use Rattle.zw_hooks.proofs.hook.are_same.Goals as goal

pub returns : goal.returns
returns c names distinct named other =
    c.have_same_numbers.ensures
    ∙ (λ i. bytes_eq (c.names.ensures i) (c.names-2.ensures i))
    ∙ sym (same_by_numbers names distinct c.args.path.now c.args.other.now named other)
