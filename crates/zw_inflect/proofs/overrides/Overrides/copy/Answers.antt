use Rattle.std.proofs.Common.{◌∙◌}
use Rattle.zw_inflect.proofs.OverridesLemmas.{seen-copied}
use Rattle.zw_inflect.proofs.overrides.Overrides.copy.Goals as goal

pub returns : goal.returns
returns c = seen-copied c.self.inside.names.entries _ c.in_ok-clone.ensures.cases ∙ c.self.view_is
