use Rattle.std.proofs.Common.{rules}
use Rattle.zw_inflect.proofs.OverridesLemmas.{override_of-seen}
use Rattle.zw_inflect.proofs.overrides.Overrides.name_of.Goals as goal

pub returns : goal.returns
returns c = search (rules, override_of-seen)
