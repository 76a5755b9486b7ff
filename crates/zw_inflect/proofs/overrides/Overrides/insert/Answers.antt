use Rattle.std.proofs.Common.{rules}
use Rattle.zw_inflect.proofs.OverridesLemmas.{with_override-seen}
use Rattle.zw_inflect.proofs.overrides.Overrides.insert.Goals as goal

pub returns-clause-added : goal.returns-clause-added
returns-clause-added c = search (rules, with_override-seen)
