use Rattle.zw_top.proofs.ListingLemmas.{lists_one}
use Rattle.zw_top.proofs.listing.next_listed.Goals as goal

pub returns-in-Ok-true-clause-lists : goal.returns-in-Ok-true-clause-lists
returns-in-Ok-true-clause-lists g c = lists_one _ _ _ (rw c.in-Ok-true.field-0-test at c.in-Ok-true.ensures.lists)
