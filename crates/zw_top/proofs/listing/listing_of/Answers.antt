use Rattle.std.proofs.Common.{arith}
use Rattle.std.proofs.lemmas.List.{length-map}
use Rattle.zw_top.proofs.ListingLemmas.{listed_all, listed_long}
use Rattle.zw_top.proofs.listing.listing_of.Goals as goal

pub returns-in-None-clause-told : goal.returns-in-None-clause-told
returns-in-None-clause-told g c =
    listed_all _ _ _ _ c.paths.invariant.listed (rw c.in-None.is at c.in_ok-next_listed.ensures.lists)
    (omega (arith, length-map c.paths.paths.items (λ v. v.items), c.paths.invariant.count, c.listed_paths-end.ensures.value))

pub returns-clause-told : goal.returns-clause-told
returns-clause-told g c =
    rw c.refused.ensures (listed_long _ _ _ c.paths.invariant.listed
    (omega (arith, length-map c.paths.paths.items (λ v. v.items), c.paths.invariant.count, c.listed_paths-end.ensures.value)))
