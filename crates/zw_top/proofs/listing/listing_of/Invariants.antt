use Rattle.std.proofs.Common.{◌≡◌, length}
use Rattle.zw_top.specs.Reading.{texts_seen}
use Rattle.zw_top.proofs.ListingLemmas.{ListedIfTold}
use Rattle.zw_top.proofs.listing.listing_of.Given as goal

abbrev pub invariant-paths : goal.invariant-paths
invariant-paths g l = record {
  count : length l.paths.items ≡ l.counter;
  counts : g.F.Folder.faults l.folder ≡ g.F.Folder.faults l.fn.folder;
  listed : ListedIfTold (g.F.Folder.listing l.fn.folder) (g.F.Folder.listing l.folder) (texts_seen l.paths.items);
}
