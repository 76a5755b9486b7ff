use Rattle.std.proofs.Common.{ap, ◌∙◌}
use Rattle.std.specs.List.{slice_get}
use Rattle.zw_tree.specs.Entries.{first_names, tree_below}
use Rattle.zw_tree.proofs.ListingLemmas.{listed_told}
use Rattle.zw_tree.proofs.tree.Tree.entry.Goals as goal

pub returns-in-Some-clause-entry : goal.returns-in-Some-clause-entry
returns-in-Some-clause-entry g c =
    let files = c.in-Some.ensures.files ∙ (λ i. tree_below (c.components.ensures.value i) (c.self.view_is i)) in
    c.entry.ensures
    ∙ listed_told c.in-Some.folder.now c.args.k c.in-Some.ensures.sound
    ∙ ap (λ t. slice_get (first_names t) c.args.k) files
