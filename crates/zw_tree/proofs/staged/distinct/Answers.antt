use Rattle.std.proofs.Common.{ap, sym, ◌∙◌, subst}
use Rattle.std.proofs.lemmas.List.Filters.{dedup_is}
use Rattle.std.proofs.lemmas.List.Sorted.{list_any-IsPermutation}
use Rattle.zw_def.specs.Path.{Path, same_path}
use Rattle.zw_tree.specs.Stage.{touches, IsRising}
use Rattle.zw_tree.proofs.DistinctLemmas.{dedup_same, dedup_rises}
use Rattle.zw_tree.proofs.staged.distinct.Goals as goal

pub returns-clause-same : goal.returns-clause-same
returns-clause-same c = λ q.
    let sorted = c.sort_unstable.new.self.items in
    ap (λ ps. touches ps q) (dedup_is same_path sorted c.dedup.new.self.items c.dedup.ensures.filtered)
    ∙ dedup_same sorted q
    ∙ sym (list_any-IsPermutation (λ (p : Path). same_path p q) c.args.paths.items sorted c.sort_unstable.ensures.permutation)

pub returns-clause-rising : goal.returns-clause-rising
returns-clause-rising c =
    let sorted = c.sort_unstable.new.self.items in
    subst IsRising (sym (dedup_is same_path sorted c.dedup.new.self.items c.dedup.ensures.filtered)) (dedup_rises sorted c.sort_unstable.ensures.sorted)
