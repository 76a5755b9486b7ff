use Rattle.std.proofs.Common.{◌≡◌, ◌∷◌, ◌++◌, [], length, ap, sym, ◌∙◌, subst, arith}
use Rattle.zw_def.specs.Tree.{size_of}
use Rattle.zw_tree.specs.Edit.{tree_with}
use Rattle.zw_tree.specs.Stage.{Stage, AgreeBut}
use Rattle.zw_tree.proofs.StageLemmas.{within_limits, settled_put}
use Rattle.zw_tree.proofs.staged.StagedTree.put.Goals as goal

pub invariant_of-self-2 : goal.invariant_of-self-2
invariant_of-self-2 c =
    let s = c.self.inside in
    let path = c.args.path in
    let text = c.args.bytes.items in
    let old = ap (λ (t : Stage). t.staged) c.self.view_is in
    let bytes = c.in_ok-bytes.ensures in
    let new : c.put.new.self ≡ tree_with c.args.self.now.staged path text = c.in_ok-put.ensures.ok ∙ (λ i. tree_with (old i) path (bytes i)) in
    let grown = c.in-Ok.ensures text (omega (arith, c.len.ensures, c.args.bytes.ok)) in
    let limits = within_limits c.args.self.now path text grown.0 in
    let settled = settled_put s.touched.items s.staged s.mounted path text c.self.invariant.0.settled in
    let same : tree_with s.staged path text ≡ c.put.new.self = ap (λ t. tree_with t path text) old ∙ sym new in
    let touched : c.push_reserved.new.self.items ≡ s.touched.items ++ path ∷ [] = c.push_reserved.ensures.items ∙ ap (λ ps. ps ++ path ∷ []) c.in_ok-reserve.ensures.items in (
      record {
        files = omega (arith, limits.0, ap length new);
        size = omega (arith, limits.1, ap size_of new);
        settled = subst (λ ps. AgreeBut ps s.mounted c.put.new.self) (sym touched) (subst (AgreeBut (s.touched.items ++ path ∷ []) s.mounted) same settled);
      },
      grown.1 ∙ ap length (sym new),
      grown.2 ∙ ap size_of (sym new),
    )
