use Rattle.std.proofs.Common.{Bor, ◌≡◌, Some, None, cond, ap, sym, ◌∙◌}
use Rattle.zw_tree.specs.Text.{text_at}
use Rattle.zw_tree.proofs.StageLemmas.{in_more, in_none, in_part, free_part, touches_front}
use Rattle.std.specs.Option.{option_map}
use Rattle.zw_tree.specs.declared.shared.Shared.{Shared}
use Rattle.zw_tree.specs.Edit.{tree_with}
use Rattle.zw_tree.proofs.staged.put_in.Goals as goal
use Rattle.zw_tree.proofs.staged.put_in.Goals.{in-Some+in_ok-share+in_ok-put, in_default}

pub returns-in_err-share-clause-kept : goal.returns-in_err-share-clause-kept
returns-in_err-share-clause-kept c = λ q none.
    c.loop-path.invariant q
    ∙ ap (λ b. cond b (text_at q c.args.staged.now) (text_at q c.args.tree.now)) (touches_front c.args.paths.now c.loop-path.path-index q none)

pub put-requires : goal.put-requires
put-requires c = record {
  free = free_part c.loop-path.tree c.args.staged.now c.path-item.result _ c.is_tree.ensures
      (in_part c.args.paths.now c.loop-path.path-index c.args.tree.now c.loop-path.tree c.args.staged.now c.requires.part c.loop-path.invariant)
      (sym c.in-Some.ensures);
}

pub returns-in_err-put-clause-kept : goal.returns-in_err-put-clause-kept
returns-in_err-put-clause-kept c = λ q none.
    ap (text_at q) c.in_err-put.ensures.err
    ∙ c.loop-path.invariant q
    ∙ ap (λ b. cond b (text_at q c.args.staged.now) (text_at q c.args.tree.now)) (touches_front c.args.paths.now c.loop-path.path-index q none)

pub loop-path-preserved : goal.loop-path-preserved
loop-path-preserved c =
    let paths = c.args.paths.now in
    let n = c.loop-path.path-index in
    let path = c.path-item.result in
    let old = c.args.tree.now in
    let now = c.loop-path.tree in
    let staged = c.args.staged.now in
    elim c.match-bytes.branch [
      | in-Some+in_ok-share+in_ok-put w ↦ (λ q.
          let has : text_at path staged ≡ Some w.in-Some.bytes.now = sym w.in-Some.ensures in
          let text = w.in_ok-put.ensures.ok ∙ ap (tree_with now path) w.in_ok-share.ensures in
          ap (text_at q) (w.tree-is ∙ text) ∙ in_more paths n path old now staged w.in-Some.bytes.now c.loop-path-test.true c.path-item.is c.loop-path.invariant has q)
      | in_default w ↦ (λ q.
          let none : text_at path staged ≡ None = sym c.bytes.ensures ∙ ap (option_map (λ (b : Bor Shared). b.now)) w.in_default.is in
          ap (text_at q) w.tree-is ∙ in_none paths n path old now staged c.loop-path-test.true c.path-item.is c.requires.part c.loop-path.invariant none q)
    ]
