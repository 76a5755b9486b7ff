use Rattle.std.proofs.Common.{ℕ, List, [], ◌++◌, string_bytes, ap, ◌∙◌, get_or, lit<, arith}
use Rattle.std.specs.Borrow.{Bor}
use Rattle.zw_tree.proofs.WalkLemmas.{joined_next}
use Rattle.zw_tree.proofs.walk.joined.Goals as goal

pub loop-place-preserved : goal.loop-place-preserved
loop-place-preserved c =
    let all = c.args.components.now in
    let slash = c.in_ok-push.ensures.bytes ∙ ap (λ t. string_bytes c.loop-place.text ++ t) (c.in_ok-push.ensures.ascii (lit< tt)) in
    let none : Bor (List ℕ) = record { ref_ptr = (0, 0); now = [] } in
    c.in_ok-push_str.ensures.bytes
    ∙ (λ i. slash i ++ (get_or all c.loop-place.place none).now)
    ∙ joined_next (λ c. c.now) all c.loop-place.place none (omega (arith, c.loop-place.auto)) (omega (arith, c.loop-place-test.true)) (string_bytes c.loop-place.text) c.loop-place.invariant
