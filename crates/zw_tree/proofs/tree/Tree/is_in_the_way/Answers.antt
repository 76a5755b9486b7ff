use Rattle.std.proofs.Common.{ap, sym, ◌∙◌, ◌||◌}
use Rattle.std.specs.Prelude.{is_some}
use Rattle.zw_tree.specs.Spot.{spot_text, spot_blocked}
use Rattle.zw_tree.proofs.StageLemmas.{in_the_way}
use Rattle.zw_tree.proofs.tree.Tree.is_in_the_way.Goals as goal

pub returns-in-File : goal.returns-in-File
returns-in-File c =
    let text = sym c.seek.ensures.text ∙ ap spot_text c.in-File.is in
    let blocked = sym c.seek.ensures.blocked ∙ ap spot_blocked c.in-File.is in
    sym (in_the_way c.args.self.now c.args.path.now ∙ (λ i. is_some (text i) || blocked i))

pub returns-in-Blocked : goal.returns-in-Blocked
returns-in-Blocked c =
    let text = sym c.seek.ensures.text ∙ ap spot_text c.in-Blocked.is in
    let blocked = sym c.seek.ensures.blocked ∙ ap spot_blocked c.in-Blocked.is in
    sym (in_the_way c.args.self.now c.args.path.now ∙ (λ i. is_some (text i) || blocked i))

pub returns-in-Free : goal.returns-in-Free
returns-in-Free c =
    let text = sym c.seek.ensures.text ∙ ap spot_text c.in-Free.is in
    let blocked = sym c.seek.ensures.blocked ∙ ap spot_blocked c.in-Free.is in
    sym (in_the_way c.args.self.now c.args.path.now ∙ (λ i. is_some (text i) || blocked i))
