use Rattle.std.proofs.Common.{ap, sym, ◌∙◌}
use Rattle.zw_lemmas.proofs.ListLemmas.{read_at}
use Rattle.zw_layout.specs.Progress.{whole_front}
use Rattle.zw_layout.proofs.NestingLemmas.{any_hit, any_past}
use Rattle.zw_layout.proofs.progress.Progress.is_match.Goals as goal

pub returns-then-is_whole : goal.returns-then-is_whole
returns-then-is_whole c =
    let whole = rw (← c.deref-fronts-items.ensures.value) at c.self.view_is in
    let at = read_at (λ f. f.items) c.deref-fronts-items.result.now c.args.self.now whole c.loop-fronts.fronts-index c.fronts-item.result c.loop-fronts-test.true c.fronts-item.is in
    let is = ap whole_front (sym c.deref.ensures.value) ∙ sym c.is_whole.ensures ∙ c.if-is_whole.true in
    sym (any_hit whole_front c.args.self.now c.loop-fronts.fronts-index c.fronts-item.result.items at.0 at.1 is)

pub loop-fronts-preserved : goal.loop-fronts-preserved
loop-fronts-preserved c =
    let whole = rw (← c.deref-fronts-items.ensures.value) at c.self.view_is in
    let at = read_at (λ f. f.items) c.deref-fronts-items.result.now c.args.self.now whole c.loop-fronts.fronts-index c.fronts-item.result c.loop-fronts-test.true c.fronts-item.is in
    let is = ap whole_front (sym c.deref.ensures.value) ∙ sym c.is_whole.ensures ∙ c.if-is_whole.false in
    any_past whole_front c.args.self.now c.loop-fronts.fronts-index c.fronts-item.result.items at.0 at.1 is c.loop-fronts.invariant
