use Rattle.std.proofs.Common.{rules, ◌≡◌, ◌<◌, ◌≤◌, ◌+◌, ℕ, Bool, true, false, length, List, drop, map, nat_eq, Option, Some, None, refl, ap, sym, subst, ◌∙◌, arith}
use Rattle.zw_frames.specs.LocalsSeen.{entries_seen}
use Rattle.zw_frames.specs.Locals.{first_at}
use Rattle.zw_frames.proofs.LocalLemmas.{from_place, place-here, place-past}
use Rattle.zw_frames.proofs.locals.Locals.place.Goals as goal

pub returns-then-index-name-clause-first : goal.returns-then-index-name-clause-first
returns-then-index-name-clause-first c =
    let es = c.self.inside.entries.items in
    let lt = c.loop-at-test.true in
    let len = c.len-at-end.ensures in
    let ok = c.self.inside.entries.ok in
    subst (λ (l : List _). Some c.loop-at.at ≡ first_at c.args.name.0 l) c.self.view_is
    (place-here es c.loop-at.at c.index.result.now (omega (arith, lt, len, ok)) c.index.ensures c.args.name.0 c.if-index-name.true
    (subst (λ (l : List _). from_place c.loop-at.at (first_at c.args.name.0 (drop c.loop-at.at l)) ≡ first_at c.args.name.0 l) (sym c.self.view_is) c.loop-at.invariant))

pub loop-at-preserved : goal.loop-at-preserved
loop-at-preserved c =
    let es = c.self.inside.entries.items in
    let lt = c.loop-at-test.true in
    let len = c.len-at-end.ensures in
    let ok = c.self.inside.entries.ok in
    subst (λ (l : List _). from_place (c.loop-at.at + 1) (first_at c.args.name.0 (drop (c.loop-at.at + 1) l)) ≡ first_at c.args.name.0 l) c.self.view_is
    (place-past es c.loop-at.at c.index.result.now (omega (arith, lt, len, ok)) c.index.ensures c.args.name.0 c.if-index-name.false
    (subst (λ (l : List _). from_place c.loop-at.at (first_at c.args.name.0 (drop c.loop-at.at l)) ≡ first_at c.args.name.0 l) (sym c.self.view_is) c.loop-at.invariant))
