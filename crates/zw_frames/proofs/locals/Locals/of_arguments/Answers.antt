use Rattle.std.proofs.Common.{rules, ◌≡◌, ◌<◌, ◌≤◌, ◌+◌, ◌++◌, [], ◌∷◌, ℕ, Bool, true, false, get_or, length, List, drop, take, map, nat_eq, Option, Some, None, refl, ap, sym, subst, ◌∙◌, arith, append_assoc}
use Rattle.zw_frames.specs.Locals.{required_locals}
use Rattle.zw_frames.specs.LocalsSeen.{entries_seen}
use Rattle.zw_frames.proofs.LocalLemmas.{required-all, required-more, seen-more}
use Rattle.zw_frames.proofs.locals.Locals.of_arguments.Goals as goal

pub loop-at-preserved : goal.loop-at-preserved
loop-at-preserved c =
    let lt = c.loop-at-test.true in
    let count = c.min-count.ensures in
    ap entries_seen c.in_ok-push.ensures.items
    ∙ seen-more c.loop-at.entries.items _ (required_locals (take c.loop-at.at c.args.names.now) (take c.loop-at.at c.args.values.now)) c.loop-at.invariant
    ∙ required-more c.args.names.now c.args.values.now c.loop-at.at _ _ (omega (arith, lt, count)) (omega (arith, lt, count))

pub returns : goal.returns
returns c =
    let end = c.loop-at-test.false in
    let count = c.min-count.ensures in
    c.loop-at.invariant ∙ required-all c.args.names.now c.args.values.now c.loop-at.at (omega (arith, end, count))
