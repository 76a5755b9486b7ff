use Rattle.std.proofs.Common.{◌≡◌, ◌+◌, ◌<◌, ◌≤◌, length, map, drop, get_or, Some, true, false, ap, ◌∙◌, refl, sym, arith}
use Rattle.std.proofs.Math.ListN.{drop_of_length-le}
use Rattle.zw_def_world.specs.Act.{Act, ends, gives, out_of_steps}
use Rattle.zw_def_world.specs.Equality.{same, same_items, if_same}
use Rattle.zw_def_world.specs.Value as told
use Rattle.zw_heap.specs.Telling.{tell}
use Rattle.zw_heap.specs.declared.value.Value.TheVariants as v
use Rattle.zw_arrays.specs.Answer.{answer_seen}
use Rattle.zw_arrays.proofs.EqualityLemmas.{same-sized, other-sized, at-pair, ticked, unticked, unpaid, then-none, then-some}
use Rattle.zw_arrays.proofs.equality.+same.Goals as goal

pub are_same-returns-then-items-others-clause-told : goal.are_same-returns-then-items-others-clause-told
are_same-returns-then-items-others-clause-told t c = λ I names p fit e.
    ap (λ (act : Act). act p) (other-sized I names c.args.heap.now c.args.one.0 c.args.other.0 c.items-items.result.now c.items-others.result.now fit c.items-items.ensures.items c.items-others.ensures.items c.if-items-others.true)
    ∙ ap (λ n. gives (told.truth false) (record p { left = n })) e

pub are_same-returns-then-not-tick-clause-told : goal.are_same-returns-then-not-tick-clause-told
are_same-returns-then-not-tick-clause-told t c = λ I names p fit e.
    let i = c.loop-index.index in
    let left = c.loop-index.meter.left in
    let xs = c.items-items.result.now in
    let ys = c.items-others.result.now in
    let x = get_or xs i v.Nil in
    let y = get_or ys i v.Nil in
    let fewer : i < length ys = omega arith in
    let step = unticked c.tick.result left 1 c.tick.new.self.left c.tick.ensures.answer c.tick.ensures.left c.if-not-tick.true in
    let none : left ≡ 0 = omega (arith, step.0) in
    let rest = same_items (told.array_of (map (tell I) (drop (i + 1) xs))) (told.array_of (map (tell I) (drop (i + 1) ys))) in
    ap (λ (act : Act). act p) (same-sized I names c.args.heap.now c.args.one.0 c.args.other.0 xs ys fit c.items-items.ensures.items c.items-others.ensures.items c.if-items-others.false)
    ∙ c.loop-index.invariant.told I names p fit e
    ∙ ap (λ (act : Act). act (record p { left = left })) (at-pair I xs ys i x y c.loop-index-test.true fewer refl refl)
    ∙ unpaid (same (tell I x) (tell I y)) (if_same rest) (record p { left = left }) none
    ∙ ap (λ n. ends out_of_steps (record p { left = n })) (sym step.1)

pub are_same-returns-in_err-are_same-clause-told : goal.are_same-returns-in_err-are_same-clause-told
are_same-returns-in_err-are_same-clause-told t c = λ I names p fit e.
    let i = c.loop-index.index in
    let left = c.loop-index.meter.left in
    let xs = c.items-items.result.now in
    let ys = c.items-others.result.now in
    let x = get_or xs i v.Nil in
    let y = get_or ys i v.Nil in
    let fewer : i < length ys = omega arith in
    let q = record p { left = left } in
    let spent = c.tick.new.self.left in
    let step = ticked c.tick.result left 1 spent c.tick.ensures.answer c.tick.ensures.left c.if-not-tick.false in
    let rest = same_items (told.array_of (map (tell I) (drop (i + 1) xs))) (told.array_of (map (tell I) (drop (i + 1) ys))) in
    ap (λ (act : Act). act p) (same-sized I names c.args.heap.now c.args.one.0 c.args.other.0 xs ys fit c.items-items.ensures.items c.items-others.ensures.items c.if-items-others.false)
    ∙ c.loop-index.invariant.told I names p fit e
    ∙ ap (λ (act : Act). act q) (at-pair I xs ys i x y c.loop-index-test.true fewer refl refl)
    ∙ then-none (same (tell I x) (tell I y)) (if_same rest) q spent c.same.new.meter.left c.same.result step.0 step.1 (c.same.ensures.told I names (record q { left = spent }) fit refl) c.in_err-are_same.was
    ∙ ap (λ a. answer_seen a (record p { left = c.same.new.meter.left })) (sym c.from_residual.ensures)

pub are_same-returns-then-not-are_same-clause-told : goal.are_same-returns-then-not-are_same-clause-told
are_same-returns-then-not-are_same-clause-told t c = λ I names p fit e.
    let i = c.loop-index.index in
    let left = c.loop-index.meter.left in
    let xs = c.items-items.result.now in
    let ys = c.items-others.result.now in
    let x = get_or xs i v.Nil in
    let y = get_or ys i v.Nil in
    let fewer : i < length ys = omega arith in
    let q = record p { left = left } in
    let spent = c.tick.new.self.left in
    let step = ticked c.tick.result left 1 spent c.tick.ensures.answer c.tick.ensures.left c.if-not-tick.false in
    let rest = same_items (told.array_of (map (tell I) (drop (i + 1) xs))) (told.array_of (map (tell I) (drop (i + 1) ys))) in
    ap (λ (act : Act). act p) (same-sized I names c.args.heap.now c.args.one.0 c.args.other.0 xs ys fit c.items-items.ensures.items c.items-others.ensures.items c.if-items-others.false)
    ∙ c.loop-index.invariant.told I names p fit e
    ∙ ap (λ (act : Act). act q) (at-pair I xs ys i x y c.loop-index-test.true fewer refl refl)
    ∙ then-some (same (tell I x) (tell I y)) (if_same rest) q spent c.same.new.meter.left c.same.result step.0 step.1 (c.same.ensures.told I names (record q { left = spent }) fit refl) false (c.in_ok-are_same.was ∙ ap Some c.if-not-are_same.true)

pub are_same-loop-index-preserved : goal.are_same-loop-index-preserved
are_same-loop-index-preserved t c =
    let i = c.loop-index.index in
    let left = c.loop-index.meter.left in
    let xs = c.items-items.result.now in
    let ys = c.items-others.result.now in
    let x = get_or xs i v.Nil in
    let y = get_or ys i v.Nil in
    let fewer : i < length ys = omega arith in
    let spent = c.tick.new.self.left in
    let step = ticked c.tick.result left 1 spent c.tick.ensures.answer c.tick.ensures.left c.if-not-tick.false in
    record {
      depth = c.same.ensures.depth ∙ c.tick.ensures.depth ∙ c.loop-index.invariant.depth;
      told = λ I names p fit e.
          let q = record p { left = left } in
          let rest = same_items (told.array_of (map (tell I) (drop (i + 1) xs))) (told.array_of (map (tell I) (drop (i + 1) ys))) in
          c.loop-index.invariant.told I names p fit e
          ∙ ap (λ (act : Act). act q) (at-pair I xs ys i x y c.loop-index-test.true fewer refl refl)
          ∙ then-some (same (tell I x) (tell I y)) (if_same rest) q spent c.same.new.meter.left c.same.result step.0 step.1 (c.same.ensures.told I names (record q { left = spent }) fit refl) true (c.in_ok-are_same.was ∙ ap Some c.if-not-are_same.false);
    }

pub are_same-returns-clause-told : goal.are_same-returns-clause-told
are_same-returns-clause-told t c = λ I names p fit e.
    let left = c.loop-index.meter.left in
    let xs = c.items-items.result.now in
    let ys = c.items-others.result.now in
    let past : length xs ≤ c.loop-index.index = omega arith in
    let beyond : length ys ≤ c.loop-index.index = omega arith in
    ap (λ (act : Act). act p) (same-sized I names c.args.heap.now c.args.one.0 c.args.other.0 xs ys fit c.items-items.ensures.items c.items-others.ensures.items c.if-items-others.false)
    ∙ c.loop-index.invariant.told I names p fit e
    ∙ (λ j. same_items (told.array_of (map (tell I) (drop_of_length-le xs past j))) (told.array_of (map (tell I) (drop_of_length-le ys beyond j))) (record p { left = left }))

pub same-returns-clause-told : goal.same-returns-clause-told
same-returns-clause-told t c = λ I names p fit e.
    (λ j. same (tell I (c.in-Array.is j)) (tell I (c.in-Array-other.is j)) p) ∙ c.are_same.ensures.told I names p fit e
