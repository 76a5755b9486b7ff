use Rattle.std.proofs.Common.{◌≡◌, ◌+◌, ◌≤◌, length, pos, Some, get_or, ap, ◌∙◌, refl, sym, map, drop, cond, true, false, arith}
use Rattle.std.proofs.Math.ListN.{drop_of_length-le}
use Rattle.zw_def_world.specs.Act.{Act, ends, gives, out_of_steps}
use Rattle.zw_def_world.specs.ArrayRows.{index_from}
use Rattle.zw_def_world.specs.Equality.{same}
use Rattle.zw_def_world.specs.Value.{int, is_true}
use Rattle.zw_heap.specs.Telling.{tell}
use Rattle.zw_heap.specs.declared.value.Value.TheVariants as v
use Rattle.zw_arrays.specs.Answer.{place_seen}
use Rattle.zw_arrays.proofs.EqualityLemmas.{index-at, ticked, unticked, unpaid, then-none, then-some}
use Rattle.zw_arrays.proofs.array_read.position.Goals as goal

pub returns-then-not-tick-clause-told : goal.returns-then-not-tick-clause-told
returns-then-not-tick-clause-told c = λ I names p fit e.
    let i = c.loop-index.index in
    let left = c.loop-index.meter.left in
    let xs = c.args.items.now in
    let x = get_or xs i v.Nil in
    let step = unticked c.tick.result left 1 c.tick.new.self.left c.tick.ensures.answer c.tick.ensures.left c.if-not-tick.true in
    let none : left ≡ 0 = omega (arith, step.0) in
    let value = tell I c.args.value in
    let q = record p { left = left } in
    c.loop-index.invariant.told I names p fit e
    ∙ ap (λ (act : Act). act q) (index-at I xs i x c.loop-index-test.true refl value i)
    ∙ unpaid (same (tell I x) value) (λ found. cond (is_true found) (gives (int (pos i))) (index_from (i + 1) value (map (tell I) (drop (i + 1) xs)))) q none
    ∙ ap (λ n. ends out_of_steps (record p { left = n })) (sym step.1)

pub returns-in_err-found-clause-told : goal.returns-in_err-found-clause-told
returns-in_err-found-clause-told c = λ I names p fit e.
    let i = c.loop-index.index in
    let left = c.loop-index.meter.left in
    let xs = c.args.items.now in
    let x = get_or xs i v.Nil in
    let spent = c.tick.new.self.left in
    let step = ticked c.tick.result left 1 spent c.tick.ensures.answer c.tick.ensures.left c.if-not-tick.false in
    let value = tell I c.args.value in
    let q = record p { left = left } in
    c.loop-index.invariant.told I names p fit e
    ∙ ap (λ (act : Act). act q) (index-at I xs i x c.loop-index-test.true refl value i)
    ∙ then-none (same (tell I x) value) (λ found. cond (is_true found) (gives (int (pos i))) (index_from (i + 1) value (map (tell I) (drop (i + 1) xs)))) q
    spent c.same.new.meter.left c.same.result step.0 step.1 (c.same.ensures.told I names (record q { left = spent }) fit refl) c.in_err-found.was
    ∙ ap (λ a. place_seen a (record p { left = c.same.new.meter.left })) (sym c.from_residual.ensures)

pub returns-then-found-clause-told : goal.returns-then-found-clause-told
returns-then-found-clause-told c = λ I names p fit e.
    let i = c.loop-index.index in
    let left = c.loop-index.meter.left in
    let xs = c.args.items.now in
    let x = get_or xs i v.Nil in
    let spent = c.tick.new.self.left in
    let step = ticked c.tick.result left 1 spent c.tick.ensures.answer c.tick.ensures.left c.if-not-tick.false in
    let value = tell I c.args.value in
    let q = record p { left = left } in
    c.loop-index.invariant.told I names p fit e
    ∙ ap (λ (act : Act). act q) (index-at I xs i x c.loop-index-test.true refl value i)
    ∙ then-some (same (tell I x) value) (λ found. cond (is_true found) (gives (int (pos i))) (index_from (i + 1) value (map (tell I) (drop (i + 1) xs)))) q
    spent c.same.new.meter.left c.same.result step.0 step.1 (c.same.ensures.told I names (record q { left = spent }) fit refl) true (c.in_ok-found.was ∙ ap Some c.if-found.true)

pub loop-index-preserved : goal.loop-index-preserved
loop-index-preserved c =
    let i = c.loop-index.index in
    let left = c.loop-index.meter.left in
    let xs = c.args.items.now in
    let x = get_or xs i v.Nil in
    let spent = c.tick.new.self.left in
    let step = ticked c.tick.result left 1 spent c.tick.ensures.answer c.tick.ensures.left c.if-not-tick.false in
    record {
      depth = c.same.ensures.depth ∙ c.tick.ensures.depth ∙ c.loop-index.invariant.depth;
      told = λ I names p fit e.
          let value = tell I c.args.value in
          let q = record p { left = left } in
          c.loop-index.invariant.told I names p fit e
          ∙ ap (λ (act : Act). act q) (index-at I xs i x c.loop-index-test.true refl value i)
          ∙ then-some (same (tell I x) value) (λ found. cond (is_true found) (gives (int (pos i))) (index_from (i + 1) value (map (tell I) (drop (i + 1) xs)))) q
          spent c.same.new.meter.left c.same.result step.0 step.1 (c.same.ensures.told I names (record q { left = spent }) fit refl) false (c.in_ok-found.was ∙ ap Some c.if-found.false);
    }

pub returns-clause-told : goal.returns-clause-told
returns-clause-told c = λ I names p fit e.
    let i = c.loop-index.index in
    let xs = c.args.items.now in
    let past : length xs ≤ i = omega arith in
    c.loop-index.invariant.told I names p fit e
    ∙ ap (λ ys. index_from i (tell I c.args.value) (map (tell I) ys) (record p { left = c.loop-index.meter.left })) (drop_of_length-le xs past)
