use Rattle.std.proofs.Common.{◌+◌, ◌≤◌, length, get_or, ap, ◌∙◌, refl, sym, subst, map, drop, arith}
use Rattle.std.specs.List.{All}
use Rattle.std.proofs.Math.ListN.{drop_of_length-le}
use Rattle.zw_def_world.specs.Act.{continued, go_on}
use Rattle.zw_def_world.specs.ArrayRows.{without_items, kept_unless}
use Rattle.zw_heap.specs.Telling.{tell}
use Rattle.zw_heap.specs.declared.value.Value.TheVariants as v
use Rattle.zw_arrays.specs.Answer.{answer_seen}
use Rattle.zw_arrays.specs.Item.{IsItem}
use Rattle.zw_arrays.proofs.ArrayLemmas.{without-step, map-kept, All-kept}
use Rattle.zw_arrays.proofs.array_kept.without_items.Goals as goal

pub returns-in_default-clause-told : goal.returns-in_default-clause-told
returns-in_default-clause-told c = λ I names p fit e.
    let i = c.loop-item.item-index in
    let xs = c.args.items.now in
    let x = get_or xs i v.Nil in
    let kept = c.loop-item.kept.items in
    let q = record p { left = c.loop-item.meter.left } in
    let later = c.is_among.new.meter.left in
    c.loop-item.invariant.told I names p fit e
    ∙ without-step I xs kept i x c.loop-item-test.true refl q later c.is_among.result (map (tell I) c.args.others.now) (c.is_among.ensures.told I names q fit refl)
    ∙ ap (λ a. continued (go_on (λ found. without_items (map (tell I) c.args.others.now) (kept_unless (tell I x) (map (tell I) kept) found) (map (tell I) (drop (i + 1) xs)))) (answer_seen a (record p { left = later }))) c.in_default.is

pub loop-item-preserved : goal.loop-item-preserved
loop-item-preserved c =
    let i = c.loop-item.item-index in
    let xs = c.args.items.now in
    let x = get_or xs i v.Nil in
    let kept = c.loop-item.kept.items in
    let found = c.in-Some.found in
    let later = c.is_among.new.meter.left in
    let h = c.args.heap.now in
    record {
      depth = c.is_among.ensures.depth ∙ c.loop-item.invariant.depth;
      items = subst (All (IsItem h)) (sym c.in_ok-keep_unless.ensures) (All-kept (IsItem h) found kept x c.loop-item.invariant.items (c.requires.items i v.Nil c.loop-item-test.true));
      told = λ I names p fit e.
          let q = record p { left = c.loop-item.meter.left } in
          c.loop-item.invariant.told I names p fit e
          ∙ without-step I xs kept i x c.loop-item-test.true refl q later c.is_among.result (map (tell I) c.args.others.now) (c.is_among.ensures.told I names q fit refl)
          ∙ ap (λ a. continued (go_on (λ found. without_items (map (tell I) c.args.others.now) (kept_unless (tell I x) (map (tell I) kept) found) (map (tell I) (drop (i + 1) xs)))) (answer_seen a (record p { left = later }))) c.in-Some.is
          ∙ ap (λ ks. without_items (map (tell I) c.args.others.now) ks (map (tell I) (drop (i + 1) xs)) (record p { left = later })) (sym (map-kept (tell I) found kept x) ∙ ap (map (tell I)) (sym c.in_ok-keep_unless.ensures));
    }

pub returns-clause-told : goal.returns-clause-told
returns-clause-told c = λ I names p fit e.
    let xs = c.args.items.now in
    let past : length xs ≤ c.loop-item.item-index = omega arith in
    c.loop-item.invariant.told I names p fit e
    ∙ ap (λ ys. without_items (map (tell I) c.args.others.now) (map (tell I) c.loop-item.kept.items) (map (tell I) ys) (record p { left = c.loop-item.meter.left })) (drop_of_length-le xs past)
