use Rattle.std.proofs.Common.{◌≡◌, ◌+◌, ◌≤◌, ◌++◌, length, get_or, ap, ◌∙◌, refl, sym, subst, map, drop, filter, not, arith}
use Rattle.std.specs.List.{All}
use Rattle.std.proofs.Math.ListN.{drop_of_length-le}
use Rattle.std.proofs.lemmas.List.{append-nil}
use Rattle.zw_def_world.specs.ArrayRows.{is_some_value}
use Rattle.zw_heap.specs.Telling.{Telling, tell}
use Rattle.zw_heap.specs.declared.value.Value.TheVariants as v
use Rattle.zw_arrays.specs.Item.{IsItem}
use Rattle.zw_arrays.proofs.EqualityLemmas.{drop-read}
use Rattle.zw_arrays.proofs.ArrayLemmas.{All-kept, some-step, some-is}
use Rattle.zw_arrays.proofs.array_parts.some_items.Goals as goal
use Rattle.zw_arrays.proofs.array_parts.some_items.Goals.{in-Nil, in_default}

pub loop-item-preserved : goal.loop-item-preserved
loop-item-preserved c =
    let i = c.loop-item.item-index in
    let xs = c.args.items.now in
    let x = get_or xs i v.Nil in
    let some = c.loop-item.some.items in
    let is_nil = c.match-matches.matches in
    let flag : (I : Telling) → is_some_value (tell I x) ≡ not is_nil = λ I.
    elim c.match-matches.branch [
      | in-Nil w ↦ ap (λ y. is_some_value (tell I y)) w.in-Nil.is ∙ ap not (sym w.matches-is)
      | in_default w ↦ some-is I x w.in_default.not-Nil ∙ ap not (sym w.matches-is)
    ]
    in
    record {
      items = λ h all. subst (All (IsItem h)) (sym c.in_ok-keep_unless.ensures) (All-kept (IsItem h) is_nil some x (c.loop-item.invariant.items h all) (all i v.Nil c.loop-item-test.true));
      told = λ I.
          let later = map (tell I) (drop (i + 1) xs) in
          ap (λ ys. map (tell I) ys ++ filter is_some_value later) c.in_ok-keep_unless.ensures
          ∙ some-step I x is_nil some later (flag I)
          ∙ ap (λ ys. map (tell I) some ++ filter is_some_value (map (tell I) ys)) (sym (drop-read xs i x c.loop-item-test.true refl))
          ∙ c.loop-item.invariant.told I;
    }

pub returns-clause-told : goal.returns-clause-told
returns-clause-told c = λ I.
    let xs = c.args.items.now in
    let some = map (tell I) c.loop-item.some.items in
    let past : length xs ≤ c.loop-item.item-index = omega arith in
    sym (append-nil some)
    ∙ ap (λ ys. some ++ filter is_some_value (map (tell I) ys)) (sym (drop_of_length-le xs past))
    ∙ c.loop-item.invariant.told I
