use Rattle.std.proofs.Common.{◌==◌, pos, ◌++◌, [], get_or, map, length, reverse, take, drop, filter, Ok, FitsSigned, refl, ap}
use Rattle.std.specs.Int.{w64}
use Rattle.std.proofs.lemmas.Int.{to_z-of_z}
use Rattle.zw_def_world.specs.Act.{gives, reading}
use Rattle.zw_def_world.specs.ArrayRows.{item_at, last_value, is_some_value, uniques, without_items, index_from, integers_tested, sum_of, join_texts}
use Rattle.zw_def_world.specs.Equality.{among}
use Rattle.zw_def_world.specs.IntegerRows.{counted}
use Rattle.zw_def_world.specs.Making.{makes_array, makes_integer, makes_text}
use Rattle.zw_def_world.specs.Site.{first, yes_or_no}
use Rattle.zw_def_world.specs.Value as told
use Rattle.zw_heap.specs.Heap.{sizes_of}
use Rattle.zw_heap.specs.Telling.{tell}
use Rattle.zw_heap.specs.declared.value.Value.TheVariants as v
use Rattle.zw_calls.specs.declared.array_row.ArrayRow.TheVariants as r
use Rattle.zw_arrays.proofs.ArrayLemmas.{arm, value_arm}
use Rattle.zw_arrays.proofs.array.act.Goals as goal

pub returns-in-Plus-clause-performs : goal.returns-in-Plus-clause-performs
returns-in-Plus-clause-performs c =
    let other = c.held_at-other.result in
    arm c.args.array c.args.args.now c.args.row c.plus.new.heap c.args.names.now c.args.meter.now.left c.plus.new.meter.left r.Plus (λ I. makes_array ((told.items_in (tell I (v.Array c.args.array))) ++ told.items_in (tell I other))) c.in-Plus.is
    (λ s I. ap (λ u. makes_array ((told.items_in (tell I (v.Array c.args.array))) ++ told.items_in u)) (c.held_at-other.ensures.told I)) c.plus.result (c.plus.ensures.performs c.args.names.now)

pub returns-in-Minus-clause-performs : goal.returns-in-Minus-clause-performs
returns-in-Minus-clause-performs c =
    let other = c.held_at-other.result in
    arm c.args.array c.args.args.now c.args.row c.minus.new.heap c.args.names.now c.args.meter.now.left c.minus.new.meter.left r.Minus (λ I. without_items (told.items_in (tell I other)) [] (told.items_in (tell I (v.Array c.args.array)))) c.in-Minus.is
    (λ s I. ap (λ u. without_items (told.items_in u) [] (told.items_in (tell I (v.Array c.args.array)))) (c.held_at-other.ensures.told I)) c.minus.result (c.minus.ensures.performs c.args.names.now)

pub returns-in-Reverse-clause-performs : goal.returns-in-Reverse-clause-performs
returns-in-Reverse-clause-performs c =
    arm c.args.array c.args.args.now c.args.row c.reversed.new.heap c.args.names.now c.args.meter.now.left c.reversed.new.meter.left r.Reverse (λ I. makes_array (reverse (told.items_in (tell I (v.Array c.args.array))))) c.in-Reverse.is
    (λ s I. refl) c.reversed.result (c.reversed.ensures.performs c.args.names.now)

pub returns-in-Take-clause-performs : goal.returns-in-Take-clause-performs
returns-in-Take-clause-performs c =
    let number = c.integer_at-number.result in
    let fits : FitsSigned w64 number = record { sfits = c.integer_at-number.type_inv } in
    let is = simp to_z-of_z at (c.take.ensures.performs c.args.names.now) in
    arm c.args.array c.args.args.now c.args.row c.take.new.heap c.args.names.now c.args.meter.now.left c.take.new.meter.left r.Take (λ I. counted (λ n. makes_array (take n (told.items_in (tell I (v.Array c.args.array))))) number) c.in-Take.is
    (λ s I. ap (λ z. counted (λ n. makes_array (take n (told.items_in (tell I (v.Array c.args.array))))) z) (c.integer_at-number.ensures I)) c.take.result is

pub returns-in-Drop-clause-performs : goal.returns-in-Drop-clause-performs
returns-in-Drop-clause-performs c =
    let number = c.integer_at-number.result in
    let fits : FitsSigned w64 number = record { sfits = c.integer_at-number.type_inv } in
    let is = simp to_z-of_z at (c.drop.ensures.performs c.args.names.now) in
    arm c.args.array c.args.args.now c.args.row c.drop.new.heap c.args.names.now c.args.meter.now.left c.drop.new.meter.left r.Drop (λ I. counted (λ n. makes_array (drop n (told.items_in (tell I (v.Array c.args.array))))) number) c.in-Drop.is
    (λ s I. ap (λ z. counted (λ n. makes_array (drop n (told.items_in (tell I (v.Array c.args.array))))) z) (c.integer_at-number.ensures I)) c.drop.result is

pub returns-in-Compact-clause-performs : goal.returns-in-Compact-clause-performs
returns-in-Compact-clause-performs c =
    arm c.args.array c.args.args.now c.args.row c.compact.new.heap c.args.names.now c.args.meter.now.left c.compact.new.meter.left r.Compact (λ I. makes_array (filter is_some_value (told.items_in (tell I (v.Array c.args.array))))) c.in-Compact.is
    (λ s I. refl) c.compact.result (c.compact.ensures.performs c.args.names.now)

pub returns-in-Uniq-clause-performs : goal.returns-in-Uniq-clause-performs
returns-in-Uniq-clause-performs c =
    arm c.args.array c.args.args.now c.args.row c.uniq.new.heap c.args.names.now c.args.meter.now.left c.uniq.new.meter.left r.Uniq (λ I. uniques [] (told.items_in (tell I (v.Array c.args.array)))) c.in-Uniq.is
    (λ s I. refl) c.uniq.result (c.uniq.ensures.performs c.args.names.now)

pub returns-in-Size-clause-performs : goal.returns-in-Size-clause-performs
returns-in-Size-clause-performs c =
    arm c.args.array c.args.args.now c.args.row c.args.heap.now c.args.names.now c.args.meter.now.left c.args.meter.now.left r.Size (λ I. gives (told.int (pos (length (told.items_in (tell I (v.Array c.args.array))))))) c.in-Size.is
    (λ s I. refl) c.size.result (c.size.ensures c.args.names.now c.args.meter.now.left)

pub returns-in-Length-clause-performs : goal.returns-in-Length-clause-performs
returns-in-Length-clause-performs c =
    arm c.args.array c.args.args.now c.args.row c.args.heap.now c.args.names.now c.args.meter.now.left c.args.meter.now.left r.Length (λ I. gives (told.int (pos (length (told.items_in (tell I (v.Array c.args.array))))))) c.in-Length.is
    (λ s I. refl) c.size-in-Length.result (c.size-in-Length.ensures c.args.names.now c.args.meter.now.left)

pub returns-in-IsEmpty-clause-performs : goal.returns-in-IsEmpty-clause-performs
returns-in-IsEmpty-clause-performs c =
    arm c.args.array c.args.args.now c.args.row c.args.heap.now c.args.names.now c.args.meter.now.left c.args.meter.now.left r.IsEmpty (λ I. yes_or_no (length (told.items_in (tell I (v.Array c.args.array))) == 0)) c.in-IsEmpty.is
    (λ s I. refl) (Ok c.is_empty.result) (c.is_empty.ensures c.args.names.now c.args.meter.now.left)

pub returns-in-At-clause-performs : goal.returns-in-At-clause-performs
returns-in-At-clause-performs c =
    let number = c.integer_at-number.result in
    let fits : FitsSigned w64 number = record { sfits = c.integer_at-number.type_inv } in
    value_arm c.args.array c.args.args.now c.args.row c.args.heap.now c.args.names.now c.args.meter.now.left c.args.meter.now.left r.At (λ I. item_at number (told.items_in (tell I (v.Array c.args.array)))) c.in-At.is
    (λ s I. ap (λ z. gives (item_at z (told.items_in (tell I (v.Array c.args.array))))) (c.integer_at-number.ensures I)) c.at.result refl (λ I fit. simp to_z-of_z at (c.at.ensures.told I c.args.names.now fit)) c.at.ensures.held

pub returns-in-First-clause-performs : goal.returns-in-First-clause-performs
returns-in-First-clause-performs c =
    value_arm c.args.array c.args.args.now c.args.row c.args.heap.now c.args.names.now c.args.meter.now.left c.args.meter.now.left r.First (λ I. first (told.items_in (tell I (v.Array c.args.array)))) c.in-First.is
    (λ s I. refl) c.first.result refl (λ I fit. c.first.ensures.told I c.args.names.now fit) c.first.ensures.held

pub returns-in-Last-clause-performs : goal.returns-in-Last-clause-performs
returns-in-Last-clause-performs c =
    value_arm c.args.array c.args.args.now c.args.row c.args.heap.now c.args.names.now c.args.meter.now.left c.args.meter.now.left r.Last (λ I. last_value told.nil (told.items_in (tell I (v.Array c.args.array)))) c.in-Last.is
    (λ s I. refl) c.last.result refl (λ I fit. c.last.ensures.told I c.args.names.now fit) c.last.ensures.held

pub returns-in-Includes-clause-performs : goal.returns-in-Includes-clause-performs
returns-in-Includes-clause-performs c =
    let other = c.held_at-other.result in
    arm c.args.array c.args.args.now c.args.row c.args.heap.now c.args.names.now c.args.meter.now.left c.includes.new.meter.left r.Includes (λ I. among (tell I other) (told.items_in (tell I (v.Array c.args.array)))) c.in-Includes.is
    (λ s I. ap (λ u. among u (told.items_in (tell I (v.Array c.args.array)))) (c.held_at-other.ensures.told I)) (Ok c.includes.result) (c.includes.ensures.performs c.args.names.now)

pub returns-in-Index-clause-performs : goal.returns-in-Index-clause-performs
returns-in-Index-clause-performs c =
    let other = c.held_at-other.result in
    arm c.args.array c.args.args.now c.args.row c.args.heap.now c.args.names.now c.args.meter.now.left c.index.new.meter.left r.Index (λ I. index_from 0 (tell I other) (told.items_in (tell I (v.Array c.args.array)))) c.in-Index.is
    (λ s I. ap (λ u. index_from 0 u (told.items_in (tell I (v.Array c.args.array)))) (c.held_at-other.ensures.told I)) c.index.result (c.index.ensures.performs c.args.names.now)

pub returns-in-Join-clause-performs : goal.returns-in-Join-clause-performs
returns-in-Join-clause-performs c =
    arm c.args.array c.args.args.now c.args.row c.join.new.heap c.args.names.now c.args.meter.now.left c.join.new.meter.left r.Join
    (λ I. reading (λ w. join_texts w (told.text_in (get_or (map (tell I) c.args.args.now) 0 told.nil)) (told.items_in (tell I (v.Array c.args.array)))) makes_text) c.in-Join.is
    (λ s I. refl) c.join.result c.join.ensures.performs

pub returns-in-Sum-clause-performs : goal.returns-in-Sum-clause-performs
returns-in-Sum-clause-performs c =
    arm c.args.array c.args.args.now c.args.row c.args.heap.now c.args.names.now c.args.meter.now.left c.args.meter.now.left r.Sum
    (λ I. integers_tested (told.items_in (tell I (v.Array c.args.array))) (makes_integer (sum_of (pos 0) (told.items_in (tell I (v.Array c.args.array)))))) c.in-Sum.is
    (λ s I. refl) c.sum.result (c.sum.ensures c.args.meter.now.left)

pub plus-requires-clause-other : goal.plus-requires-clause-other
plus-requires-clause-other c = c.held_at-other.ensures.held (sizes_of c.args.heap.now) c.requires.arguments

pub minus-requires-clause-other : goal.minus-requires-clause-other
minus-requires-clause-other c = c.held_at-other.ensures.held (sizes_of c.args.heap.now) c.requires.arguments

pub includes-requires-clause-value : goal.includes-requires-clause-value
includes-requires-clause-value c = c.held_at-other.ensures.held (sizes_of c.args.heap.now) c.requires.arguments

pub index-requires-clause-value : goal.index-requires-clause-value
index-requires-clause-value c = c.held_at-other.ensures.held (sizes_of c.args.heap.now) c.requires.arguments
