use Rattle.std.proofs.Common.{◌≡◌, ◌-◌, ◌<◌, refl, ap, ◌∙◌, arith, rules}
use Rattle.std.specs.Vec.{vec_len}
use Rattle.zw_tree.specs.Row.{rows_within}
use Rattle.zw_tree.specs.Seen.{row_seen, rows_seen, node_seen}
use Rattle.zw_tree.proofs.ListLemmas.{last_of, map-last, none_of}
use Rattle.zw_tree.proofs.CountLemmas.{down_falls, up_falls}
use Rattle.std.specs.Global.{Box}
use Rattle.std.specs.Box.{with_value}
use Rattle.zw_tree.specs.declared.folder.Entry.{Entry}
use Rattle.zw_tree.proofs.folder.free.Goals as goal

pub walk-smaller-in-Some : goal.walk-smaller-in-Some
walk-smaller-in-Some c =
    let entry = c.in-Some.entry.now in
    let some : 0 < vec_len c.walk.here = c.in-Some.ensures.variant.0 refl in
    let last = last_of c.walk.here.items (vec_len c.walk.here - 1) entry (omega (arith, c.walk.here.ok, some)) c.in-Some.ensures.value in
    let new : Entry = record { name = c.deref_mut.result.now.name; node = c.replace-node.new.dest } in
    let held = with_value entry new in
    let is : c.deref_mut.result.now ≡ entry.value = c.deref_mut.ensures.value in
    down_falls (rows_seen c.walk.here.items) (rows_seen c.walk.above.items) (rows_seen last.front) (row_seen entry.value) (row_seen new)
    (ap rows_seen last.is ∙ map-last (λ (e : Box Entry). row_seen e.value) last.front entry)
    (ap node_seen c.replace-node.ensures.after)
    _ _
    (c.into_entries-here.ensures ∙ ap (λ node. rows_within (node_seen node)) c.replace-node.ensures.value ∙ ap (λ (e : Entry). rows_within (node_seen e.node)) is)
    (ap rows_seen (last.put held) ∙ map-last (λ (e : Box Entry). row_seen e.value) last.front held)

pub walk-smaller : goal.walk-smaller
walk-smaller c =
    let entry = c.in-Some-pop.entry in
    let none : vec_len c.walk.here ≡ 0 = search rules in
    up_falls (rows_seen c.walk.here.items) (rows_seen c.walk.above.items) (rows_seen c.pop.new.self.items) (row_seen entry.value)
    (ap rows_seen (none_of c.walk.here.items (omega (arith, c.walk.here.ok, none))))
    (ap rows_seen c.in-Some-pop.ensures.items ∙ map-last (λ (e : Box Entry). row_seen e.value) c.pop.new.self.items entry)
    _ _
    refl
    (c.into_entries-above.ensures ∙ ap (λ (e : Entry). rows_within (node_seen e.node)) c.into_inner-name.ensures)
