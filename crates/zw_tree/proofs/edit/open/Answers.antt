use Rattle.std.proofs.Common.{◌≡◌, ◌<◌, Some, [], length, map, take, get_or, string_bytes, ap, sym, ◌∙◌, arith, subst}
use Rattle.std.specs.Vec.{vec_len}
use Rattle.std.proofs.lemmas.List.{length-map}
use Rattle.zw_def.specs.Path.{Path}
use Rattle.zw_tree.specs.Row.{folder, no_rows}
use Rattle.zw_tree.specs.Lookup.{with_node, folder_at}
use Rattle.zw_tree.specs.Places.{Found}
use Rattle.zw_tree.specs.Trail.{Leads}
use Rattle.zw_tree.proofs.ListLemmas.{take-more, read-map}
use Rattle.zw_tree.proofs.RowLemmas.{with_node-length, found_within}
use Rattle.zw_tree.proofs.TrailLemmas.{leads_more, leads_sound, opened}
use Rattle.zw_tree.proofs.edit.open.Goals as goal

pub invariant_of-push_reserved : goal.invariant_of-push_reserved
invariant_of-push_reserved c =
    let rows : c.take_folder.new.self ≡ with_node c.down.here c.in-Ok.at (folder no_rows) = c.in-Some.ensures.rows in
    record { within = omega (arith, ap length rows, with_node-length c.down.here c.in-Ok.at (folder no_rows), found_within c.down.here c.as_str.result.now c.in-Ok.at c.in-Ok.ensures) }

pub down-preserved : goal.down-preserved
down-preserved c =
    let path : Path = map (λ s. string_bytes s) c.args.components.now in
    let d = vec_len c.down.trail in
    let lt : d < length path = omega (arith, c.down.invariant.within, length-map c.args.components.now (λ s. string_bytes s)) in
    let rows : c.take_folder.new.self ≡ with_node c.down.here c.in-Ok.at (folder no_rows) = c.in-Some.ensures.rows in
    let answer : Some c.in-Some.below ≡ folder_at c.down.here c.in-Ok.at = c.in-Some.ensures.answer in
    let name : c.as_str.result.now ≡ get_or path d [] = c.as_str.ensures.value ∙ sym (ap (λ n. get_or path n []) (sym c.len-depth.ensures) ∙ read-map (λ s. string_bytes s) c.args.components.now c.len-depth.result c.index-components-depth.result [] (omega (arith, c.len-depth.ensures, c.down.invariant.within)) c.index-components-depth.is) in
    let more = take-more path d (vec_len c.push_reserved.new.self) [] lt (omega (arith, c.push_reserved.ensures.len)) in
    let now : Leads c.args.top (take (vec_len c.push_reserved.new.self) path) c.push_reserved.new.self.items c.in-Some.below = rw (more, c.push_reserved.ensures.items) (leads_more c.args.top (take d path) c.down.trail.items c.down.here c.down.invariant.leads (get_or path d []) _ c.in-Some.below (opened c.down.here (get_or path d []) _ c.in-Some.below (subst (λ n. Found c.down.here n c.in-Ok.at) name c.in-Ok.ensures) (sym answer) rows)) in
    let on = c.if-depth-components.false in
    record {
      sound = leads_sound c.args.top _ _ c.in-Some.below c.requires.sound now;
      within = omega (arith, c.push_reserved.ensures.len, c.down.invariant.within, c.len-depth.ensures, on);
      room = omega (arith, c.push_reserved.ensures.capacity, c.down.invariant.room);
      leads = now;
    }
