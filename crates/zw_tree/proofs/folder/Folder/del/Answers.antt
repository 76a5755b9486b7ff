use Rattle.std.proofs.Common.{◌+◌, ◌<◌, length, map, take, string_bytes, ap, sym, ◌∙◌, arith, subst}
use Rattle.std.specs.Vec.{vec_len}
use Rattle.std.proofs.lemmas.List.{length-map}
use Rattle.zw_def.specs.Path.{Path}
use Rattle.zw_tree.specs.Row.{told}
use Rattle.zw_tree.specs.Sound.{IsSound}
use Rattle.zw_tree.specs.Trail.{Leads, closed}
use Rattle.zw_tree.proofs.ListLemmas.{same_number, other_number}
use Rattle.zw_tree.proofs.WayLemmas.{way_del, way_del_sound}
use Rattle.zw_tree.proofs.folder.Folder.del.Goals as goal

pub returns-clause-sound : goal.returns-clause-sound
returns-clause-sound c =
    let rows = c.args.self.now in
    let path : Path = map (λ s. string_bytes s) c.args.components.now in
    let end = c.open-here in
    let d = vec_len end.new.trail in
    let size = length-map c.args.components.now (λ s. string_bytes s) in
    let lt : d < length path = omega (arith, end.ensures.within, size) in
    let leads : Leads rows (take d path) end.new.trail.items end.result.here = subst (λ rs. Leads rs (take d path) end.new.trail.items end.result.here) c.replace-top.ensures.value end.ensures.leads in
    subst IsSound (sym (c.close.ensures ∙ ap (closed end.new.trail.items) c.del_at.ensures))
    (way_del_sound rows path d end.new.trail.items end.result.here end.result.place c.requires.sound lt leads end.ensures.place (λ more. end.ensures.end (omega (arith, more, size))) _ (λ e. omega (arith, same_number (c.len-depth.result + 1) (length c.args.components.now) e, c.len-depth.ensures, size)) (λ e. omega (arith, other_number (c.len-depth.result + 1) (length c.args.components.now) e, c.len-depth.ensures, size, lt)))

pub returns-clause-ok : goal.returns-clause-ok
returns-clause-ok c =
    let rows = c.args.self.now in
    let path : Path = map (λ s. string_bytes s) c.args.components.now in
    let end = c.open-here in
    let d = vec_len end.new.trail in
    let size = length-map c.args.components.now (λ s. string_bytes s) in
    let lt : d < length path = omega (arith, end.ensures.within, size) in
    let leads : Leads rows (take d path) end.new.trail.items end.result.here = subst (λ rs. Leads rs (take d path) end.new.trail.items end.result.here) c.replace-top.ensures.value end.ensures.leads in
    ap told (c.close.ensures ∙ ap (closed end.new.trail.items) c.del_at.ensures)
    ∙ way_del rows path d end.new.trail.items end.result.here end.result.place c.requires.sound lt leads end.ensures.place (λ more. end.ensures.end (omega (arith, more, size))) _ (λ e. omega (arith, same_number (c.len-depth.result + 1) (length c.args.components.now) e, c.len-depth.ensures, size)) (λ e. omega (arith, other_number (c.len-depth.result + 1) (length c.args.components.now) e, c.len-depth.ensures, size, lt))
