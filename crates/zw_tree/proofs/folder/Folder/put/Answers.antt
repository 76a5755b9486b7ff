use Rattle.std.proofs.Common.{◌≡◌, ◌<◌, [], ◌∷◌, length, map, take, drop, get_or, suc, string_bytes, ap, sym, arith, subst}
use Rattle.std.specs.Prelude.{OnOk, OnErr}
use Rattle.std.specs.Vec.{vec_len}
use Rattle.std.proofs.lemmas.List.{length-map}
use Rattle.zw_def.specs.Path.{Path}
use Rattle.zw_tree.specs.Row.{told}
use Rattle.zw_tree.specs.Sound.{IsSound}
use Rattle.zw_tree.specs.Places.{Places}
use Rattle.zw_tree.specs.AtEnd.{put_at}
use Rattle.zw_tree.specs.Edit.{tree_with}
use Rattle.zw_tree.specs.Trail.{Leads}
use Rattle.zw_tree.proofs.ListLemmas.{rest_told}
use Rattle.zw_tree.proofs.WayLemmas.{after_put_sound, after_put_told, after_put_same}
use Rattle.zw_tree.proofs.folder.Folder.put.Goals as goal

pub put_at-put-requires-clause-place : goal.put_at-put-requires-clause-place
put_at-put-requires-clause-place c =
    let end = c.open-here in
    let rest = rest_told (λ s. string_bytes s) c.args.components.now (vec_len end.new.trail) c.len-depth.result [] c.len-depth.ensures end.ensures.within in
    subst (λ name. Places end.result.here name end.result.place) (sym (ap (λ (p : Path). get_or p 0 []) rest)) end.ensures.place

pub returns-clause-sound : goal.returns-clause-sound
returns-clause-sound c =
    let rows = c.args.self.now in
    let path : Path = map (λ s. string_bytes s) c.args.components.now in
    let end = c.open-here in
    let d = vec_len end.new.trail in
    let size = length-map c.args.components.now (λ s. string_bytes s) in
    let lt : d < length path = omega (arith, end.ensures.within, size) in
    let leads : Leads rows (take d path) end.new.trail.items end.result.here = subst (λ rs. Leads rs (take d path) end.new.trail.items end.result.here) c.replace-top.ensures.value end.ensures.leads in
    let rest = rest_told (λ s. string_bytes s) c.args.components.now d c.len-depth.result [] c.len-depth.ensures end.ensures.within in
    let ok : OnOk c.put_at-put.result (c.put_at-put.new.here ≡ put_at end.result.here (get_or path d [] ∷ drop (suc d) path) c.args.bytes end.result.place) = subst (λ p. OnOk c.put_at-put.result (c.put_at-put.new.here ≡ put_at end.result.here p c.args.bytes end.result.place)) rest c.put_at-put.ensures.ok in
    subst IsSound (sym c.close.ensures) (after_put_sound rows path d end.new.trail.items end.result.here end.result.place c.requires.sound lt leads end.ensures.place (λ more. end.ensures.end (omega (arith, more, size))) c.args.bytes c.requires.free c.put_at-put.new.here c.put_at-put.result ok c.put_at-put.ensures.err)

pub returns-clause-ok : goal.returns-clause-ok
returns-clause-ok c =
    let rows = c.args.self.now in
    let path : Path = map (λ s. string_bytes s) c.args.components.now in
    let end = c.open-here in
    let d = vec_len end.new.trail in
    let size = length-map c.args.components.now (λ s. string_bytes s) in
    let lt : d < length path = omega (arith, end.ensures.within, size) in
    let leads : Leads rows (take d path) end.new.trail.items end.result.here = subst (λ rs. Leads rs (take d path) end.new.trail.items end.result.here) c.replace-top.ensures.value end.ensures.leads in
    let rest = rest_told (λ s. string_bytes s) c.args.components.now d c.len-depth.result [] c.len-depth.ensures end.ensures.within in
    let ok : OnOk c.put_at-put.result (c.put_at-put.new.here ≡ put_at end.result.here (get_or path d [] ∷ drop (suc d) path) c.args.bytes end.result.place) = subst (λ p. OnOk c.put_at-put.result (c.put_at-put.new.here ≡ put_at end.result.here p c.args.bytes end.result.place)) rest c.put_at-put.ensures.ok in
    subst (λ x. OnOk c.put_at-put.result (told x ≡ tree_with (told rows) path c.args.bytes)) (sym c.close.ensures) (after_put_told rows path d end.new.trail.items end.result.here end.result.place c.requires.sound lt leads end.ensures.place (λ more. end.ensures.end (omega (arith, more, size))) c.args.bytes c.requires.free c.put_at-put.new.here c.put_at-put.result ok)

pub returns-clause-err : goal.returns-clause-err
returns-clause-err c =
    let rows = c.args.self.now in
    let path : Path = map (λ s. string_bytes s) c.args.components.now in
    let end = c.open-here in
    let d = vec_len end.new.trail in
    let size = length-map c.args.components.now (λ s. string_bytes s) in
    let lt : d < length path = omega (arith, end.ensures.within, size) in
    let leads : Leads rows (take d path) end.new.trail.items end.result.here = subst (λ rs. Leads rs (take d path) end.new.trail.items end.result.here) c.replace-top.ensures.value end.ensures.leads in
    subst (λ x. OnErr c.put_at-put.result (x ≡ rows)) (sym c.close.ensures) (after_put_same rows path d end.new.trail.items end.result.here end.result.place c.requires.sound lt leads end.ensures.place (λ more. end.ensures.end (omega (arith, more, size))) c.args.bytes c.requires.free c.put_at-put.new.here c.put_at-put.result c.put_at-put.ensures.err)
