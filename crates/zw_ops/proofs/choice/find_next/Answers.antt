use Rattle.std.proofs.Common.{◌≡◌, ◌<◌, ◌≤◌, Some, drop, length, map, refl, ap, sym, subst, ◌∙◌}
use Rattle.std.specs.List.{All}
use Rattle.zw_heap.specs.Telling.{tell}
use Rattle.zw_methods.specs.Line.{Place, places_of, told_place}
use Rattle.zw_ops.specs.Choice.{told_running}
use Rattle.zw_ops.specs.Line.{line_behind}
use Rattle.zw_ops.proofs.CallLemmas.{next-told, places-within}
use Rattle.zw_ops.proofs.ChoiceLemmas.{all_stand_in}
use Rattle.zw_ops.proofs.choice.find_next.Goals as goal

pub returns-clause-finds : goal.returns-clause-finds
returns-clause-finds c = λ I codes w tells.
    let names = c.args.names.now in
    let running = told_running I c.args.running in
    let same = c.deref.ensures.value ∙ sym c.deref-2.ensures.value in
    let behind = subst (λ l. drop c.place_behind-start.result l ≡ line_behind c.args.running.place c.args.running.earlier l) same c.place_behind-start.ensures.behind in
    let few = subst (λ l. c.place_behind-start.result ≤ length l) same c.place_behind-start.ensures.within in
    let places = ap places_of c.deref-2.ensures.value ∙ c.in_ok-line.ensures in
    let held = places-within (length c.args.heap.now.modules) c.deref-2.result.now (subst (All (λ (q : Place). q.0 < length c.args.heap.now.modules)) (sym places) (c.tells_line.ensures.held c.args.receiver c.requires.receiver)) in
    let found = c.chosen_from.ensures.finds I codes names w tells held in
    let line = c.tells_line.ensures.line I names w c.args.receiver tells.fits tells.heap c.requires.receiver ∙ ap (λ ps. Some (map (told_place I) ps)) (sym places) in (
      found.0,
      next-told I w (tell I c.args.receiver) running c.args.running.place c.deref-2.result.now c.place_behind-start.result refl behind few c.in_ok-passes.passes found.0 line (c.in_ok-passes.ensures.told I w tells.fits tells.heap) found.1,
      found.2,
    )

pub returns-clause-stands : goal.returns-clause-stands
returns-clause-stands c =
    all_stand_in c.args.heap.now c.args.methods.now c.args.names.now c.args.receiver c.in_ok-passes.passes c.args.running.name c.in_ok-passes.ensures.makes (places_of c.deref-2.result.now) c.chosen_from.result
    (ap places_of c.deref-2.ensures.value ∙ c.in_ok-line.ensures) c.chosen_from.ensures.found
