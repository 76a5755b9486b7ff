use Rattle.std.proofs.Common.{◌<◌, Some, length, map, ap, sym, subst, ◌∙◌}
use Rattle.std.specs.List.{All}
use Rattle.zw_heap.specs.Telling.{tell}
use Rattle.zw_methods.specs.Line.{Place, places_of, told_place}
use Rattle.zw_ops.proofs.CallLemmas.{method-told, places-within}
use Rattle.zw_ops.proofs.ChoiceLemmas.{all_stand_in}
use Rattle.zw_ops.proofs.choice.find_method.Goals as goal

pub returns-clause-finds : goal.returns-clause-finds
returns-clause-finds c = λ I codes w tells.
    let names = c.args.names.now in
    let places = ap places_of c.deref.ensures.value ∙ c.in_ok-line.ensures in
    let held = places-within (length c.args.heap.now.modules) c.deref.result.now (subst (All (λ (p : Place). p.0 < length c.args.heap.now.modules)) (sym places) (c.tells_line.ensures.held c.args.receiver c.requires.receiver)) in
    let found = c.chosen_from.ensures.finds I codes names w tells held in
    let line = c.tells_line.ensures.line I names w c.args.receiver tells.fits tells.heap c.requires.receiver ∙ ap (λ ps. Some (map (told_place I) ps)) (sym places) in (
      found.0,
      method-told w (tell I c.args.receiver) (I.name c.args.name.0) (map (told_place I) (places_of c.deref.result.now)) c.in_ok-passes.passes found.0 line (c.in_ok-passes.ensures.told I w tells.fits tells.heap) found.1,
      found.2,
    )

pub returns-clause-stands : goal.returns-clause-stands
returns-clause-stands c =
    all_stand_in c.args.heap.now c.args.methods.now c.args.names.now c.args.receiver c.in_ok-passes.passes c.args.name c.in_ok-passes.ensures.makes (places_of c.deref.result.now) c.chosen_from.result
    (ap places_of c.deref.ensures.value ∙ c.in_ok-line.ensures) c.chosen_from.ensures.found
