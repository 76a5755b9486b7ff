use Rattle.std.proofs.Common.{ap, ◌∙◌, ◌++◌, map}
use Rattle.zw_places.specs.Place.{place_seen}
use Rattle.zw_places.proofs.ParameterLemmas.{repeats_by_number}
use Rattle.zw_places.proofs.check.repeats_parameter.Goals as goal

pub returns-in_ok-all-in-Def : goal.returns-in_ok-all-in-Def
returns-in_ok-all-in-Def c =
    let named = c.in_ok-all-in-Def.ensures in
    repeats_by_number (place_seen c.args.place) c.args.node.now c.in-Def.required c.in-Def.defaults c.as_slice-in-Def-2.result.now c.has_repeat.result c.in-Def.is
    (c.as_slice-in-Def-2.ensures.value ∙ named ∙ ap (λ xs. xs ++ map (λ d. d.name) c.as_slice-in-Def.result.now) c.as_slice.ensures
    ∙ ap (λ ds. c.in-Def.required ++ map (λ d. d.name) ds) c.as_slice-in-Def.ensures)
    c.has_repeat.ensures
