use Rattle.std.proofs.Common.{◌≡◌, ◌-◌, ap, ◌∙◌, map, length, get_or, arith}
use Rattle.std.proofs.lemmas.List.{length-map}
use Rattle.zw_def_world.specs.Value.{nil}
use Rattle.zw_heap.specs.Telling.{tell}
use Rattle.zw_arrays.proofs.ArrayLemmas.{last-is}
use Rattle.zw_arrays.proofs.array_read.last_of.Goals as goal

pub returns-clause-told : goal.returns-clause-told
returns-clause-told c = λ I.
    let us = map (tell I) c.args.items.now in
    let len = length-map c.args.items.now (tell I) in
    let place : length us - 1 ≡ c.saturating_sub.result = omega (arith, len) in
    last-is us ∙ ap (λ n. get_or us n nil) place ∙ c.held_at.ensures.told I
