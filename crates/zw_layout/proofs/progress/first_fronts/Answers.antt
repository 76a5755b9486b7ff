use Rattle.std.proofs.Common.{map, take, string_bytes, ap, ◌∙◌, ◌&&◌}
use Rattle.zw_def.specs.Pattern.{is_double_star}
use Rattle.zw_layout.proofs.NestingLemmas.{take-next}
use Rattle.zw_layout.proofs.ProgressLemmas.{none_step}
use Rattle.zw_layout.proofs.progress.first_fronts.Goals as goal

pub loop-symbol-preserved : goal.loop-symbol-preserved
loop-symbol-preserved c =
    let done = take c.loop-symbol.symbol-index (map string_bytes c.args.pattern.now) in
    let symbol = string_bytes c.symbol-item.result in
    let more = take-next (λ s. string_bytes s) c.args.pattern.now c.loop-symbol.symbol-index c.symbol-item.result c.loop-symbol-test.true c.symbol-item.is in
    let stands = c.stands_for_none-stands.ensures ∙ ap (λ s. is_double_star s && c.loop-symbol.stands) c.deref.ensures in
    rw (c.in_ok-push-2.ensures.items, more) (none_step done symbol c.loop-symbol.fronts.items c.loop-symbol.stands _ c.loop-symbol.invariant.0 c.loop-symbol.invariant.1 stands)
