use Rattle.std.proofs.Common.{map, string_bytes, Some, ap, sym, ◌∙◌}
use Rattle.zw_map.proofs.SortedLemmas.{number_at, texts_more}
use Rattle.zw_map.proofs.sorted.texts.Goals as goal

pub text-requires : goal.text-requires
text-requires c =
    number_at c.args.names.now (λ n. n.0) c.names-name-items.result.now c.args.path.now c.names-name-items.ensures c.requires c.loop-name.name-index _ c.loop-name-test.true

pub loop-name-preserved : goal.loop-name-preserved
loop-name-preserved c =
    ap (map string_bytes) c.in_ok-push.ensures.items
    ∙ texts_more c.args.names.now (λ n. n.0) c.names-name-items.result.now c.args.path.now c.names-name-items.ensures c.loop-name.name-index _ c.loop-name-test.true c.loop-name.texts.items c.in_ok-from_str.field-0 c.loop-name.invariant (c.text.ensures ∙ ap Some (sym c.in_ok-from_str.ensures.ok))
