use Rattle.std.proofs.Common.{◌++◌, [], map, length, get_or, filter_map, ap, sym, subst, ◌<◌, ◌∙◌}
use Rattle.std.specs.List.{All, cons_option}
use Rattle.std.proofs.lemmas.List.{take_all}
use Rattle.zw_def.specs.Names.{AreNamed, texts_of}
use Rattle.zw_def.specs.Map.{map_of}
use Rattle.zw_map.specs.BootSeen.{boot_seen}
use Rattle.zw_map.specs.KeySeen.{IsKeyNamed, kept_told, key_seen, key_told}
use Rattle.zw_map.specs.Order.{all_paths}
use Rattle.zw_map.proofs.ClaimLemmas.{filter_map_told, map_some, all_with, item_of, kept_rows}
use Rattle.zw_map.proofs.key.keys.Goals as goal

pub loop-path-preserved : goal.loop-path-preserved
loop-path-preserved c =
    let inv = c.loop-path.invariant in
    let names = c.args.names.now in
    let items = c.deref-path-items.ensures.value in
    let named = item_of (AreNamed names) c.in_ok-order.field-0.items c.loop-path.path-index c.path-item.result c.in_ok-order.ensures.named (subst (λ ps. c.loop-path.path-index < length ps) items c.loop-path-test.true) (c.path-item.is ∙ ap (λ ps. get_or ps c.loop-path.path-index c.path-item.result) items) in (
      (λ layout tree scan.
          let kept = kept_told layout tree (boot_seen names c.args.boot.now) in
          ap (map (key_seen names)) c.in_ok-push_some.ensures
          ∙ map_some (key_seen names) c.loop-path.rows.items c.in_ok-row.row
          ∙ (λ i. inv.0 layout tree scan i ++ cons_option (c.in_ok-row.ensures.told names layout tree scan c.are_distinct.ensures c.requires.boot named i) [])
          ∙ sym (filter_map_told kept (texts_of names) c.deref-path-items.result.now c.loop-path.path-index c.path-item.result c.loop-path-test.true c.path-item.is)),
      subst (All (IsKeyNamed names)) (sym c.in_ok-push_some.ensures) (all_with (IsKeyNamed names) c.loop-path.rows.items c.in_ok-row.row inv.1 (c.in_ok-row.ensures.named names named)),
    )

pub returns-clause-told : goal.returns-clause-told
unfolding map_of
returns-clause-told c layout tree scan =
    let names = c.args.names.now in
    let boot = boot_seen names c.args.boot.now in
    c.loop-path.invariant.0 layout tree scan
    ∙ ap (λ ps. filter_map (kept_told layout tree boot) (map (texts_of names) ps)) (take_all c.loop-path.path-index c.deref-path-items.result.now c.loop-path-test.false ∙ c.deref-path-items.ensures.value)
    ∙ ap (filter_map (kept_told layout tree boot)) (c.in_ok-order.ensures.told layout tree scan)
    ∙ kept_rows boot (key_told layout tree) (all_paths layout tree)
