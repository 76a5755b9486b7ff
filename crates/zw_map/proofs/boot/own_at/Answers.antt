use Rattle.std.proofs.Common.{map, ap, sym, ◌∙◌}
use Rattle.std.specs.Option.{option_map}
use Rattle.std.specs.Str.{bytes_eq}
use Rattle.zw_map.proofs.BootLemmas.{find_more, find_hit}
use Rattle.zw_map.proofs.boot.own_at.Goals as goal

pub returns-then-are_same : goal.returns-then-are_same
returns-then-are_same c =
    let q = map (λ n. n.0) c.args.names.now in
    let hit = sym (c.are_same.ensures ∙ ap (λ p. bytes_eq p q) c.names.ensures) ∙ c.if-are_same.true in
    sym (ap (option_map (λ row. row.1)) (find_hit (λ row. bytes_eq row.0 q) c.args.boot.now c.loop-row.row-index c.row-item.result c.loop-row.invariant c.loop-row-test.true c.row-item.is hit))

pub loop-row-preserved : goal.loop-row-preserved
loop-row-preserved c =
    let q = map (λ n. n.0) c.args.names.now in
    let other = sym (c.are_same.ensures ∙ ap (λ p. bytes_eq p q) c.names.ensures) ∙ c.if-are_same.false in
    find_more (λ row. bytes_eq row.0 q) c.args.boot.now c.loop-row.row-index c.row-item.result c.loop-row.invariant c.loop-row-test.true c.row-item.is other
