use Rattle.std.proofs.Common.{false, ap, sym, ◌∙◌}
use Rattle.std.specs.Option.{option_map, unwrap_or}
use Rattle.zw_map.specs.BootSeen.{row_at}
use Rattle.zw_map.proofs.BootLemmas.{own_told}
use Rattle.zw_map.proofs.boot.is_module.Goals as goal

pub returns-in-Some : goal.returns-in-Some
returns-in-Some c names distinct boot_named named =
    ap (λ o. unwrap_or o false) (sym c.in-Some.is ∙ c.own_at.ensures ∙ ap (λ q. option_map (λ row. row.1) (row_at c.args.boot.now q)) c.names.ensures)
    ∙ sym (own_told names distinct c.args.boot.now boot_named c.args.path.now named)

pub returns-in-None : goal.returns-in-None
returns-in-None c names distinct boot_named named =
    ap (λ o. unwrap_or o false) (sym c.in-None.is ∙ c.own_at.ensures ∙ ap (λ q. option_map (λ row. row.1) (row_at c.args.boot.now q)) c.names.ensures)
    ∙ sym (own_told names distinct c.args.boot.now boot_named c.args.path.now named)
