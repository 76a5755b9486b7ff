use Rattle.std.proofs.Common.{None, Some, false, cond, ap, sym, ◌∙◌}
use Rattle.zw_def.specs.Names.{texts_of}
use Rattle.zw_map.specs.KeySeen.{key_told}
use Rattle.zw_map.proofs.ClaimLemmas.{kept_is}
use Rattle.zw_map.proofs.key.kept_row.Goals as goal

pub returns-clause-told : goal.returns-clause-told
returns-clause-told c names layout tree scan distinct boot_named named =
    let row = key_told layout tree (texts_of names c.args.path.now) in
    let kept = kept_is (texts_of names) c.in_ok-kept.kept _ false (c.in_ok-kept.ensures.told names distinct boot_named named) (sym c.is_some.ensures ∙ c.if-is_some.false) in
    ap Some (c.in_ok-row_of.ensures.told names layout tree scan distinct named) ∙ sym (ap (λ b. cond b None (Some row)) kept)
