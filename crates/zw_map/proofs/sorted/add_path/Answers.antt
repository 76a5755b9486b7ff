use Rattle.std.proofs.Common.{ap, sym, subst, ◌∙◌}
use Rattle.zw_def.specs.Names.{AreNamed, texts_of}
use Rattle.zw_def.specs.Map.{with_path}
use Rattle.zw_map.specs.Order.{AreKeyed, sorted_told}
use Rattle.zw_map.proofs.SortedLemmas.{inserted, inserted_keyed}
use Rattle.zw_map.proofs.sorted.add_path.Goals as goal

pub returns-clause-told : goal.returns-clause-told
returns-clause-told c =
    let names = c.args.names.now in
    ap (sorted_told names) c.in_ok-insert.ensures.entries
    ∙ inserted names c.args.sorted.now.entries c.in_ok-texts.texts c.in_ok-copy.field-0 c.requires.keyed (c.in_ok-texts.ensures ∙ ap (texts_of names) (sym c.in_ok-copy.ensures))
    ∙ ap (λ p. with_path (texts_of names p) (sorted_told names c.args.sorted.now.entries)) c.in_ok-copy.ensures

pub returns-clause-keyed : goal.returns-clause-keyed
returns-clause-keyed c =
    let names = c.args.names.now in
    subst (AreKeyed names) (sym c.in_ok-insert.ensures.entries)
    (inserted_keyed names c.args.sorted.now.entries c.in_ok-texts.texts c.in_ok-copy.field-0 c.requires.keyed (c.in_ok-texts.ensures ∙ ap (texts_of names) (sym c.in_ok-copy.ensures)) (subst (AreNamed names) (sym c.in_ok-copy.ensures) c.requires.named))
