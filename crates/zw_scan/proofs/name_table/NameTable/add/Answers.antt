use Rattle.std.proofs.Common.{[], map, ap, sym, ◌∙◌}
use Rattle.zw_def.specs.Names.{text_of}
use Rattle.zw_def.proofs.NameLemmas.{text_is}
use Rattle.zw_scan.specs.Table.{same_numbers}
use Rattle.zw_scan.specs.NameTable.{entry_told, names_at, with_entry}
use Rattle.zw_scan.proofs.NameTableLemmas.{told_added, entry_inserted}
use Rattle.zw_scan.proofs.name_table.NameTable.add.Goals as goal

pub returns : goal.returns
returns c q =
    let names = c.args.names.now in
    let last = c.args.last in
    let key = c.in_ok-numbers.ensures in
    let slice = c.as_slice.ensures.value ∙ key in
    let text = c.in_ok-from_str.ensures.ok ∙ sym (text_is names last.0 _ c.text.ensures) in
    told_added (λ kept. map entry_told kept.entries) [] c.args.self.now.rows.entries c.take-kept.new.self.rows.entries c.insert-2.new.self.entries (map (λ n. n.0) c.args.parent.now) q c.in_ok-numbers.numbers c.insert.new.self (with_entry (text_of names last.0) last.0)
    c.in_ok-insert-2.ensures.entries key
    (ap (map entry_told) c.in_ok-insert.ensures.entries
    ∙ entry_inserted c.take-kept.result.entries c.in_ok-from_str.field-0 last
    ∙ (λ i. with_entry (text i) last.0 ((c.take-kept.ensures.value ∙ ap (λ p. names_at p c.args.self.now) slice) i)))
    (λ r other. c.take-kept.ensures.others r (ap (λ p. same_numbers r p) slice ∙ other))
