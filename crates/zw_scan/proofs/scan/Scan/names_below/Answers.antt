use Rattle.std.proofs.Common.{map, ap, ◌∙◌}
use Rattle.std.proofs.lemmas.Result.{IfOk-weaker}
use Rattle.zw_def.specs.Names.{text_of}
use Rattle.zw_scan.specs.NameTable.{names_at}
use Rattle.zw_scan.proofs.NameTableLemmas.{entry_texts, entries_named, named_from, texts_from}
use Rattle.zw_scan.proofs.scan.Scan.names_below.Goals as goal

pub returns : goal.returns
returns c =
    IfOk-weaker c.at.result _ _ (λ below is names layout tree scan distinct named.
    let kept = names_at c.args.path.now c.args.self.now.below in
    let entries = scan.entries c.args.path.now in
    record {
      named = named_from names (λ n. n.0) below.items _ is (entries_named names kept entries);
      texts = texts_from names (λ n. n.0) below.items ∙ ap (map (text_of names)) is ∙ entry_texts names kept entries ∙ scan.below distinct c.args.path.now named;
    })
    c.at.ensures
