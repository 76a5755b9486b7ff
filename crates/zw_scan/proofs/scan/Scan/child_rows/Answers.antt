use Rattle.std.proofs.Common.{◌<◌, map, length, get_or, subst, ap, sym, ◌∙◌}
use Rattle.std.proofs.lemmas.List.{take_all}
use Rattle.zw_names.specs.declared.names.Name.{Name}
use Rattle.zw_def.specs.Names.{text_of, texts_of}
use Rattle.zw_def.specs.Map.{expecting_files, expecting_directories}
use Rattle.zw_scan.specs.Children.{child_of}
use Rattle.zw_scan.specs.ChildSeen.{child_seen}
use Rattle.zw_scan.proofs.NameTableLemmas.{rows_more, rows_whole}
use Rattle.zw_scan.proofs.scan.Scan.child_rows.Goals as goal

pub loop-name-preserved : goal.loop-name-preserved
loop-name-preserved c names layout tree scan distinct named =
    let items = c.deref-name-items.ensures.value in
    let below = c.in_ok-names_below.ensures names layout tree scan distinct named in
    let none : Name = record { 0 = 0 } in
    let i = c.loop-name.name-index in
    let lt = subst (λ ns. i < length ns) items c.loop-name-test.true in
    let here = subst (λ ns. (get_or ns i none).0 < length names) (sym items) (below.named i none lt) in
    rows_more (child_seen names) (λ (n : Name). child_of (expecting_files layout tree) (expecting_directories layout tree) (texts_of names c.args.path.now) (text_of names n.0)) c.loop-name.rows.items c.push.new.self.items c.in_ok-child_row.field-0 c.deref-name-items.result.now i none c.in_ok-push.ensures.items (c.in_ok-child_row.ensures names layout tree scan distinct named here) (c.loop-name.invariant names layout tree scan distinct named) c.loop-name-test.true

pub returns : goal.returns
returns c names layout tree scan distinct named =
    let below = c.in_ok-names_below.ensures names layout tree scan distinct named in
    let told = child_of (expecting_files layout tree) (expecting_directories layout tree) (texts_of names c.args.path.now) in
    c.loop-name.invariant names layout tree scan distinct named
    ∙ ap (map (λ (n : Name). told (text_of names n.0))) (take_all c.loop-name.name-index c.deref-name-items.result.now c.loop-name-test.false ∙ c.deref-name-items.ensures.value)
    ∙ rows_whole told (λ (n : Name). text_of names n.0) c.in_ok-names_below.field-0.items
    ∙ ap (map told) below.texts
