use Rattle.std.proofs.Common.{◌++◌, ◌∷◌, [], true, ap, sym, ◌∙◌}
use Rattle.std.proofs.lemmas.List.{map_more}
use Rattle.zw_def.specs.Names.{texts_of}
use Rattle.zw_def.proofs.NameLemmas.{OnlyGrows-trans, AreNamed-grown}
use Rattle.zw_view.specs.Core.{own_rows, rows_told}
use Rattle.zw_view.proofs.ViewLemmas.{one_more, named_more}
use Rattle.zw_view.proofs.boot.push_modules.Goals as goal

pub loop-text-preserved : goal.loop-text-preserved
loop-text-preserved c =
    let fn = c.args.names.now in
    let old = c.loop-text.names in
    let new = c.intern.new.self in
    let rows = c.loop-text.rows.items in
    let above = c.args.above.now in
    let pushed = c.in_ok-push.ensures.items ∙ ap (λ p. rows ++ (p, true) ∷ []) c.in_ok-child.ensures in
    record {
      told =
          one_more fn old new rows c.push.new.self.items above c.in_ok-name.name.0 _ _ _ c.loop-text.invariant.grows c.intern.ensures.grows c.requires.above c.loop-text.invariant.named c.in_ok-name.ensures.named pushed c.loop-text.invariant.told
          ∙ ap (λ l. rows_told fn c.args.rows.now.items ++ own_rows (texts_of fn above) l) (sym (map_more (λ t. t.now) c.args.texts.now c.loop-text.text-index _ c.loop-text-test.true));
      above = AreNamed-grown old new above c.intern.ensures.grows c.loop-text.invariant.above;
      named = named_more old new rows c.push.new.self.items above c.in_ok-name.name.0 _ c.intern.ensures.grows c.loop-text.invariant.above c.loop-text.invariant.named c.in_ok-name.ensures.named pushed;
      grows = OnlyGrows-trans fn old new c.loop-text.invariant.grows c.intern.ensures.grows;
    }
