use Rattle.std.proofs.Common.{ap, sym, ◌∙◌}
use Rattle.zw_def.specs.Names.{texts_of}
use Rattle.zw_scan.specs.Children.{below_more}
use Rattle.zw_scan.specs.NameTable.{texts_at}
use Rattle.zw_scan.proofs.NameTableLemmas.{fold_more}
use Rattle.zw_scan.proofs.name_table.NameTable.add_all.Goals as goal

pub loop-one-preserved : goal.loop-one-preserved
loop-one-preserved c = (
  (λ later more distinct q named.
      c.in_ok-add_path.ensures.texts later more distinct q named
      ∙ ap (λ ns. below_more (texts_of later q) ns (texts_of later c.one-item.result.names)) (c.loop-one.invariant.0 later more distinct q named)
      ∙ sym (fold_more (below_more (texts_of later q)) (λ f. texts_of later f.names) (texts_at q c.args.self.now) c.args.found.now c.loop-one.one-index c.one-item.result c.loop-one-test.true c.one-item.is)),
  (λ old. c.in_ok-add_path.ensures.entries (c.loop-one.invariant.1 old)),
)
