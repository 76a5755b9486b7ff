use Rattle.std.proofs.Common.{◌∙◌, ap, subst}
use Rattle.zw_def.specs.Names.{IsDistinct, with_name}
use Rattle.zw_def.proofs.NameLemmas.{copied_more}
use Rattle.zw_names.proofs.NamesLemmas.{text_at}
use Rattle.zw_names.proofs.names.Names.copy.Goals as goal

pub loop-text-preserved : goal.loop-text-preserved
loop-text-preserved c =
    let text = c.as_str.result.now in
    let at = text_at c.self.inside.texts.keys c.as_slice-text-items.result.now c.args.self.now c.loop-text.text-index c.text-item.result text c.as_slice-text-items.ensures.keys c.self.view_is c.loop-text-test.true c.text-item.is c.as_str.ensures.value in
    c.in_ok-intern.ensures.added ∙ ap (λ names. with_name names text) c.loop-text.invariant
    ∙ copied_more c.args.self.now c.loop-text.text-index text (subst IsDistinct c.self.view_is c.self.invariant) at
