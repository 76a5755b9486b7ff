use Rattle.zw_def.proofs.NameLemmas.{OnlyGrows-trans}
use Rattle.zw_ast.proofs.OperatorLemmas.{spelled_next}
use Rattle.zw_ast.proofs.operator.spell_all.Goals as goal

pub texts-preserved : goal.texts-preserved
texts-preserved c = (
  spelled_next c.texts.names c.intern.new.self c.args.texts.now c.texts.text-index c.in_ok-intern.field-0.0 _ c.in_ok-intern.ensures.grows c.texts-test.true c.in_ok-intern.ensures.named c.texts.invariant.0,
  OnlyGrows-trans c.args.names.now c.texts.names c.intern.new.self c.texts.invariant.1 c.in_ok-intern.ensures.grows,
)
