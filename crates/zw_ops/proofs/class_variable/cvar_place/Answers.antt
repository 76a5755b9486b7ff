use Rattle.std.proofs.Common.{map, ap, sym, ◌∙◌}
use Rattle.std.proofs.Math.ListN.{drop_of_length-le}
use Rattle.zw_consts.specs.Ancestor.{numbers_of}
use Rattle.zw_def_world.specs.Variable.{holder_among}
use Rattle.zw_ops.proofs.VariableLemmas.{holder-first}
use Rattle.zw_ops.proofs.class_variable.cvar_place.Goals as goal

pub returns-then-is_some-clause-told : goal.returns-then-is_some-clause-told
returns-then-is_some-clause-told c = λ I names w fit agrees.
    sym (c.loop-module.invariant I names w fit agrees)
    ∙ holder-first I c.args.heap.now w agrees c.args.line.now c.loop-module.module-index _ c.args.name.0 c.get_cvar.result _ c.loop-module-test.true c.get_cvar.ensures.value (sym c.if-is_some.ensures)

pub loop-module-preserved : goal.loop-module-preserved
loop-module-preserved c = λ I names w fit agrees.
    sym (holder-first I c.args.heap.now w agrees c.args.line.now c.loop-module.module-index _ c.args.name.0 c.get_cvar.result _ c.loop-module-test.true c.get_cvar.ensures.value (sym c.if-is_some.ensures))
    ∙ c.loop-module.invariant I names w fit agrees

pub returns-clause-told : goal.returns-clause-told
returns-clause-told c = λ I names w fit agrees.
    sym (c.loop-module.invariant I names w fit agrees)
    ∙ ap (λ l. holder_among w (I.name c.args.name.0) (map I.module_id (numbers_of l))) (drop_of_length-le c.args.line.now c.loop-module-test.false)
