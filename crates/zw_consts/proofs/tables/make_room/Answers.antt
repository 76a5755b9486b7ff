use Rattle.std.proofs.Common.{ap, ◌∙◌, ◌++◌, ◌∷◌, []}
use Rattle.zw_consts.specs.Table.{tables_of}
use Rattle.zw_consts.proofs.TableLemmas.{tables_of-pushed}
use Rattle.zw_consts.proofs.tables.make_room.Goals as goal

pub loop-alloc-preserved : goal.loop-alloc-preserved
loop-alloc-preserved g c =
    ap tables_of (c.in_ok-push.ensures.items ∙ ap (λ t. c.loop-alloc.tables.items ++ t ∷ []) c.new.ensures) ∙ tables_of-pushed c.loop-alloc.tables.items ∙ c.loop-alloc.invariant
