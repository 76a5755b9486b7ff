use Rattle.zw_prims_tests.proofs.symbol.try_values.Goals as goal

pub outcome-requires-clause-held : goal.outcome-requires-clause-held
outcome-requires-clause-held g c = (c.in_ok-end.ensures 0).held
