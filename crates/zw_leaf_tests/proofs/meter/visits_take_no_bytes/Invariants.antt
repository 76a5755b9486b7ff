use Rattle.zw_leaf_tests.proofs.meter.visits_take_no_bytes.Given as goal

abbrev pub ghosts-visit_twice : goal.ghosts-visit_twice
ghosts-visit_twice g a = record { name = a.blank.name; parts = a.blank.parts }
