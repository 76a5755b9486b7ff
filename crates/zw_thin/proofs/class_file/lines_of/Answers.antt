use Rattle.std.proofs.Common.{◌==◌, rules}
use Rattle.std.proofs.lemmas.Iterator.{YieldsList-from_map_by}
use Rattle.std.proofs.lemmas.Iterator.Consumers.{map_from_collect}
use Rattle.std.proofs.lemmas.Iterator.Splits.{YieldsList-from_slice_split}
use Rattle.zw_def_thin.specs.ClassFile.{unindented}
use Rattle.zw_thin.proofs.class_file.lines_of.Goals as goal

pub returns : goal.returns
returns c =
    map_from_collect _ c.collect.ensures.ran
    (YieldsList-from_map_by _ (λ r. r.now) unindented
    (YieldsList-from_slice_split _ (λ b. b == 10) c.args.body.now (search rules) (search rules) (search rules) (λ x b q k. search rules))
    c.map.ensures.closure (λ x r q k. search rules))
