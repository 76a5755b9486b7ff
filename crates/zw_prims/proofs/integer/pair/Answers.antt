use Rattle.std.proofs.Common.{FitsSigned}
use Rattle.std.specs.Int.{w64}
use Rattle.std.proofs.lemmas.Int.{to_z-of_z}
use Rattle.zw_prims.proofs.integer.pair.Goals as goal

pub returns-clause-performs : goal.returns-clause-performs
returns-clause-performs c = λ names.
    let fits_first : FitsSigned w64 c.args.first = c.ranges.first in
    let fits_second : FitsSigned w64 c.args.second = c.ranges.second in
    let made = c.flat_array.ensures.performs names in
    simp to_z-of_z at made
