use Rattle.std.proofs.Common.{◌≡◌, pos, false, [], ◌∷◌, FitsSigned, rules}
use Rattle.std.specs.Int.{w64}
use Rattle.std.proofs.lemmas.Int.{to_z-of_z}
use Rattle.std.specs.Ordering.{int_eq}
use Rattle.zw_def_world.specs.IntegerRows.{over, rest, if_divides, makes_quotients}
use Rattle.zw_def_world.specs.Making.{makes_array}
use Rattle.zw_def_world.specs.Value as told
use Rattle.zw_prims.proofs.IntegerLemmas.{quotients-are}
use Rattle.zw_calls.proofs.PerformLemmas.{all_same}
use Rattle.zw_prims.proofs.integer.quotients.Goals as goal

pub returns-clause-performs : goal.returns-clause-performs
returns-clause-performs c = λ names.
    let a = c.args.number in
    let b = c.args.divisor in
    let q = c.in-Ok.quotient in
    let r = c.rest.result in
    let divides : int_eq b (pos 0) ≡ false = search rules in
    let fit : FitsSigned w64 (over a b) = search rules in
    let is : q ≡ over a b = search rules in
    let left : r ≡ rest a b = search rules in
    let fits_q : FitsSigned w64 q = search rules in
    let fits_r : FitsSigned w64 r = search rules in
    let made = simp to_z-of_z at (c.pair.ensures.performs names) in
    all_same c.pair.new.heap names c.args.meter.now.left c.pair.new.meter.left (λ s I. makes_array (told.int q ∷ told.int r ∷ [])) (λ s I. if_divides b (makes_quotients a b)) (λ s I. quotients-are a b q r divides fit is left) c.pair.result made
