use Rattle.std.proofs.Common.{ap, sym, ◌∙◌, rules}
use Rattle.std.specs.Int.{w64}
use Rattle.std.proofs.lemmas.Int.{to_z-of_z}
use Rattle.zw_def_world.specs.Value.{integer_in}
use Rattle.zw_calls.proofs.reading.integer_at.Goals as goal

pub returns : goal.returns
returns c = λ I. ap integer_in (c.value_at.ensures I) ∙ c.integer_in.ensures I ∙ sym (to_z-of_z w64 c.integer_in.result (search rules))
