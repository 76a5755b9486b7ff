use Rattle.zw_fresh.proofs.CalmLaws as laws
use Rattle.zw_fresh.proofs.calm.plain_is_alike.Goals as goal

pub returns : goal.returns
returns g c = record {
  law = laws.plain_is_alike g.C.Calm.handed;
  programs = laws.plain_programs_are_alike g.C.Calm.handed;
}
