use Rattle.zw_prims.proofs.AgreeLemmas.{frozen-told}
use Rattle.zw_prims.proofs.kernel.is_frozen.Goals as goal

pub returns : goal.returns
returns c = λ I w agrees. frozen-told I c.args.heap.now w c.args.value c.is_frozen.result agrees c.is_frozen.ensures
