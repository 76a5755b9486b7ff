use Rattle.std.proofs.Common.{string_bytes}
use Rattle.zw_fault.proofs.MessageLemmas.{wrong_name_told}
use Rattle.zw_fault.proofs.load_fault.wrong_name.Goals as goal

pub returns : goal.returns
returns c = wrong_name_told c.format.result c.args.name.now c.args.path.now (string_bytes c.in_ok-path.path) c.in_ok-path.ensures c.format.ensures.ok
