use Rattle.zw_top.proofs.MountLemmas.{with_other, with_valid}
use Rattle.zw_top.proofs.mount.take_listed.Goals as goal

pub returns-in-Err-clause-told : goal.returns-in-Err-clause-told
returns-in-Err-clause-told g c = λ fixed is. with_other _ fixed c.args.tree.now.staged c.args.bytes.now c.in-Err.ensures.cases.0

pub returns-in-Ok-clause-told : goal.returns-in-Ok-clause-told
returns-in-Ok-clause-told g c = λ fixed is. with_valid _ fixed c.args.tree.now.staged _ c.args.bytes.now _ c.in-Ok.ensures.cases.1 (rw c.in-Ok.ensures.cases.0 at (c.take_text.ensures.told fixed is))
