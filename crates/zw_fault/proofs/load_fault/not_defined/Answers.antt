use Rattle.std.proofs.Common.{string_bytes}
use Rattle.zw_def.specs.Names.{texts_of}
use Rattle.zw_fault.proofs.MessageLemmas.{not_defined_told}
use Rattle.zw_fault.proofs.load_fault.not_defined.Goals as goal

pub returns : goal.returns
returns c =
    not_defined_told c.format.result (texts_of c.args.names.now c.args.cpath.now) c.args.path.now
    (string_bytes c.in_ok-cpath.cpath) (string_bytes c.in_ok-path.path) c.in_ok-cpath.ensures c.in_ok-path.ensures c.format.ensures.ok
