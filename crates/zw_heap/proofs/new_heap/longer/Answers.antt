use Rattle.zw_heap.proofs.CoreLemmas.{longer_told, longer_named}
use Rattle.zw_heap.proofs.new_heap.longer.Goals as goal

pub returns-clause-told : goal.returns-clause-told
returns-clause-told c =
    longer_told c.args.names.now c.intern.new.self c.args.path c.in_ok-name.name.0 c.args.name.now c.in_ok-name.ensures.grows c.requires c.in_ok-name.ensures.named
    c.child.result c.child.ensures

pub returns-clause-named : goal.returns-clause-named
returns-clause-named c =
    longer_named c.args.names.now c.intern.new.self c.args.path c.in_ok-name.name.0 c.args.name.now c.in_ok-name.ensures.grows c.requires c.in_ok-name.ensures.named
    c.child.result c.child.ensures
