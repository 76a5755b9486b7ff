use Rattle.std.proofs.Common.{map, rules}
use Rattle.zw_tree.proofs.WalkLemmas.{path_read}
use Rattle.zw_tree.proofs.walk.path_of.Goals as goal

pub returns-in-Ok : goal.returns-in-Ok
returns-in-Ok c =
    let read = c.in-Ok.ensures.path in
    path_read (map (λ c. c.now) c.args.components.now) c.in-Ok.path c.requires (search (rules, read))
