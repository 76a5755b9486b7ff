use Rattle.std.proofs.Common.{◌≡◌, length, map, rules}
use Rattle.zw_thin.specs.File.{file_seen}
use Rattle.zw_top.proofs.StartLemmas.{files_done}
use Rattle.zw_top.proofs.start.files_of.Goals as goal

pub returns : goal.returns
returns c =
    let ok = c.loop-path.path-iterator.rest.ok in
    let none : length c.loop-path.path-iterator.rest.items ≡ 0 = search (rules, ok, c.in-None.ensures.steps) in
    files_done c.args.tree.now (map file_seen c.loop-path.files.items) c.loop-path.path-iterator.rest.items none c.is_tree.ensures c.loop-path.invariant
