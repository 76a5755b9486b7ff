use Rattle.std.proofs.Common.{◌≡◌, ◌++◌, map}
use Rattle.std.specs.List.{filter_map}
use Rattle.zw_thin.specs.File.{file_seen}
use Rattle.zw_top.proofs.StartLemmas.{file_at}
use Rattle.zw_def.specs.Visible.{keys_of}
use Rattle.zw_top.proofs.start.files_of.Given as goal

abbrev pub invariant-loop-path : goal.invariant-loop-path
invariant-loop-path l = map file_seen l.files.items ++ filter_map (file_at l.tree) l.path-iterator.rest.items ≡ filter_map (file_at l.tree) (keys_of l.tree)
