use Rattle.std.proofs.Common.{◌≡◌, drop, map}
use Rattle.zw_def_thin.specs.Map.{visible}
use Rattle.zw_def_thin.specs.Built.{expected_names}
use Rattle.zw_thin.specs.File.{file_seen}
use Rattle.zw_thin.specs.Start.{with_names}
use Rattle.zw_thin.proofs.keys.make_names.Given as goal

abbrev pub invariant-loop-file : goal.invariant-loop-file
invariant-loop-file l =
    with_names l.names (expected_names l.root (visible l.root (map file_seen (drop l.file-index l.files)))) ≡ with_names l.fn.names (expected_names l.root (visible l.root (map file_seen l.files)))
