use Rattle.std.proofs.Common.{◌≡◌, ◌++◌, [], drop, map}
use Rattle.std.specs.List.{filter_map}
use Rattle.zw_def_thin.specs.Map.{visible}
use Rattle.zw_def_thin.specs.Built.{expected_names, first_other, first_other_from}
use Rattle.zw_thin.specs.File.{file_seen}
use Rattle.zw_thin.specs.Key.{keys_seen, KeysNamed}
use Rattle.zw_thin.specs.Start.{names_in, first_key, with_names, IsFront}
use Rattle.zw_thin.proofs.session.Session.new.Given as goal

abbrev pub invariant-loop-file : goal.invariant-loop-file
invariant-loop-file l = record {
  made : IsFront (with_names [] (expected_names l.root (visible l.root (map file_seen l.files)))) l.expected l.names;
  named : KeysNamed l.names l.keys.entries;
  other : first_other_from l.root (expected_names l.root (visible l.root (map file_seen l.files))) (names_in (keys_seen l.names l.keys.entries)) (visible l.root (map file_seen (drop l.file-index l.files))) ≡ first_other l.root (visible l.root (map file_seen l.files));
  keys : keys_seen l.names l.keys.entries ++ filter_map (first_key l.root (expected_names l.root (visible l.root (map file_seen l.files)))) (visible l.root (map file_seen (drop l.file-index l.files))) ≡ filter_map (first_key l.root (expected_names l.root (visible l.root (map file_seen l.files)))) (visible l.root (map file_seen l.files));
}
