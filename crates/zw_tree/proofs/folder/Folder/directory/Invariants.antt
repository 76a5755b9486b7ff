use Rattle.std.proofs.Common.{◌≡◌, drop, map, string_bytes}
use Rattle.zw_tree.specs.Row.{told}
use Rattle.zw_tree.specs.Sound.{IsSound}
use Rattle.zw_tree.specs.Entries.{tree_below}
use Rattle.zw_tree.proofs.folder.Folder.directory.Given as goal

abbrev pub invariant-loop-name : goal.invariant-loop-name
invariant-loop-name l = record {
  sound : IsSound l.here;
  files : tree_below (map (λ s. string_bytes s) (drop l.name-index l.components)) (told l.here) ≡ tree_below (map (λ s. string_bytes s) l.components) (told l.fn.self);
}
