use Rattle.std.proofs.Common.{◌≡◌, ◌<◌, ◌-◌, length, map, drop, string_bytes}
use Rattle.zw_tree.specs.Row.{told}
use Rattle.zw_tree.specs.Sound.{IsSound}
use Rattle.zw_tree.specs.Text.{text_at}
use Rattle.zw_tree.specs.Edit.{is_blocked}
use Rattle.zw_tree.proofs.folder.Folder.seek.Given as goal

abbrev pub invariant-down : goal.invariant-down
invariant-down l = record {
  sound : IsSound l.here;
  within : l.depth < length l.components;
  text : text_at (map (λ s. string_bytes s) (drop l.depth l.components)) (told l.here) ≡ text_at (map (λ s. string_bytes s) l.components) (told l.fn.self);
  blocked : is_blocked (told l.here) (map (λ s. string_bytes s) (drop l.depth l.components)) ≡ is_blocked (told l.fn.self) (map (λ s. string_bytes s) l.components);
}

abbrev pub decreases-down : goal.decreases-down
decreases-down l = length l.components - l.depth
