use Rattle.std.proofs.Common.{◌≡◌, take, map, string_bytes}
use Rattle.zw_def.specs.Path.{path_text}
use Rattle.zw_tree.proofs.walk.joined.Given as goal

abbrev pub invariant-loop-place : goal.invariant-loop-place
invariant-loop-place l = string_bytes l.text ≡ path_text (take l.place (map (λ c. c.now) l.components))
