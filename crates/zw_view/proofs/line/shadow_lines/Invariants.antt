use Rattle.std.proofs.Common.{◌≡◌, map, string_bytes, take}
use Rattle.zw_def_session.specs.Answers as defined
use Rattle.zw_map.specs.ShadowSeen.{shadow_seen}
use Rattle.zw_view.proofs.line.shadow_lines.Given as goal

abbrev pub invariant-loop-row : goal.invariant-loop-row
invariant-loop-row l = map string_bytes l.lines.items ≡ map (λ row. defined.shadow_line (shadow_seen l.names row)) (take l.row-index l.rows)
