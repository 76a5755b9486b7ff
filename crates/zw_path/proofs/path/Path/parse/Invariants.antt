use Rattle.std.proofs.Common.{◌≡◌, None, map, string_bytes}
use Rattle.zw_path.specs.BadPath.{first_bad}
use Rattle.zw_path.proofs.path.Path.parse.Given as goal

abbrev pub invariant-loop-piece : goal.invariant-loop-piece
invariant-loop-piece l =
    (goal.iterator-loop-piece).can_next l.piece-iterator ×
    (goal.iterator-loop-piece).is_finite l.piece-iterator ×
    (map string_bytes l.components.items ≡ map (λ piece. piece.now) l.yielded) ×
    (first_bad (map (λ piece. piece.now) l.yielded) ≡ None)
