-- The lines of a class file, and the last of them.
use Rattle.std.specs.Prelude.{ℕ, Bool, false, List, [], ◌∷◌, codes, map}
use Rattle.std.specs.Borrow.{Bor}
use Rattle.std.specs.Str.{bytes_eq}

abbrev pub lines_seen : List (Bor (List ℕ)) → List (List ℕ)
lines_seen lines = map (λ line. line.now) lines

-- the lines are `end` alone
abbrev pub is_last_end : List (List ℕ) → Bool
is_last_end [] = false
is_last_end (line ∷ []) = bytes_eq line (codes "end")
is_last_end (line ∷ next ∷ more) = false
