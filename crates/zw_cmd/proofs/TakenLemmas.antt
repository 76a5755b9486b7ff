-- What `put` makes of the lines that were taken.
use Rattle.std.proofs.Common.{◌≡◌, ◌++◌, ◌==◌, cond, ℕ, Bool, true, false, List, [], ◌∷◌, length, refl, sym, ap, ◌∙◌, append_assoc, arith}
use Rattle.std.proofs.lemmas.Bool.Decides.{nat_tests}
use Rattle.zw_def.specs.Text.{Text}
use Rattle.zw_def.specs.Path.{Path}
use Rattle.zw_def_session.specs.Commands.{Stream, reads, refuses, input_ended, put, put_of, taken, with_line_ends}
use Rattle.zw_io.specs.NextLines.{with_feeds}

pub with_ends : (ls : List Text) → with_line_ends ls ≡ with_feeds ls
with_ends [] = refl
with_ends (l ∷ ls) = append_assoc l (10 ∷ []) (with_line_ends ls) ∙ ap (λ t. l ++ 10 ∷ t) (with_ends ls)

put_by : (b : Bool) (path : Path) (bytes other : Text) (s : Stream) → b ≡ true → bytes ≡ other → reads (put path bytes) s ≡ cond b (reads (put path other) s) (refuses input_ended s)
put_by true path bytes other s is same = ap (λ t. reads (put path t) s) same
put_by false path bytes other s is same = absurd (cc)

-- all lines that were asked for
pub put_all : (asked count : ℕ) (path : Path) (bytes : Text) (ls : List Text) (s : Stream) → count ≡ asked → length ls ≡ count → bytes ≡ with_feeds ls → reads (put path bytes) s ≡ put_of asked path (taken ls s)
put_all asked count path bytes ls s all is same =
    put_by (length ls == asked) path bytes (with_line_ends ls) s (grind (arith, nat_tests)) (same ∙ sym (with_ends ls))
