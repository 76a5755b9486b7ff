use Rattle.std.proofs.Common.{◌≡◌, ◌++◌, ℕ, ◌+◌, map, length, Option, Some, None, []}
use Rattle.std.specs.Borrow.{Bor}
use denote.Text.{Utf8}
use denote.Shadow.{shadow}
use Rattle.zw_def.specs.Text.{Text}
use Rattle.zw_table.specs.Words.{words}
use Rattle.zw_table.specs.Left.{words_left}
use Rattle.zw_table.proofs.RisingLemmas.{rises_after}
use Rattle.zw_table.proofs.keys.keys_of.Given as goal

-- the words are those read and those left, and what is left decides whether all of them rise
abbrev pub invariant-loop-left : goal.invariant-loop-left
invariant-loop-left g l = shadow (Utf8 l.last)
    × (words l.fn.text ≡ map (λ k. k.now) l.keys.items ++ words_left l.left)
    × (rises_after [] (words l.fn.text) ≡ rises_after l.last (words_left l.left))

abbrev pub size_left : Option (Bor Text) → ℕ
size_left None = 0
size_left (Some text) = length text.now + 1

abbrev pub decreases-loop-left : goal.decreases-loop-left
decreases-loop-left g l = size_left l.left
