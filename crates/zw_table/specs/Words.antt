-- The words of a text, which are the keys of a table.
use Rattle.std.specs.Prelude.{ℕ, Bool, true, false, List, [], ◌∷◌, ◌==◌, ◌&&◌, length}
use Rattle.std.specs.List.{list_all}
use Rattle.std.specs.Ordering.{nat_cmp, is_lt}
use Rattle.std.specs.Cmp.Lexicographic.{slice_cmp}
use Rattle.zw_def.specs.Text.{Text, pieces}

-- the words of a text, between single spaces; the empty text has none
abbrev pub words : Text → List Text
words [] = []
words (b ∷ bs) = pieces 32 (b ∷ bs)

-- a text stands before another, by their bytes
abbrev pub is_before : Text → Text → Bool
is_before a b = is_lt (slice_cmp nat_cmp a b)

-- each text stands before the next
abbrev pub rises : List Text → Bool
rises [] = true
rises (a ∷ []) = true
rises (a ∷ b ∷ more) = is_before a b && rises (b ∷ more)

abbrev pub is_nonempty : Text → Bool
is_nonempty [] = false
is_nonempty (b ∷ bs) = true

-- the text has `n` words, none of them empty, and they rise strictly
abbrev pub tells_keys : ℕ → Text → Bool
tells_keys n text = (length (words text) == n) && list_all is_nonempty (words text) && rises (words text)
