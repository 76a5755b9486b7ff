-- Texts that are to stand in an array, and what is left to do when they are paid.
use Rattle.std.specs.Prelude.{◌≡◌, ◌≤◌, ℕ, Bool, false, List, [], ◌∷◌, ◌++◌, length, map, Option, Some, None}
use Rattle.std.specs.List.{All}
use Rattle.zw_def.specs.Text.{Text}
use Rattle.zw_def_world.specs.Act.{Point, ends, lost}
use Rattle.zw_def_world.specs.Making.{makes_array, max_text}
use Rattle.zw_def_world.specs.StringRows.{is_empty, makes_pieces}
use Rattle.zw_def_world.specs.Value as told
use Rattle.zw_heap.specs.declared.mark.Sizes.{Sizes}
use Rattle.zw_heap.specs.Telling.{Telling}
use Rattle.zw_calls.specs.End.{EndIn, IsDone, end_seen}
use Rattle.zw_calls.specs.declared.end.PrimEnd.{PrimEnd}

-- the first text is empty
abbrev pub begins_empty : List Text → Bool
begins_empty [] = false
begins_empty (t ∷ ts) = is_empty t

abbrev pub AreShort : List Text → Type 0
AreShort ts = All (λ t. length t ≤ max_text) ts

-- the array of the texts is left to make, behind what is made
abbrev pub LeavesArray : List Text → ℕ → ℕ → Type 0
LeavesArray ts left later =
    (made : List told.Value) (p : Point) → p.left ≡ left
    → makes_pieces made ts p ≡ makes_array (made ++ map told.text ts) (record p { left = later })

-- or the call has ended
abbrev pub EndsUnpaid : List Text → ℕ → ℕ → PrimEnd → Type 0
EndsUnpaid ts left later end =
    (made : List told.Value) (I : Telling) (p : Point) → p.left ≡ left
    → makes_pieces made ts p ≡ end_seen I (ends lost) end (record p { left = later })

abbrev pub PaysTexts : List Text → ℕ → ℕ → Option PrimEnd → Type 0
PaysTexts ts left later None = AreShort ts × LeavesArray ts left later
PaysTexts ts left later (Some end) = IsDone end × ((s : Sizes) → EndIn s end) × EndsUnpaid ts left later end
