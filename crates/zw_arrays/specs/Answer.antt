-- What comparisons answer.
use Rattle.std.specs.Prelude.{◌≡◌, ℕ, pos, Bool, List, map, Option, Some, None}
use Rattle.std.specs.Global.{Vec}
use Rattle.zw_def.specs.Text.{Text}
use Rattle.zw_def_world.specs.Act.{Act, Point, ends, gives, out_of_steps}
use Rattle.zw_def_world.specs.Value.{nil, truth, int}
use Rattle.zw_def_world.specs.Making.{makes_array}
use Rattle.zw_heap.specs.declared.value.Value.{Value}
use Rattle.zw_heap.specs.Heap.{Held}
use Rattle.zw_heap.specs.Telling.{Telling, Fits, tell}

-- none with fewer steps left than it costs
abbrev pub answer_seen : Option Bool → Act
answer_seen None = ends out_of_steps
answer_seen (Some b) = gives (truth b)

-- a place, where there is one
abbrev pub place_seen : Option (Option ℕ) → Act
place_seen None = ends out_of_steps
place_seen (Some None) = gives nil
place_seen (Some (Some n)) = gives (int (pos n))

-- an array of the values that are kept
abbrev pub kept_seen : Option (Vec Value) → Telling → Act
kept_seen None I = ends out_of_steps
kept_seen (Some kept) I = makes_array (map (tell I) kept.items)

-- the act ends so, by each telling that fits the heap, with so many steps left before and after
abbrev pub Answers : Held → (Telling → Act) → ℕ → ℕ → (Telling → Act) → Type 0
Answers h act left later answer =
    (I : Telling) (names : List Text) (p : Point) → Fits I names h → p.left ≡ left
    → act I p ≡ answer I (record p { left = later })
