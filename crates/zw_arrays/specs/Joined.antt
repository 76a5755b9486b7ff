-- Texts that are joined, in every world that agrees with the heap.
use Rattle.std.specs.Prelude.{◌≡◌, ℕ, zero, suc, ◌<◌, [], List, length, map, Option, Some}
use Rattle.zw_def.specs.Text.{Text}
use Rattle.zw_def_world.specs.ArrayRows.{join_texts}
use Rattle.zw_def_world.specs.Making.{max_text}
use Rattle.zw_def_world.specs.World.{World}
use Rattle.zw_heap.specs.declared.value.Value.{Value}
use Rattle.zw_heap.specs.Heap.{Held}
use Rattle.zw_heap.specs.Telling.{Telling, Fits, Agrees, tell}

-- what stands before the text of the item of that place
abbrev pub separated : Text → ℕ → Text
separated separator zero = []
separated separator (suc n) = separator

abbrev pub joined_of : Text → List Value → Telling → World → Option Text
joined_of separator xs I w = join_texts w separator (map (tell I) xs)

-- it is longer than a text may be, in each world by itself
abbrev pub IsEverTooLong : Held → List Text → (Telling → World → Option Text) → Type 0
IsEverTooLong h names text_of =
    (I : Telling) (w : World) → Fits I names h → Agrees I h w
    → (t : Text) × (text_of I w ≡ Some t) × (max_text < length t)
