-- What a text is in every world.
use Rattle.std.specs.Prelude.{◌≡◌, ◌<◌, List, length, Option, Some}
use Rattle.zw_def.specs.Text.{Text}
use Rattle.zw_def_world.specs.World.{World}
use Rattle.zw_def_world.specs.Making.{max_text}
use Rattle.zw_def_world.specs.Inspect.{inspected, built_in, told}
use Rattle.zw_heap.specs.declared.value.Value.{Value}
use Rattle.zw_heap.specs.Heap.{Held}
use Rattle.zw_heap.specs.Telling.{Telling, Fits, Agrees, tell}

-- the text is this one, by each telling that fits the heap, in each world that agrees with it
abbrev pub IsTold : Held → List Text → (Telling → World → Option Text) → Text → Type 0
IsTold h names text_of t = (I : Telling) (w : World) → Fits I names h → Agrees I h w → text_of I w ≡ Some t

-- it is longer than a text may be
abbrev pub IsTooLong : Held → List Text → (Telling → World → Option Text) → Type 0
IsTooLong h names text_of = (t : Text) × IsTold h names text_of t × (max_text < length t)

abbrev pub inspect_of : Value → Telling → World → Option Text
inspect_of x I w = inspected w (tell I x)

abbrev pub built_in_of : Value → Telling → World → Option Text
built_in_of x I w = built_in w (tell I x)

abbrev pub receiver_of : Value → Telling → World → Option Text
receiver_of x I w = told w (tell I x)
