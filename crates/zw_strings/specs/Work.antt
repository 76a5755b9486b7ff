-- What is left to do of a call, when all that it asks of the heap is known.
use Rattle.std.specs.Prelude.{◌≡◌, List, [], map, string_bytes}
use Rattle.zw_def.specs.Text.{Text}
use Rattle.zw_def_world.specs.Act.{Act, ends, gives, lost}
use Rattle.zw_def_world.specs.Making.{makes_text}
use Rattle.zw_def_world.specs.Site.{Site}
use Rattle.zw_def_world.specs.StringRows.{makes_pieces}
use Rattle.zw_def_world.specs.Value as told
use Rattle.zw_heap.specs.Heap.{Held}
use Rattle.zw_heap.specs.declared.mark.Sizes.{Sizes}
use Rattle.zw_heap.specs.Telling.{Telling, Fits}
use Rattle.zw_calls.specs.End.{EndIn, IsDone, end_seen}
use Rattle.zw_strings.specs.declared.work.Work.{Work}
use Rattle.zw_strings.specs.declared.work.Work.TheVariants as w

-- a call that has ended has nothing left to do
abbrev pub work_seen : Telling → Work → Act
work_seen I (w.Ended end) = end_seen I (ends lost) end
work_seen I (w.Text t) = makes_text (string_bytes t)
work_seen I (w.Texts ts) = makes_pieces [] (map string_bytes ts.items)
work_seen I (w.Symbol t) = gives (told.symbol (string_bytes t))

-- it has ended for good, with a value that is in every heap
abbrev pub IsSettled : Work → Type 0
IsSettled (w.Ended end) = IsDone end × ((s : Sizes) → EndIn s end)
IsSettled _ = Unit {0}

-- the act of a call, by each telling that fits the heap, is what is left to do
pub record Leaves (call : Site → Telling → Act) (h : Held) (names : List Text) (work : Work) : Type 0 where
  pub told : (s : Site) (I : Telling) → Fits I names h → call s I ≡ work_seen I work
  pub settled : IsSettled work
