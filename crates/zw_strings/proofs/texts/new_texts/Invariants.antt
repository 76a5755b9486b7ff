use Rattle.std.proofs.Common.{◌≡◌, List, length, map, take, string_bytes}
use Rattle.std.specs.List.{All}
use Rattle.zw_def.specs.Text.{Text}
use Rattle.zw_def_world.specs.Value as told
use Rattle.zw_heap.specs.Heap.{sizes_of}
use Rattle.zw_heap.specs.Sound.{IsIn}
use Rattle.zw_heap.specs.Telling.{Telling, Fits, tell}
use Rattle.zw_calls.specs.End.{AddsValues}
use Rattle.zw_calls.specs.Flat.{IsFlat}
use Rattle.zw_strings.proofs.texts.new_texts.Given as goal

abbrev pub invariant-loop-text : goal.invariant-loop-text
invariant-loop-text l = record {
  adds : AddsValues l.fn.heap l.heap;
  count : length l.made.items ≡ l.text-index;
  held : All (IsIn (sizes_of l.heap)) l.made.items;
  flat : All IsFlat l.made.items;
  told : (I : Telling) (names : List Text) → Fits I names l.heap → map (tell I) l.made.items ≡ map told.text (map string_bytes (take l.text-index l.texts));
}
