-- What the objects in memory tell.
use Rattle.std.specs.Prelude.{ℕ, List, drop, length, min}
use Rattle.zw_def.specs.Folder.{Listing}
use Rattle.zw_io.specs.FolderAnswers.{pairs}
use Rattle.zw_io.specs.declared.source.MemSource.{MemSource}
use Rattle.zw_io.specs.declared.sink.MemSink.{MemSink}
use Rattle.zw_io.specs.declared.folder.MemFolder.{MemFolder}

-- the bytes that the source has left
abbrev pub source_left : MemSource → List ℕ
source_left s = drop s.at s.bytes.items

-- how many bytes a call of the source gives that asks for so many: the least of its piece, those asked for and those
-- left
abbrev pub source_gives : MemSource → ℕ → ℕ
source_gives s asked = min (min asked s.piece) (length (source_left s))

-- how many calls of the source failed
abbrev pub source_faults : MemSource → ℕ
source_faults s = s.faults

-- the bytes that the sink took
abbrev pub sink_taken : MemSink → List ℕ
sink_taken s = s.taken.items

-- how many bytes the sink takes of a piece of so many: the least of these and its own piece
abbrev pub sink_takes : MemSink → ℕ → ℕ
sink_takes s given = min given s.piece

-- how many calls of the sink failed
abbrev pub sink_faults : MemSink → ℕ
sink_faults s = s.faults

-- the files of the folder, and the place in their listing
abbrev pub folder_listing : MemFolder → Listing
folder_listing f = record { files = pairs f.files.items; place = f.place }

-- how many calls of the folder failed
abbrev pub folder_faults : MemFolder → ℕ
folder_faults f = f.faults
