use Rattle.std.proofs.Common.{◌≡◌, drop}
use Rattle.zw_def.specs.Folder.{bytes_at}
use Rattle.zw_io.specs.FolderAnswers.{pairs}
use Rattle.zw_io.proofs.folder.bytes_of.Given as goal

abbrev pub invariant-loop-file : goal.invariant-loop-file
invariant-loop-file l = bytes_at l.path (pairs (drop l.file-index l.files)) ≡ bytes_at l.path (pairs l.files)
