-- The code's files, as the definitions tell them.
use Rattle.zw_def.specs.Tree.{File as TreeFile}
use Rattle.zw_thin.specs.declared.file.File.{File}

abbrev pub file_seen : File → TreeFile
file_seen file = record { path = file.path; text = file.text.now }
