-- The words that are still to be read.
use Rattle.std.specs.Prelude.{List, [], Option, Some, None}
use Rattle.std.specs.Borrow.{Bor}
use Rattle.zw_def.specs.Text.{Text, pieces}

abbrev pub words_left : Option (Bor Text) → List Text
words_left None = []
words_left (Some text) = pieces 32 text.now
