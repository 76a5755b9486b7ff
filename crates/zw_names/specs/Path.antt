-- The parts of a constant path that are still to be read.
use Rattle.std.specs.Prelude.{List, [], Option, Some, None}
use Rattle.std.specs.Borrow.{Bor}
use Rattle.zw_def.specs.Text.{Text}
use Rattle.zw_def.specs.ConstantPath.{parts_of}

abbrev pub parts_left : Option (Bor Text) → List Text
parts_left None = []
parts_left (Some text) = parts_of text.now
