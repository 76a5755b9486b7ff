-- The lines of `runs`, as one text.
use Rattle.std.specs.Prelude.{◌≡◌, true, false, List, Option, Some, None, String, string_bytes}
use Rattle.std.specs.declared.alloc.Global.{Global}
use Rattle.std.specs.List.{list_all}
use Rattle.std.specs.Str.{is_utf8}
use Rattle.zw_def.specs.Text.{Text, joined}
use Rattle.zw_def_session.specs.Commands.{without_returns}

-- the text of the lines, where all are in UTF-8
abbrev pub TellsScript : Option (String Global) → List Text → Type 0
TellsScript None lines = list_all is_utf8 lines ≡ false
TellsScript (Some text) lines = (list_all is_utf8 lines ≡ true) × (string_bytes text ≡ joined 10 (without_returns lines))
