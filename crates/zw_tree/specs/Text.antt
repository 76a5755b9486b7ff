-- The text of a file of a tree.
use Rattle.std.specs.Prelude.{Option}
use Rattle.std.specs.List.{find}
use Rattle.std.specs.Option.{option_map}
use Rattle.zw_def.specs.Text.{Text}
use Rattle.zw_def.specs.Path.{Path, same_path}
use Rattle.zw_def.specs.Tree.{Tree}

-- the text of the file with this path
abbrev pub text_at : Path → Tree → Option Text
text_at path tree = option_map (λ file. file.text) (find (λ file. same_path file.path path) tree)
