use Rattle.std.proofs.Common.{◌≡◌, ◌+◌, take, string_bytes}
use Rattle.zw_def.specs.Path.{path_text}
use Rattle.zw_path.proofs.path.Path.text.Given as goal

abbrev pub invariant-loop-component : goal.invariant-loop-component
invariant-loop-component l = string_bytes l.text ≡ path_text (take (l.component-index + 1) l.self)
