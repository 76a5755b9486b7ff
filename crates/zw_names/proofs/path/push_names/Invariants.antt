use Rattle.std.proofs.Common.{◌≡◌, map, take}
use Rattle.std.specs.String.{string_bytes}
use Rattle.zw_def.specs.ConstantPath.{scoped}
use Rattle.zw_def.specs.Names.{texts_of}
use Rattle.zw_names.specs.declared.names.Name.{Name}
use Rattle.zw_names.proofs.path.push_names.Given as goal

-- the text has the names so far
abbrev pub invariant-loop-name : goal.invariant-loop-name
invariant-loop-name l = string_bytes l.text ≡ scoped (string_bytes l.fn.text) (texts_of l.names (map (λ (n : Name). n.0) (take l.name-index l.path)))
