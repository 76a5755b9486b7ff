use Rattle.std.proofs.Common.{◌≡◌, map, take, string_bytes}
use Rattle.zw_def.specs.Names.{texts_of}
use Rattle.zw_map.proofs.sorted.texts.Given as goal

abbrev pub invariant-loop-name : goal.invariant-loop-name
invariant-loop-name l = map string_bytes l.texts.items ≡ texts_of l.names (take l.name-index l.path)
