use Rattle.std.proofs.Common.{◌≡◌, string_bytes}
use Rattle.zw_def_world.specs.StringRows.{repeated}
use Rattle.zw_strings.proofs.padding.repeated.Given as goal

abbrev pub invariant-loop-turn : goal.invariant-loop-turn
invariant-loop-turn l = string_bytes l.made ≡ repeated l._turn l.text
