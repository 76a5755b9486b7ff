-- The names that a callback holds.
use Rattle.std.specs.Prelude.{List, IfSome}
use Rattle.zw_def.specs.Text.{Text}
use Rattle.zw_def.specs.Names.{AreNamed}
use Rattle.zw_ast.specs.Program.{IsNamedProgram}
use Rattle.zw_hooks.specs.declared.hook.Hook.{Hook}

-- the names of its target and of its program are among these
abbrev pub IsNamed : List Text → Hook → Type 0
IsNamed names hook = IfSome hook.target (AreNamed names) × IsNamedProgram names hook.program
