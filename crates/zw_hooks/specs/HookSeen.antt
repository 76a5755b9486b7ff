-- What the code's callbacks stand for. Their names are told by a list of texts.
use Rattle.std.specs.Prelude.{ℕ, List, map, slice_get, Option, IfSome, option_map}
use Rattle.std.specs.List.{All}
use Rattle.zw_def.specs.Text.{Text}
use Rattle.zw_def.specs.Names.{AreNamed, texts_of}
use Rattle.zw_def_world.specs.Callback.{Callback, Moment, on_setup, on_load, on_unload}
use Rattle.zw_ast.specs.Program.{program_seen}
use Rattle.zw_hooks.specs.declared.hook.Hook.{Hook}
use Rattle.zw_hooks.specs.declared.hook.HookKind.{HookKind}
use Rattle.zw_hooks.specs.declared.hook.HookKind.TheVariants as kind
use Rattle.zw_hooks.specs.declared.hooks.Hooks.{Hooks}

abbrev pub moment_seen : HookKind → Moment
moment_seen kind.Setup = on_setup
moment_seen kind.Load = on_load
moment_seen kind.Unload = on_unload

abbrev pub hook_seen : List Text → Hook → Callback
hook_seen names hook = record {
  moment = moment_seen hook.on;
  target = option_map (texts_of names) hook.target;
  program = program_seen names hook.program;
}

abbrev pub hooks_seen : List Text → Hooks → List Callback
hooks_seen names hooks = map (hook_seen names) hooks.all.items

-- the callback at a place
abbrev pub seen_at : List Text → Hooks → ℕ → Option Callback
seen_at names hooks place = slice_get (hooks_seen names hooks) place

-- the names of the target are among these
abbrev pub IsTargetNamed : List Text → Hook → Type 0
IsTargetNamed names hook = IfSome hook.target (AreNamed names)

abbrev pub AreTargetsNamed : List Text → Hooks → Type 0
AreTargetsNamed names hooks = All (IsTargetNamed names) hooks.all.items
