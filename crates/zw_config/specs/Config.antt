-- What a configuration of the code stands for, and the names that it holds.
use Rattle.std.specs.Prelude.{List}
use Rattle.std.specs.List.{All}
use Rattle.zw_def.specs.Text.{Text}
use Rattle.zw_def.specs.Path.{Path}
use Rattle.zw_inflect.specs.Layout.{layout_seen}
use Rattle.zw_hooks.specs.HookSeen.{hooks_seen}
use Rattle.zw_def_session.specs.Opening.{Configuration}
use Rattle.zw_config.specs.declared.whole.Config.{Config}
use Rattle.zw_config.specs.Root as root
use Rattle.zw_config.specs.Callback as callback

-- as the configuration of the file at the path
abbrev pub config_seen : Path → List Text → Config → Configuration
config_seen path names c = record {
  path = path;
  layout = layout_seen names c.layout;
  callbacks = hooks_seen names c.hooks;
  reloading = c.reloading;
  eager = c.eager;
  boot = c.boot;
}

-- all names of its roots and callbacks are among these
abbrev pub IsNamed : List Text → Config → Type 0
IsNamed names c =
    All (root.IsNamed names) c.layout.roots.items × All (callback.IsNamed names) c.hooks.all.items
