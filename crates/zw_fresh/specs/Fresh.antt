-- A fresh process beside a session that has set up some times: boot's numbers stay, and later ones are raised.
use Rattle.std.specs.Prelude.{ℕ, ◌+◌, ◌==◌, Bool, false, [], is_some, if◌then◌else◌}
use Rattle.zw_def.specs.Text.{Text}
use Rattle.zw_def.specs.Tree.{Tree}
use Rattle.zw_def_world.specs.Id.{Id}
use Rattle.zw_def_world.specs.Value.{Value}
use Rattle.zw_def_world.specs.Table.{Table, at}
use Rattle.zw_def_world.specs.World.{World, restored}
use Rattle.zw_def_world.specs.Session.{Session, Settings}
use Rattle.zw_fresh.specs.Renaming.{Names}

-- the number of a setup after so many others
abbrev pub raised_by : ℕ → ℕ → ℕ
raised_by d n = if n == 0 then 0 else n + d

-- modules and objects are named as with so many setups before
abbrev pub later_name : ℕ → Id → Id
later_name d i = record i { setup = raised_by d i.setup }

abbrev pub raised : ℕ → Names
raised d = record { of_module = later_name d; of_object = later_name d }

-- a process that has booted, and has not set up yet
abbrev pub fresh_session : World → Settings → Tree → Text → Session
fresh_session image settings tree out = record {
  world = image;
  variables = [];
  staged = tree;
  image = image;
  is_down = false;
  settings = settings;
  out = out;
}

-- a session whose world was unloaded and restored, and that has not set up again yet
abbrev pub restored_session : World → World → Settings → Tree → Table Value → Bool → Text → Session
restored_session image w settings tree variables is_down out = record {
  world = restored image w;
  variables = variables;
  staged = tree;
  image = image;
  is_down = is_down;
  settings = settings;
  out = out;
}

-- the variables that have a value now
abbrev pub older : Table Value → Text → Bool
older variables x = is_some (at x variables)
