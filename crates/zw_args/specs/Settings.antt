-- What the settings of the code stand for.
use Rattle.std.specs.Prelude.{◌≡◌, Option, Some, None, Result, Ok, Err}
use Rattle.zw_base.specs.declared.fault.Fault.{Fault}
use Rattle.zw_base.specs.declared.fault.Fault.TheVariants.{Refused, Memory}
use Rattle.zw_def.specs.Path.{Path}
use Rattle.zw_def_session.specs.Settings as defined
use Rattle.zw_args.specs.declared.Settings.{Settings}
use Rattle.zw_args.specs.declared.Usage.{Usage}

abbrev pub settings_seen : Settings → defined.Settings
settings_seen s = record {
  budget = s.budget;
  gives_budget = s.gives_budget;
  log = s.log;
  steps = s.steps;
  eager = s.eager;
  config = s.config;
}

-- what is read is the definition's, and the words are refused exactly where it has nothing; want of memory says nothing
abbrev pub Tells : Result Settings (Fault Usage) → Option defined.Settings → Type 0
Tells (Ok settings) told = told ≡ Some (settings_seen settings)
Tells (Err (Refused usage)) told = told ≡ None
Tells (Err Memory) told = Unit {0}

-- the same of the path of the configuration
abbrev pub TellsConfig : Result Path (Fault Usage) → Option Path → Type 0
TellsConfig (Ok path) told = told ≡ Some path
TellsConfig (Err (Refused usage)) told = told ≡ None
TellsConfig (Err Memory) told = Unit {0}
