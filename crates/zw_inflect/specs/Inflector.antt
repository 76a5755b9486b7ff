-- What the inflector of the code stands for.
use Rattle.std.specs.Prelude.{◌≡◌, Result, Ok, Err, String, string_bytes}
use Rattle.std.specs.declared.alloc.Global.{Global}
use Rattle.zw_base.specs.declared.fault.Fault.{Fault}
use Rattle.zw_base.specs.declared.fault.Fault.TheVariants.{Refused, Memory}
use Rattle.zw_def.specs.Text.{Text}
use Rattle.zw_def.specs.Inflector as defined
use Rattle.zw_inflect.specs.declared.inflector.Inflector.{Inflector}
use Rattle.zw_inflect.specs.declared.inflector.Inflector.TheVariants.{Default, Gem}
use Rattle.zw_inflect.specs.declared.inflector.WrongName.{WrongName}

abbrev pub inflector_seen : Inflector → defined.Inflector
inflector_seen (Default overrides) = defined.default_inflector overrides
inflector_seen (Gem overrides main) = defined.gem_inflector overrides main

-- the name is the definition's, and a wrong name is told exactly where the definition has one; want of memory says
-- nothing
abbrev pub Camelizes : Result (String Global) (Fault WrongName) → Result Text Text → Type 0
Camelizes (Ok name) told = told ≡ Ok (string_bytes name)
Camelizes (Err (Refused wrong)) told = told ≡ Err (string_bytes wrong.0)
Camelizes (Err Memory) told = Unit {0}
