-- What is said of a call that reads: it gives what the rule gives, and leaves what the rule leaves, want of memory
-- aside.
use Rattle.std.specs.Prelude.{◌≡◌, ◌≢◌, Option, Some, None, Result, Ok, Err}
use Rattle.std.specs.Option.{option_map_or}
use Rattle.zw_def.specs.Text.{Text}
use Rattle.zw_base.specs.declared.fault.Fault.{Fault}
use Rattle.zw_base.specs.declared.fault.Fault.TheVariants.{Memory}
use Rattle.zw_def_syntax.specs.Input.{Input, Parser, ◌>>◌, pure, refuse, take_token}

abbrev pub Reads : {A X E : Type 0} → (X → A) → Parser A → Input → Result X (Fault E) → Input → Type 0
Reads view rule old (Ok x) new = rule old ≡ Some (view x, new)
Reads view rule old (Err fault) new = fault ≢ Memory → rule old ≡ None

-- takes the token that tells this name
abbrev pub take_named : Option Text → Parser Text
take_named name = option_map_or (λ x. take_token >> pure x) name refuse
