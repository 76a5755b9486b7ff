-- What the faults of this crate stand for.
use Rattle.std.specs.Prelude.{◌≡◌, Result, Ok, Err, string_bytes}
use Rattle.zw_base.specs.declared.fault.Fault as either
use Rattle.zw_base.specs.declared.fault.Fault.TheVariants.{Refused, Memory}
use Rattle.zw_def_config.specs.Fault.{Reading}
use Rattle.zw_def_config.specs.Fault as defined
use Rattle.zw_config.specs.declared.fault.ConfigFault.{ConfigFault}
use Rattle.zw_config.specs.declared.fault.ConfigFault.TheVariants as c

abbrev pub fault_seen : ConfigFault → defined.Fault
fault_seen c.NotToml = defined.not_toml
fault_seen (c.UnknownKey key) = defined.unknown_key (string_bytes key)
fault_seen (c.WrongKind key) = defined.wrong_kind key.now
fault_seen (c.BadPath key) = defined.bad_path key.now
fault_seen (c.BadCPath key) = defined.bad_constant_path key.now
fault_seen (c.DoubleRoot root) = defined.double_root (string_bytes root)
fault_seen (c.BadRuby key) = defined.bad_ruby key.now

-- the reading is refused for this fault; want of memory says nothing
abbrev pub Refuses : {Y : Type 0} → either.Fault ConfigFault → Reading Y → Type 0
Refuses (Refused fault) reading = reading ≡ Err (fault_seen fault)
Refuses Memory reading = Unit {0}

-- what is read is the definition's, as the types of the code stand for it
abbrev pub Gives : {X Y : Type 0} → (X → Y) → Result X (either.Fault ConfigFault) → Reading Y → Type 0
Gives seen (Ok x) reading = reading ≡ Ok (seen x)
Gives seen (Err fault) reading = Refuses fault reading
