-- The exception that a raise stands for.
use Rattle.std.specs.Prelude.{string_bytes}
use Rattle.zw_def_world.specs.Record.{Object}
use Rattle.zw_def_world.specs.Making.{exception}
use Rattle.zw_fault.specs.ErrorKind.{error_kind_seen}
use Rattle.zw_fault.specs.declared.raise.Raise.{Raise}

abbrev pub raise_seen : Raise → Object
raise_seen r = exception (error_kind_seen r.kind) (string_bytes r.message)
