-- The definition's kinds of arguments that those of the code stand for.
use Rattle.zw_def_world.specs.Argument as defined
use Rattle.zw_calls.specs.declared.kind.Kind.{Kind}
use Rattle.zw_calls.specs.declared.kind.Kind.TheVariants as k

abbrev pub kind_seen : Kind → defined.Kind
kind_seen k.Integer = defined.integers
kind_seen k.String = defined.strings
kind_seen k.Symbol = defined.symbols
kind_seen k.Array = defined.arrays
kind_seen k.Module = defined.modules
kind_seen k.Any = defined.any
