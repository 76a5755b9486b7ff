-- The primitive method of Symbol that a row stands for: its name, and what it does.
use Rattle.zw_def.specs.Text.{Text}
use Rattle.zw_def_world.specs.Primitive.{is}
use Rattle.zw_def_world.specs.Row as defined
use Rattle.zw_calls.specs.declared.symbol_row.SymbolRow.{SymbolRow}
use Rattle.zw_calls.specs.declared.symbol_row.SymbolRow.TheVariants as r

abbrev pub symbol_row_seen : SymbolRow → Text × defined.SymbolRow
symbol_row_seen r.ToSym = is "to_sym" defined.symbol_to_sym
symbol_row_seen r.Size = is "size" defined.symbol_size
symbol_row_seen r.Compared = is "<=>" defined.symbol_compared
