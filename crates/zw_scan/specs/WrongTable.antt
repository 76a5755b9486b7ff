-- The first wrong names that are kept by the namespaces, which are told by the numbers of their names.
use Rattle.std.specs.Prelude.{ℕ, List, Option, Some, None}
use Rattle.std.specs.Option.{option_map_or}
use Rattle.std.specs.Global.{Vec}
use Rattle.std.specs.Map.{lookup}
use Rattle.zw_scan.specs.Table.{same_numbers}
use Rattle.zw_scan.specs.Wrong.{Ranked, ranked}
use Rattle.zw_scan.specs.declared.wrong.First.{First}
use Rattle.zw_scan.specs.declared.wrong.WrongTable.{WrongTable}

abbrev pub first_seen : First → Ranked
first_seen first = ranked first.root first.path

abbrev pub kept_seen : Option First → Option Ranked
kept_seen first = option_map_or (λ f. Some (first_seen f)) first None

abbrev pub first_at : List ℕ → WrongTable → Option Ranked
first_at q table = kept_seen (lookup (λ (k : Vec ℕ). same_numbers q k.items) table.rows.entries)
