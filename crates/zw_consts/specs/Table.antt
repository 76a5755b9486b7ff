-- Tables by the numbers of modules and of names.
use Rattle.std.specs.Prelude.{ℕ, ◌==◌, List, [], Option, if◌then◌else◌, nat_eq, nat_lt}
use Rattle.std.specs.List.{slice_get}
use Rattle.std.specs.Option.{unwrap_or}
use Rattle.std.specs.Map.{lookup, remove_entry}
use Rattle.indexmap.specs.IndexMap.{insert_entry}

-- what stands at the numbers of names of one module, in the order in which they were first set
abbrev pub Table : Type 0 → Type 0
Table V = List (ℕ × V)

module _ {V : Type 0} where
  -- the table of each module: past the last one of a list all are empty
  abbrev pub tables_of : List (Table V) → ℕ → Table V
  tables_of tables m = unwrap_or (slice_get tables m) []

  abbrev pub no_tables : ℕ → Table V
  no_tables m = []

  abbrev pub value_at : ℕ → ℕ → (ℕ → Table V) → Option V
  value_at m x tables = lookup (nat_eq x) (tables m)

  -- ---- changes of one table

  abbrev pub at_table : ℕ → (Table V → Table V) → (ℕ → Table V) → ℕ → Table V
  at_table m g tables n = if n == m then g (tables n) else tables n

  -- a name that is there keeps its place, and a new one comes last
  abbrev pub with_value : ℕ → ℕ → V → (ℕ → Table V) → ℕ → Table V
  with_value m x v tables = at_table m (λ t. insert_entry nat_eq t x v) tables

  -- the others keep their order
  abbrev pub without_value : ℕ → ℕ → (ℕ → Table V) → ℕ → Table V
  without_value m x tables = at_table m (remove_entry (nat_eq x)) tables

  -- the tables of so many modules alone
  abbrev pub first_tables : ℕ → (ℕ → Table V) → ℕ → Table V
  first_tables count tables n = if nat_lt n count then tables n else []
