-- The names of modules and objects, and records by them.
use Rattle.std.specs.Prelude.{ℕ, Bool, true, false, ◌&&◌, ◌==◌, Option, Some, None, if◌then◌else◌}
use Rattle.std.specs.Option.{option_map}
use Rattle.zw_def.specs.ConstantPath.{ConstantPath}
use Rattle.zw_def.specs.Nesting.{same_names}

-- How many setups had begun (0 while boot runs), the key of the innermost load in progress, and the count of what was
-- made under these two.
pub record Id : Type 0 where
  pub setup : ℕ
  pub load : Option ConstantPath
  pub count : ℕ

abbrev pub same_load : Option ConstantPath → Option ConstantPath → Bool
same_load None None = true
same_load None (Some q) = false
same_load (Some p) None = false
same_load (Some p) (Some q) = same_names p q

abbrev pub id_eq : Id → Id → Bool
id_eq i j = i.count == j.count && i.setup == j.setup && same_load i.load j.load

-- what is there before the first setup, outside of loads
abbrev pub boot_id : ℕ → Id
boot_id count = record { setup = 0; load = None; count = count }

abbrev pub is_of_boot : Id → Bool
is_of_boot i = i.setup == 0

-- ---- records by their names

abbrev pub Records : Type 0 → Type 0
Records A = Id → Option A

abbrev pub no_records : {A : Type 0} → Records A
no_records i = None

abbrev pub held_at : {A : Type 0} → Id → Option A → Records A → Records A
held_at i held records j = if id_eq j i then held else records j

abbrev pub with_record : {A : Type 0} → Id → A → Records A → Records A
with_record i x records = held_at i (Some x) records

-- a record is changed, if it is there
abbrev pub changed_at : {A : Type 0} → Id → (A → A) → Records A → Records A
changed_at i g records = held_at i (option_map g (records i)) records

abbrev pub each_changed : {A : Type 0} → (A → A) → Records A → Records A
each_changed g records j = option_map g (records j)

-- those of boot as they are in the first, and the later ones of the second, changed
abbrev pub later_changed : {A : Type 0} → (A → A) → Records A → Records A → Records A
later_changed g boot records j = if is_of_boot j then boot j else option_map g (records j)
