-- Records by numbers, told as records by names.
use Rattle.std.specs.Prelude.{ℕ, zero, suc, Option, Some, None, if◌then◌else◌}
use Rattle.zw_def_world.specs.Id.{Id, Records, id_eq}
use Rattle.zw_def_world.specs.Missing.{bind}

-- which of so many numbers has the name
abbrev pub number_of : (ℕ → Id) → ℕ → Id → Option ℕ
number_of ids zero i = None
number_of ids (suc n) i =
    let earlier = number_of ids n i in
    if id_eq i (ids n) then Some n else earlier

-- of so many numbers, the record of the one that has the name
abbrev pub records_by : {A : Type 0} → (ℕ → Id) → ℕ → (ℕ → Option A) → Records A
records_by ids count record_at i = bind (number_of ids count i) record_at
