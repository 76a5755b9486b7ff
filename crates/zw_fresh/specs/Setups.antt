-- No record has the number of a setup that has not begun.
use Rattle.std.specs.Prelude.{ℕ, ◌<◌, ◌≡◌, None}
use Rattle.zw_def_world.specs.Id.{Id, Records}
use Rattle.zw_def_world.specs.World.{World}

abbrev pub NoneComing : {A : Type 0} → ℕ → Records A → Type 0
NoneComing setups records = (i : Id) → setups < i.setup → records i ≡ None

pub record Past (w : World) : Type 0 where
  pub modules : NoneComing w.setups w.modules
  pub objects : NoneComing w.setups w.objects
