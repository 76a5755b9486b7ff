-- Two sessions that differ in the numbers of their setups, in older records and variables, and in what was written
-- before.
use Rattle.std.specs.Prelude.{◌≡◌, ℕ, ◌==◌, Bool, false, IsFalse, ◌++◌}
use Rattle.std.specs.Option.{option_map}
use Rattle.zw_def.specs.Text.{Text}
use Rattle.zw_def_world.specs.Id.{Id}
use Rattle.zw_def_world.specs.Table.{at}
use Rattle.zw_def_world.specs.World.{World}
use Rattle.zw_def_world.specs.Session.{Session}
use Rattle.zw_fresh.specs.Renaming.{lifted, lifted_object, ren}
use Rattle.zw_fresh.specs.Alike.{Setting, Worlds}

-- Every world is within bounds, and names tell apart boot and later setups.
pub record IsPlain (S : Setting false) : Type 0 where
  pub all_within : (w : World) → S.within w
  pub modules : (i : Id) → (lifted S.lift i).setup ≡ S.setup_there i.setup
  pub objects : (i : Id) → (lifted_object S.lift i).setup ≡ S.setup_there i.setup
  pub of_boot : (n : ℕ) → (S.setup_there n == 0) ≡ (n == 0)

pub record Sessions (S : Setting false) (old : Text → Bool) (s s' : Session) : Type 0 where
  pub plain : IsPlain S
  pub world : Worlds false S s.world s'.world
  pub variables : (x : Text) → IsFalse (old x) → at x s'.variables ≡ option_map (ren S.lift) (at x s.variables)
  pub staged : s'.staged ≡ s.staged
  pub image : Worlds false S s.image s'.image
  pub is_down : s'.is_down ≡ s.is_down
  pub settings : s'.settings ≡ s.settings
  pub out : (o : Text) × (s.out ≡ S.front ++ o) × (s'.out ≡ S.front' ++ o)
