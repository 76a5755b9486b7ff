-- The law: a session that is reloaded writes what a fresh process over the tree that it mounts writes.
use Rattle.std.specs.Prelude.{◌≡◌, Bool, List, [], ◌∷◌, ◌++◌, Some, codes, map as mapped}
use Rattle.std.specs.Option.{option_map}
use Rattle.zw_def.specs.Text.{Text}
use Rattle.zw_def.specs.Tree.{Tree}
use Rattle.zw_def_world.specs.Id.{Id}
use Rattle.zw_def_world.specs.World.{World}
use Rattle.zw_def_world.specs.Session.{Session}
use Rattle.zw_def_world.specs.Setup.{is_told, paths_in}
use Rattle.zw_def_session.specs.Commands.{Command}
use Rattle.zw_def_world.specs.Reload.{unloaded}
use Rattle.zw_def_session.specs.Answers.{answer, reloads}
use Rattle.zw_def_session.specs.Whole.{sets_up}
use Rattle.zw_fresh.specs.Renaming.{lifted, lifted_object, ren_module, ren_object, ren_load}
use Rattle.zw_fresh.specs.Setups.{Past}
use Rattle.zw_fresh.specs.Fresh.{raised, fresh_session}
use Rattle.zw_fresh.specs.Named.{NameNone}

-- What holds of the image that boot left, and of a world that came from it: what boot made holds names of boot alone,
-- no record of a coming setup is made, and the setting is boot's; and boot's tables have the records that a setup over
-- the tree reads.
pub record CameFrom (image w : World) (tree : Tree) : Type 0 where
  pub first : image.setups ≡ 0
  pub order : image.load_order ≡ mapped (ren_load (raised w.setups)) image.load_order
  pub modules : (i : Id)
      → image.modules (lifted (raised w.setups) i) ≡ option_map (ren_module (raised w.setups)) (image.modules i)
  pub objects : (i : Id)
      → image.objects (lifted_object (raised w.setups) i) ≡ option_map (ren_object (raised w.setups)) (image.objects i)
  pub none : Past image
  pub later : Past w
  pub setting : w.setting ≡ image.setting
  pub told : Bool
  pub tells : is_told image (paths_in image.setting.layout tree) ≡ Some told

abbrev pub answered : List Command → Session → Session
answered [] s = s
answered (c ∷ cs) s = answered cs (answer c s)

-- behind what was written before, the same is written
abbrev pub WritesAlike : Text → Text → Session → Session → Type 0
WritesAlike front front' s s' = (o : Text) × (s.out ≡ front ++ o) × (s'.out ≡ front' ++ o)

-- A reload unloads the session, restores boot's records, writes `reloaded` and sets up. Behind that line the session
-- writes what a process writes that boot left with that image and that sets up the staged tree, commands included.
abbrev pub ReloadIsFresh : Type 0
ReloadIsFresh =
    (s : Session) (front : Text) (commands : List Command)
    → CameFrom (unloaded s).image (unloaded s).world (unloaded s).staged → NameNone (unloaded s).variables commands
    → WritesAlike front ((unloaded s).out ++ codes "reloaded" ++ codes "\n")
    (answered commands (sets_up (fresh_session (unloaded s).image (unloaded s).settings (unloaded s).staged front)))
    (answered commands (reloads s))
