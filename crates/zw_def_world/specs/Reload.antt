-- Reload: what was loaded is unloaded in the order of loading, boot's tables are as boot left them, and the staged tree
-- is set up (Zeitwerk README, "Reloading"; the order is this project's own).
use Rattle.std.specs.Prelude.{List, [], ◌∷◌, ◌++◌, codes}
use Rattle.zw_def.specs.ConstantPath.{constant_path_text}
use Rattle.zw_def.specs.Nesting.{last_name}
use Rattle.zw_def.specs.Map.{key_at}
use Rattle.zw_def_world.specs.Value.{nil}
use Rattle.zw_def_world.specs.Record.{without_constant}
use Rattle.zw_def_world.specs.World.{Load, without_idle, restored}
use Rattle.zw_def_world.specs.Callback.{Callback, on_unload, callbacks_for}
use Rattle.zw_def_world.specs.Log.{logs_line}
use Rattle.zw_def_world.specs.Load.{runs_callback}
use Rattle.zw_def_world.specs.Act.{Act, ◌>>◌, read, changing_module}
use Rattle.zw_def_world.specs.Session.{Session, Phase, with_line, evaluates, begin_phase, with_act, end_phase}
use Rattle.zw_def_world.specs.Setup.{does, set_up}

-- ---- unloading a key

-- a callback of the key of a load, which is a key of the map
abbrev pub unload_callback : Load → Callback → Session → Act
unload_callback load c s =
    read (key_at s.world.map load.key) (λ k. runs_callback (evaluates s) k load.parent (last_name load.key) c)

-- each callback has the whole budget, and its value is what the parent's table then has
abbrev pub with_unload_callbacks : Load → List Callback → Phase → Phase
with_unload_callbacks load [] phase = phase
with_unload_callbacks load (c ∷ cs) phase =
    with_unload_callbacks load cs (with_act (unload_callback load c) phase)

abbrev pub takes_out_of_parent : Load → Act
takes_out_of_parent load =
    changing_module load.parent (without_constant (last_name load.key)) nil
    >> logs_line (codes "unloaded " ++ constant_path_text load.key)

abbrev pub unload_callbacks : Load → Phase → Phase
unload_callbacks load phase =
    with_unload_callbacks load
    (callbacks_for on_unload load.key phase.session.world.setting.callbacks) phase

-- then the constant is taken out of its parent's table
abbrev pub unload_key : Load → Phase → Phase
unload_key load phase =
    let called = unload_callbacks load phase in
    record called { session = does (takes_out_of_parent load) called.session }

abbrev pub unload_keys : List Load → Phase → Phase
unload_keys [] phase = phase
unload_keys (l ∷ ls) phase = unload_keys ls (unload_key l phase)

-- ---- the whole

abbrev pub with_idle_dropped : Session → Session
with_idle_dropped s = record s { world = without_idle s.world }

-- no idle key is left, so nothing is loaded while callbacks run
abbrev pub unloaded : Session → Session
unloaded s = end_phase (unload_keys s.world.load_order (begin_phase (with_idle_dropped s)))

abbrev pub with_restored : Session → Session
with_restored s = record s { world = restored s.image s.world }

abbrev pub reloaded : Session → Session
reloaded s = set_up (with_line (codes "reloaded") (with_restored (unloaded s)))
