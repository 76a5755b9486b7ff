-- Setup: the map of the staged tree is taken, boot's modules of its namespaces get their homes, and callbacks run
-- (Zeitwerk README, "Setup" and "Callbacks"; the order is this project's own).
use Rattle.std.specs.Prelude.{Bool, true, false, List, [], ◌∷◌, ◌++◌, codes, Option, Some, None, is_some, if◌then◌else◌}
use Rattle.std.specs.Option.{option_map, option_or}
use Rattle.zw_def.specs.Tree.{Tree}
use Rattle.zw_def.specs.ConstantPath.{ConstantPath}
use Rattle.zw_def.specs.Layout.{Layout}
use Rattle.zw_def.specs.Expected.{WrongName, wrong_name_text}
use Rattle.zw_def.specs.Map.{map_of, namespaces, expecting_files, expecting_directories, names_of}
use Rattle.zw_def.specs.Wrong.{wrong_below}
use Rattle.zw_def_world.specs.Missing.{bind, is_some_so}
use Rattle.zw_def_world.specs.Id.{Id}
use Rattle.zw_def_world.specs.Value.{nil}
use Rattle.zw_def_world.specs.Record.{with_home}
use Rattle.zw_def_world.specs.World.{World, mounted}
use Rattle.zw_def_world.specs.BootTable.{boot_module, boot_of, standing_of}
use Rattle.zw_def_world.specs.Callback.{Callback, on_setup, callbacks_on}
use Rattle.zw_def_world.specs.Quote.{escaped_text}
use Rattle.zw_def_world.specs.Log.{opens}
use Rattle.zw_def_world.specs.Load.{runs_program}
use Rattle.zw_def_world.specs.Act.{Act, gives, ◌>>◌, reading, changing, changing_module}
use Rattle.zw_def_world.specs.Session.{Session, Phase, with_line, with_fault, at_end, acted, evaluates, begin_phase, with_act, end_phase}

-- ---- the map

-- no record is missing where boot's tables are asked for these paths
abbrev pub is_told : World → List ConstantPath → Option Bool
is_told w = is_some_so (λ p. option_map (λ standing. false) (standing_of w p))

abbrev pub paths_in : Layout → Tree → List ConstantPath
paths_in layout tree = names_of (expecting_files layout tree) ++ names_of (expecting_directories layout tree)

-- one more setup begins: the tree is mounted, and its map taken
abbrev pub mounts : Tree → Act
mounts tree =
    reading (λ w. is_told w (paths_in w.setting.layout tree)) (λ told.
    changing (λ w. mounted tree (map_of w.setting.layout tree (boot_of w)) w) nil)

-- ---- namespaces of the setup

-- those that lead through boot's tables to a module of that very name, Object among them; in map order
abbrev pub leading : World → List ConstantPath → Option (List ConstantPath)
leading w [] = Some []
leading w (p ∷ ps) =
    let later = leading w ps in
    bind (boot_module w p) (λ found. option_map (λ more. if is_some found then p ∷ more else more) later)

abbrev pub setup_namespaces : World → Option (List ConstantPath)
setup_namespaces w = leading w (namespaces w.setting.layout w.tree)

-- the wrong name of the first namespace that has one
abbrev pub first_wrong_of : World → List ConstantPath → Option WrongName
first_wrong_of w [] = None
first_wrong_of w (p ∷ ps) = option_or (wrong_below w.setting.layout w.tree p) (first_wrong_of w ps)

-- ---- homes

abbrev pub gives_home_to : ConstantPath → Option Id → Act
gives_home_to p None = gives nil
gives_home_to p (Some i) = changing_module i (with_home p) nil

-- a module gets its home, and is opened
abbrev pub gives_home : ConstantPath → Act
gives_home p = reading (λ w. boot_module w p) (gives_home_to p) >> opens p

abbrev pub gives_homes : List ConstantPath → Act
gives_homes [] = gives nil
gives_homes (p ∷ ps) = gives_home p >> gives_homes ps

-- ---- the session

abbrev pub does : Act → Session → Session
does act s =
    let e = acted act s in
    with_fault e (at_end e s)

-- each callback has the whole budget
abbrev pub with_callbacks : List Callback → Phase → Phase
with_callbacks [] phase = phase
with_callbacks (c ∷ cs) phase = with_callbacks cs (with_act (λ s. runs_program (evaluates s) c.program) phase)

abbrev pub setup_callbacks : Session → Phase
setup_callbacks s = with_callbacks (callbacks_on on_setup s.world.setting.callbacks) (begin_phase s)

-- the session is down until the next reload
abbrev pub refuses_setup : WrongName → Session → Session
refuses_setup wrong s =
    with_line (codes "! Zeitwerk::NameError: " ++ escaped_text (wrong_name_text wrong)) (record s { is_down = true })

abbrev pub sets_up_or_not : List ConstantPath → Option WrongName → Session → Phase
sets_up_or_not ps (Some wrong) s = begin_phase (refuses_setup wrong s)
sets_up_or_not ps None s = setup_callbacks (does (gives_homes ps) (record s { is_down = false }))

abbrev pub sets_up_in : Session → Option (List ConstantPath) → Phase
sets_up_in s None = begin_phase (with_line (codes "! lost") (record s { is_down = true }))
sets_up_in s (Some ps) = sets_up_or_not ps (first_wrong_of s.world ps) s

abbrev pub set_up_mounted : Session → Session
set_up_mounted s = end_phase (sets_up_in s (setup_namespaces s.world))

-- the staged tree is mounted and set up
abbrev pub set_up : Session → Session
set_up s = set_up_mounted (does (mounts s.staged) s)
