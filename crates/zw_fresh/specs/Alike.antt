-- Two points that differ in the numbers of their setups, in older records and variables, and in what is loaded
-- already.
use Rattle.std.specs.Prelude.{◌≡◌, ℕ, ◌+◌, ◌≤◌, ◌<◌, ◌⊎◌, ◌&&◌, nat_lt, Bool, true, false, IsFalse, [], ◌++◌, map as mapped, Option, Some, None}
use Rattle.std.specs.Option.{option_map, option_map_or}
use Rattle.zw_def.specs.Text.{Text}
use Rattle.zw_def.specs.ConstantPath.{ConstantPath}
use Rattle.zw_def_world.specs.Id.{Id, id_eq, boot_id}
use Rattle.zw_def_world.specs.CoreClass.{core_count, main_id}
use Rattle.zw_def_world.specs.Value.{Value}
use Rattle.zw_def_world.specs.Table.{Table, at}
use Rattle.zw_def_world.specs.Record.{Module, Object}
use Rattle.zw_def_world.specs.World.{World, State, idle, done, fresh, with_object, with_module, at_object, at_module}
use Rattle.zw_def_world.specs.Meeting.{with_meeting}
use Rattle.zw_def_world.specs.LookUp.{loadable}
use Rattle.zw_def_world.specs.Frame.{Frame}
use Rattle.zw_def_world.specs.Act.{Point, End, Flow, gave, raised, broken, skipped, returned, out_of_steps, too_deep, lost, Act}
use Rattle.zw_fresh.specs.CalmCode.{PlainRunning}
use Rattle.zw_fresh.specs.Renaming.{Names, lifted, lifted_object, lifted_all, ren, ren_module, ren_object, ren_load, ren_running, ren_flow}

-- ---- the setting

-- a change of a module's variables and class variables alone
pub record ChangesVariables (g : Module → Module) : Type 0 where
  pub rest : (m : Module) → g m ≡ record m { variables = (g m).variables; class_variables = (g m).class_variables }

abbrev pub IsThere : {A : Type 0} → Option A → Type 0
IsThere None = ⊥
IsThere (Some x) = Unit {0}

-- what is there stays there
abbrev pub NoneLost : World → World → Type 0
NoneLost w w' = (i : Id) → IsThere (w.modules i) → IsThere (w'.modules i)

-- How modules and objects are named there, no two alike, and how setups are numbered. Core classes and `main` keep
-- their names. What is made next is named so there, too: a module only where the world that has it is within bounds.
-- Of ends that are not within them nothing is said. In a calm setting the keys of a set are stated: where one is idle
-- here, it is done there, and the steps of its load are owed. `due` says what loads owe besides; what plain programs
-- change, leaves it. What was written before is in front.
pub record Setting (calm : Bool) : Type 1 where
  pub lift : Names
  pub apart : (i j : Id) → id_eq (lifted lift i) (lifted lift j) ≡ id_eq i j
  pub objects_apart : (i j : Id) → id_eq (lifted_object lift i) (lifted_object lift j) ≡ id_eq i j
  pub core_stays : (n : ℕ) → nat_lt n core_count ≡ true → lifted lift (boot_id n) ≡ boot_id n
  pub main_stays : lifted_object lift main_id ≡ main_id
  pub setup_there : ℕ → ℕ
  pub zero_stays : setup_there 0 ≡ 0
  pub within : World → Type 0
  pub within_before : (w w' : World) → NoneLost w w' → within w' → within w
  pub object_named : (w : World) → record (fresh w) { setup = setup_there w.setups } ≡ lifted_object lift (fresh w)
  pub module_named : (w : World) (i : Id) (n : Text) (made : Module) → within (with_module i n made w)
      → record (fresh w) { setup = setup_there w.setups } ≡ lifted lift (fresh w)
  pub stated : ConstantPath → Bool
  pub owed : (ConstantPath → State) → ℕ
  pub total : ℕ
  pub bounded : (states : ConstantPath → State) → owed states ≤ total
  pub exact : IsFalse calm → (states : ConstantPath → State) → owed states ≡ total
  pub due : World → World → Type 0
  pub still_made : (w w' : World) (o o' : Object) → due w w' → due (with_object o w) (with_object o' w')
  pub still_object : (w w' : World) (i : Id) (g g' : Object → Object) → due w w'
      → due (at_object i g w) (at_object (lifted_object lift i) g' w')
  pub still_module : (w w' : World) (i : Id) (g g' : Module → Module) → ChangesVariables g → ChangesVariables g'
      → IsThere (w.modules i) → due w w' → due (at_module i g w) (at_module (lifted lift i) g' w')
  pub still_met : (w w' : World) (h : Option ConstantPath) (n : Text) → due w w'
      → due (with_meeting h n w) (with_meeting h n w')
  pub front : Text
  pub front' : Text

-- a calm setting owes this, any other one that
abbrev pub When : Bool → Type 0 → Type 0 → Type 0
When true A B = A
When false A B = B

-- ---- what is looked up

-- what is there here is there too, renamed; what is not may be there only in a calm setting
abbrev pub Renamed : {A B : Type 0} → Bool → (A → B) → Option A → Option B → Type 0
Renamed calm g (Some x) o = o ≡ Some (g x)
Renamed true g None o = Unit {0}
Renamed false g None o = o ≡ None

pub record Found {A B : Type 0} (calm : Bool) (g : A → B) (o : Option A) (o' : Option B) : Type 0 where
  pub so : Renamed calm g o o'

-- the like of records
abbrev pub Met : {A B : Type 0} → Bool → (A → B → Type 0) → Option A → Option B → Type 0
Met calm R (Some x) (Some y) = R x y
Met calm R (Some x) None = ⊥
Met calm R None None = Unit {0}
Met true R None (Some y) = Unit {0}
Met false R None (Some y) = ⊥

-- ---- worlds

-- how a key stands there
abbrev pub state_there : Bool → State → State
state_there true idle = done
state_there true s = s
state_there false s = s

-- whether a module of that home would load a stated key for the name
abbrev pub shows : (calm : Bool) → Setting calm → World → Option ConstantPath → Text → Bool
shows calm S w home n = calm && option_map_or (λ k. S.stated k.path) (loadable w home n) false

-- a constant: where a stated key stands for it here, it is there
abbrev pub Constant : Bool → Names → Option Value → Option Value → Type 0
Constant shown f (Some v) o = o ≡ Some (ren f v)
Constant true f None o = (v : Value) × (o ≡ Some v)
Constant false f None o = o ≡ None

-- the module there, with constants of its own
abbrev pub module_with : Names → Table Value → Module → Module
module_with f constants m = record (ren_module f m) { constants = constants }

pub record CalmModules (f : Names) (shown : Option ConstantPath → Text → Bool) (m m' : Module) : Type 0 where
  pub others : m' ≡ module_with f m'.constants m
  pub constants : (n : Text) → Constant (shown m.home n) f (at n m.constants) (at n m'.constants)

abbrev pub Modules : Bool → Names → (Option ConstantPath → Text → Bool) → Module → Module → Type 0
Modules true f shown m m' = CalmModules f shown m m'
Modules false f shown m m' = m' ≡ ren_module f m

abbrev pub Objects : Names → Object → Object → Type 0
Objects f o o' = o' ≡ ren_object f o

-- in a calm setting no load is in progress, and loads have counted there
pub record Worlds (calm : Bool) (S : Setting calm) (w w' : World) : Type 0 where
  pub setups : w'.setups ≡ S.setup_there w.setups
  pub loads : w'.loads ≡ w.loads
  pub calm_loads : When calm (w.loads ≡ []) (Unit {0})
  pub counts : (l : Option ConstantPath)
      → When calm (l ≡ None → w'.counts l ≡ w.counts l) (w'.counts l ≡ w.counts l)
  pub tree : w'.tree ≡ w.tree
  pub map : w'.map ≡ w.map
  pub setting : w'.setting ≡ w.setting
  pub states : (p : ConstantPath) → w'.states p ≡ state_there (calm && S.stated p) (w.states p)
  pub order : When calm (Unit {0}) (w'.load_order ≡ mapped (ren_load S.lift) w.load_order)
  pub modules : (i : Id) → Met calm (Modules calm S.lift (shows calm S w)) (w.modules i) (w'.modules (lifted S.lift i))
  pub objects : (i : Id) → Met calm (Objects S.lift) (w.objects i) (w'.objects (lifted_object S.lift i))
  pub due : When calm (S.due w w') (Unit {0})

-- ---- frames and points

-- variables of the names in `old` may differ; they stand in the frame of the session alone, which has no parameters
pub record Frames (f : Names) (old : Text → Bool) (a b : Frame) : Type 0 where
  pub self_value : b.self_value ≡ ren f a.self_value
  pub scopes : b.scopes ≡ lifted_all f a.scopes
  pub locals : (x : Text) → IsFalse (old x) → at x b.locals ≡ option_map (ren f) (at x a.locals)
  pub is_console : b.is_console ≡ a.is_console
  pub is_body : b.is_body ≡ a.is_body
  pub hides : b.hides ≡ a.hides
  pub running : b.running ≡ option_map (ren_running f) a.running
  pub parameters : b.parameters ≡ a.parameters
  pub no_parameters : (x : Text) → old x ≡ true → a.parameters ≡ []

pub record Points (calm : Bool) (S : Setting calm) (old : Text → Bool) (p p' : Point) : Type 0 where
  pub world : Worlds calm S p.world p'.world
  pub frame : Frames S.lift old p.frame p'.frame
  pub plain : PlainRunning calm p.frame.running
  pub left : p'.left + S.owed p.world.states ≡ p.left + S.total
  pub out : (o : Text) × (p.out ≡ S.front ++ o) × (p'.out ≡ S.front' ++ o)

-- ---- ends

-- an end that is no answer
abbrev pub IsOver : Flow → Type 0
IsOver (gave v) = ⊥
IsOver (raised i) = ⊥
IsOver broken = ⊥
IsOver skipped = ⊥
IsOver (returned v) = ⊥
IsOver out_of_steps = Unit {0}
IsOver too_deep = Unit {0}
IsOver lost = Unit {0}

-- where steps are wanting here, there is no answer there, or it leaves less than all loads cost
abbrev pub Short : ℕ → End → Type 0
Short total e = IsOver e.flow ⊎ (e.at.left < total)

pub record EndsAlike (calm : Bool) (S : Setting calm) (old : Text → Bool) (e e' : End) : Type 0 where
  pub flow : e'.flow ≡ ren_flow S.lift e.flow
  pub at : Points calm S old e.at e'.at

abbrev pub Verdict : Bool → Flow → Type 0 → Type 0 → Type 0
Verdict calm (gave v) A B = B
Verdict calm (raised i) A B = B
Verdict calm broken A B = B
Verdict calm skipped A B = B
Verdict calm (returned v) A B = B
Verdict calm out_of_steps A B = When calm A B
Verdict calm too_deep A B = When calm (Unit {0}) B
Verdict calm lost A B = When calm (Unit {0}) B

-- the ends are alike, but for want of steps or levels here, where this one is within bounds
abbrev pub Ends : (calm : Bool) → Setting calm → (Text → Bool) → End → End → Type 0
Ends calm S old e e' = S.within e.at.world → Verdict calm e.flow (Short S.total e') (EndsAlike calm S old e e')

abbrev pub Acts : (calm : Bool) → Setting calm → (Text → Bool) → Act → Act → Type 0
Acts calm S old m m' = (p p' : Point) → Points calm S old p p' → Ends calm S old (m p) (m' p')
