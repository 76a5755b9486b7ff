-- Which method answers a call, in every world that agrees with the stores.
use Rattle.std.specs.Prelude.{◌≡◌, ℕ, ◌&&◌, Bool, true, false, List, Option, Some, None, Result, Ok, Err, codes, drop, map, take}
use Rattle.std.specs.List.{list_any, slice_get}
use Rattle.zw_base.specs.declared.fault.Fault.{Fault}
use Rattle.zw_base.specs.declared.fault.Fault.TheVariants.{Refused, Memory}
use Rattle.zw_calls.specs.Fault.{fault_seen}
use Rattle.zw_consts.specs.Ancestor.{ancestors_of, is_among}
use Rattle.zw_def.specs.Text.{Text}
use Rattle.zw_def_syntax.specs.Tree.{Tree as Node}
use Rattle.zw_def_world.specs.Act.{Act, Point}
use Rattle.zw_def_world.specs.Call.{calls, calls_super, is_bare, next_method, node_site, running_at, runs_body}
use Rattle.zw_def_world.specs.CoreClass.{classes_without_new}
use Rattle.zw_def_world.specs.Frame as told_frame
use Rattle.zw_def_world.specs.MethodLine as told_line
use Rattle.zw_def_world.specs.Value as told
use Rattle.zw_def_world.specs.World.{World}
use Rattle.zw_fault.specs.declared.raise.Raise.{Raise}
use Rattle.zw_heap.specs.Heap.{Held}
use Rattle.zw_heap.specs.Telling.{Telling, Fits, Agrees, tell}
use Rattle.zw_heap.specs.declared.value.ModuleId.{ModuleId}
use Rattle.zw_heap.specs.declared.value.Value.{Value}
use Rattle.zw_heap.specs.declared.value.Value.TheVariants as v
use Rattle.zw_methods.specs.Line.{Place, line_in, place_seen, places_of, told_place}
use Rattle.zw_methods.specs.Methods.{Methods, method_at, tables_in}
use Rattle.zw_methods.specs.declared.method.ModuleLine.{ModuleLine}
use Rattle.zw_methods.specs.Telling.{Codes, told_body, told_method, AgreesMethods}
use Rattle.zw_names.specs.declared.names.Name.{Name}
use Rattle.zw_ops.specs.Line.{is_of_classes, is_table}
use Rattle.zw_ops.specs.Written.{written_seen, absent_seen}
use Rattle.zw_ops.specs.declared.choice.Chosen.{Chosen}
use Rattle.zw_ops.specs.declared.choice.Running.{Running}
use Rattle.zw_ops.specs.declared.written.Absent.{Absent}
use Rattle.zw_ops.specs.declared.written.Written.{Written}

abbrev pub told_running : Telling → Running → told_frame.Running
told_running I r = record { name = I.name r.name.0; place = told_place I (place_seen r.place); earlier = r.earlier }

-- a telling, with the code of bodies, of a world that agrees with the stores
pub record Tells (I : Telling) (codes : Codes) (h : Held) (methods : Methods) (names : List Text)
    (w : World) : Type 0 where
  pub fits : Fits I names h
  pub heap : Agrees I h w
  pub methods_told : AgreesMethods I codes (tables_in methods) w

-- ---- what is found

-- it is the method that was found, as it runs
abbrev pub IsChosen : Telling → Codes → Text → Option told_line.Found → Option Chosen → Type 0
IsChosen I codes x None None = Unit {0}
IsChosen I codes x (Some f) (Some c) =
    (f.method ≡ told_method I codes c.method) × (running_at x f ≡ told_running I c.running)
IsChosen I codes x _ _ = ⊥

-- from a place of a line on
abbrev pub FindsFrom : Telling → Codes → World → Bool → Text → ℕ → List ModuleLine → Option Chosen → Type 0
FindsFrom I codes w passes x start line chosen =
    (found : Option told_line.Found)
    × (told_line.first_method w (told_line.is_asked passes) x (map (told_place I) (places_of (take start line)))
    (map (told_place I) (places_of (drop start line))) ≡ Some found)
    × IsChosen I codes x found chosen

abbrev pub Finds : Held → Methods → List Text → Value → ℕ → Option Chosen → Type 0
Finds h methods names receiver x chosen =
    (I : Telling) (codes : Codes) (w : World) → Tells I codes h methods names w
    → (found : Option told_line.Found)
    × (told_line.method_of w (tell I receiver) (I.name x) ≡ Some found)
    × IsChosen I codes (I.name x) found chosen

-- behind a running method
abbrev pub FindsNext : Held → Methods → List Text → Value → Running → Option Chosen → Type 0
FindsNext h methods names receiver running chosen =
    (I : Telling) (codes : Codes) (w : World) → Tells I codes h methods names w
    → (found : Option told_line.Found)
    × (next_method w (tell I receiver) (told_running I running) ≡ Some found)
    × IsChosen I codes (I.name running.name.0) found chosen

-- ---- where it stands

abbrev pub is_placed : List Place → Place → Bool
is_placed line p = list_any (is_table p) line

-- the method of a name that was found in a line, where the instances of Class may be passed over
pub record IsFoundIn (methods : Methods) (line : List Place) (passes : Bool) (x : Name) (c : Chosen) : Type 0 where
  pub name : c.running.name ≡ x
  pub there : method_at (tables_in methods) c.running.place c.running.name.0 ≡ Some c.method
  pub in_line : is_placed line (place_seen c.running.place) ≡ true
  pub asked : (passes && is_of_classes (place_seen c.running.place)) ≡ false

-- the numbers of the classes without `new`
abbrev pub without_new : List ℕ
without_new = map (λ i. i.count) classes_without_new

-- a module that none of them is above
abbrev pub Makes : Held → Value → Type 0
Makes h receiver =
    (m : ModuleId) × (receiver ≡ v.Module m)
    × (list_any (is_among (ancestors_of h.modules m.0)) without_new ≡ false)

abbrev pub is_new : List Text → ℕ → Type 0
is_new names x = slice_get names x ≡ Some (codes "new")

-- the method stands in that table of the receiver's line, under that name, and `new` of Class has a receiver that makes
-- objects
pub record StandsIn (h : Held) (methods : Methods) (names : List Text) (receiver : Value) (c : Chosen) : Type 0 where
  pub there : method_at (tables_in methods) c.running.place c.running.name.0 ≡ Some c.method
  pub in_line : is_placed (line_in h receiver) (place_seen c.running.place) ≡ true
  pub makes : is_of_classes (place_seen c.running.place) ≡ true → is_new names c.running.name.0 → Makes h receiver

-- ---- what is done

-- what is done by each meaning of nodes, with any arguments
abbrev pub Doing : Type 0
Doing = Telling → Codes → (Node → Act) → List told.Value → Act

-- the call does so
abbrev pub Does : Held → Methods → List Text → Doing → Doing → Type 0
Does h methods names call act =
    (I : Telling) (codes : Codes) (go : Node → Act) (vs : List told.Value) (p : Point)
    → Tells I codes h methods names p.world
    → call I codes go vs p ≡ act I codes go vs p

abbrev pub runs_chosen : Bool → Value → Chosen → Doing
runs_chosen bare receiver c I codes go vs =
    runs_body (node_site go bare) go (tell I receiver) (told_running I c.running) vs (told_body I codes c.method.body)

abbrev pub Runs : Held → Methods → List Text → Bool → Value → Doing → Result Chosen (Fault Raise) → Type 0
Runs h methods names bare receiver call (Ok c) = Does h methods names call (runs_chosen bare receiver c)
Runs h methods names bare receiver call (Err (Refused raise)) =
    Does h methods names call (λ I codes go vs. fault_seen raise)
Runs h methods names bare receiver call (Err Memory) = Unit {0}

abbrev pub Chooses : Held → Methods → List Text → Written → Absent → Value → ℕ → Result Chosen (Fault Raise) → Type 0
Chooses h methods names how absent receiver x =
    Runs h methods names (is_bare (written_seen how)) receiver
    (λ I codes go vs. calls go (written_seen how) (absent_seen absent) (tell I receiver) (I.name x) vs)

abbrev pub ChoosesNext : Held → Methods → List Text → Value → Running → Result Chosen (Fault Raise) → Type 0
ChoosesNext h methods names receiver running =
    Runs h methods names false receiver
    (λ I codes go vs. calls_super go (tell I receiver) vs (Some (told_running I running)))
