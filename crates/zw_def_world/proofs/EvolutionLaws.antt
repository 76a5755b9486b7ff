-- What holds of each change, holds of acts: the changes, and the combinators of acts.
use Rattle.std.specs.Prelude.{ℕ, ◌-◌, ◌++◌, Bool, true, false, nat_lt, List, [], ◌∷◌, codes, Option, Some, None, if◌then◌else◌}
use Rattle.zw_def.specs.Text.{Text}
use Rattle.zw_def.specs.ConstantPath.{ConstantPath}
use Rattle.zw_def_syntax.specs.Tree.{Tree, Trees, no_trees, tree_then}
use Rattle.zw_def_world.specs.Id.{Id}
use Rattle.zw_def_world.specs.Value.{Value}
use Rattle.zw_def_world.specs.Record.{Module, Object}
use Rattle.zw_def_world.specs.World.{World, State, with_state, entered, left_load, begun, settled, taken_back, at_module, at_object, with_object, with_module}
use Rattle.zw_def_world.specs.Meeting.{with_meeting}
use Rattle.zw_def_world.specs.Frame.{Frame}
use Rattle.zw_def_world.specs.Act.{Act, Point, Flow, gave, raised, broken, skipped, returned, out_of_steps, too_deep, lost, ends, gives, ◌>>>◌, go_on, ◌>>=◌, ◌>>◌, read, in_world, reading, in_module, in_object, in_frame, changing, changing_frame, changing_module, changing_object, writes, framed, paid, spending, last_of, statements, values_of}

-- What holds between where an act begins and where it ends, for each of the changes that acts are made of.
pub record Evolution : Type 1 where
  pub relation : Point → Point → Type 0
  pub none : (p : Point) → relation p p
  pub both : (p q r : Point) → relation p q → relation q r → relation p r
  pub module_changed : (p : Point) (i : Id) (g : Module → Module)
      → relation p (record p { world = at_module i g p.world })
  pub object_changed : (p : Point) (i : Id) (g : Object → Object)
      → relation p (record p { world = at_object i g p.world })
  pub object_made : (p : Point) (o : Object) → relation p (record p { world = with_object o p.world })
  pub module_made : (p : Point) (i : Id) (n : Text) (m : Module)
      → relation p (record p { world = with_module i n m p.world })
  pub state_set : (p : Point) (q : ConstantPath) (s : State)
      → relation p (record p { world = with_state q s p.world })
  pub load_begun : (p : Point) (q : ConstantPath) → relation p (record p { world = begun q p.world })
  pub load_entered : (p : Point) (q : ConstantPath) → relation p (record p { world = entered q p.world })
  pub load_left : (p : Point) → relation p (record p { world = left_load p.world })
  pub load_settled : (p : Point) (q : ConstantPath) (i : Id) → relation p (record p { world = settled q i p.world })
  pub load_taken_back : (p : Point) (q : ConstantPath) → relation p (record p { world = taken_back q p.world })
  pub met : (p : Point) (h : Option ConstantPath) (n : Text)
      → relation p (record p { world = with_meeting h n p.world })
  pub in_other_frame : (p : Point) (f : Frame) → relation p (record p { frame = f })
  pub spent : (p : Point) (n : ℕ) → relation p (record p { left = p.left - n })
  pub written : (p : Point) (t : Text) → relation p (record p { out = p.out ++ t ++ codes "\n" })

-- it holds between where the act begins and where it ends
pub record Keeps (E : Evolution) (m : Act) : Type 0 where
  pub kept : (p : Point) → E.relation p (m p).at

-- ---- ends and acts in a row

pub ends_keeps : {E : Evolution} (f : Flow) → Keeps E (ends f)
ends_keeps {E} f = record { kept = E.none }

pub gives_keeps : {E : Evolution} (v : Value) → Keeps E (gives v)
gives_keeps v = ends_keeps (gave v)

-- an act after a change
after : (E : Evolution) (p q : Point) (m : Act) → E.relation p q → Keeps E m → E.relation p (m q).at
after E p q m r a = E.both p q (m q).at r (a.kept q)

pub then_keeps : {E : Evolution} {m : Act} {k : Flow → Act} → Keeps E m → ((f : Flow) → Keeps E (k f))
    → Keeps E (m >>> k)
then_keeps {E} {m} {k} a b = record { kept = λ p. after E p (m p).at (k (m p).flow) (a.kept p) (b (m p).flow) }

pub go_on_keeps : {E : Evolution} {k : Value → Act} → ((v : Value) → Keeps E (k v)) → (f : Flow)
    → Keeps E (go_on k f)
go_on_keeps b (gave v) = b v
go_on_keeps b (raised i) = ends_keeps (raised i)
go_on_keeps b broken = ends_keeps broken
go_on_keeps b skipped = ends_keeps skipped
go_on_keeps b (returned v) = ends_keeps (returned v)
go_on_keeps b out_of_steps = ends_keeps out_of_steps
go_on_keeps b too_deep = ends_keeps too_deep
go_on_keeps b lost = ends_keeps lost

pub on_keeps : {E : Evolution} {m : Act} {k : Value → Act} → Keeps E m → ((v : Value) → Keeps E (k v))
    → Keeps E (m >>= k)
on_keeps a b = then_keeps a (go_on_keeps b)

pub both_keep : {E : Evolution} {m n : Act} → Keeps E m → Keeps E n → Keeps E (m >> n)
both_keep a b = on_keeps a (λ v. b)

pub if_keeps : {E : Evolution} (b : Bool) {m n : Act} → Keeps E m → Keeps E n → Keeps E (if b then m else n)
if_keeps true a b = a
if_keeps false a b = b

-- ---- what is read

pub read_keeps : {E : Evolution} {X : Type 0} (o : Option X) {k : X → Act} → ((x : X) → Keeps E (k x))
    → Keeps E (read o k)
read_keeps None b = ends_keeps lost
read_keeps (Some x) b = b x

pub in_world_keeps : {E : Evolution} {X : Type 0} (f : World → X) {k : X → Act} → ((x : X) → Keeps E (k x))
    → Keeps E (in_world f k)
in_world_keeps f b = record { kept = λ p. (b (f p.world)).kept p }

pub reading_keeps : {E : Evolution} {X : Type 0} (f : World → Option X) {k : X → Act}
    → ((x : X) → Keeps E (k x)) → Keeps E (reading f k)
reading_keeps f b = record { kept = λ p. (read_keeps (f p.world) b).kept p }

pub in_module_keeps : {E : Evolution} (i : Id) {k : Module → Act} → ((m : Module) → Keeps E (k m))
    → Keeps E (in_module i k)
in_module_keeps i b = record { kept = λ p. (read_keeps (p.world.modules i) b).kept p }

pub in_object_keeps : {E : Evolution} (i : Id) {k : Object → Act} → ((o : Object) → Keeps E (k o))
    → Keeps E (in_object i k)
in_object_keeps i b = record { kept = λ p. (read_keeps (p.world.objects i) b).kept p }

pub in_frame_keeps : {E : Evolution} {X : Type 0} (f : Frame → X) {k : X → Act} → ((x : X) → Keeps E (k x))
    → Keeps E (in_frame f k)
in_frame_keeps f b = record { kept = λ p. (b (f p.frame)).kept p }

-- ---- what is changed

pub module_keeps : {E : Evolution} (i : Id) (g : Module → Module) (v : Value) → Keeps E (changing_module i g v)
module_keeps {E} i g v = in_module_keeps i (λ m. record { kept = λ p. E.module_changed p i g })

pub object_keeps : {E : Evolution} (i : Id) (g : Object → Object) (v : Value) → Keeps E (changing_object i g v)
object_keeps {E} i g v = in_object_keeps i (λ o. record { kept = λ p. E.object_changed p i g })

pub frame_keeps : {E : Evolution} (g : Frame → Frame) (v : Value) → Keeps E (changing_frame g v)
frame_keeps {E} g v = record { kept = λ p. E.in_other_frame p (g p.frame) }

pub made_keeps : {E : Evolution} (o : Object) (v : Value) → Keeps E (changing (with_object o) v)
made_keeps {E} o v = record { kept = λ p. E.object_made p o }

pub module_made_keeps : {E : Evolution} (i : Id) (n : Text) (m : Module) (v : Value)
    → Keeps E (changing (with_module i n m) v)
module_made_keeps {E} i n m v = record { kept = λ p. E.module_made p i n m }

pub state_keeps : {E : Evolution} (q : ConstantPath) (s : State) (v : Value) → Keeps E (changing (with_state q s) v)
state_keeps {E} q s v = record { kept = λ p. E.state_set p q s }

pub begun_keeps : {E : Evolution} (q : ConstantPath) (v : Value) → Keeps E (changing (begun q) v)
begun_keeps {E} q v = record { kept = λ p. E.load_begun p q }

pub entered_keeps : {E : Evolution} (q : ConstantPath) (v : Value) → Keeps E (changing (entered q) v)
entered_keeps {E} q v = record { kept = λ p. E.load_entered p q }

pub left_keeps : {E : Evolution} (v : Value) → Keeps E (changing left_load v)
left_keeps {E} v = record { kept = λ p. E.load_left p }

pub settled_keeps : {E : Evolution} (q : ConstantPath) (i : Id) (v : Value) → Keeps E (changing (settled q i) v)
settled_keeps {E} q i v = record { kept = λ p. E.load_settled p q i }

pub taken_back_keeps : {E : Evolution} (q : ConstantPath) (v : Value) → Keeps E (changing (taken_back q) v)
taken_back_keeps {E} q v = record { kept = λ p. E.load_taken_back p q }

pub met_keeps : {E : Evolution} (h : Option ConstantPath) (n : Text) (v : Value)
    → Keeps E (changing (with_meeting h n) v)
met_keeps {E} h n v = record { kept = λ p. E.met p h n }

pub writes_keeps : {E : Evolution} (line : Text) → Keeps E (writes line)
writes_keeps {E} line = record { kept = λ p. E.written p line }

pub framed_keeps : {E : Evolution} (f : Frame) {m : Act} → Keeps E m → Keeps E (framed f m)
framed_keeps {E} f {m} a = record {
  kept = λ p.
      let q : Point = record p { frame = f } in
      let r : Point = (m q).at in
      E.both p r (record r { frame = p.frame }) (after E p q m (E.in_other_frame p f) a) (E.in_other_frame r p.frame);
}

-- ---- steps

pub paid_keeps : {E : Evolution} (n : ℕ) {m : Act} → Keeps E m → Keeps E (paid n m)
paid_keeps {E} n {m} a =
    record { kept = λ p. (if_keeps (nat_lt p.left n) (ends_keeps out_of_steps) (spending_keeps p)).kept p }
  where
    spending_keeps : Point → Keeps E (spending n m)
    spending_keeps q = record { kept = λ p. after E p (record p { left = p.left - n }) m (E.spent p n) a }

-- ---- lists of nodes

pub last_keeps : {E : Evolution} {go : Tree → Act} → ((t : Tree) → Keeps E (go t)) → (v : Value) (ts : Trees)
    → Keeps E (last_of go v ts)
last_keeps g v no_trees = gives_keeps v
last_keeps g v (tree_then t ts) = on_keeps (g t) (λ u. last_keeps g u ts)

pub statements_keep : {E : Evolution} {go : Tree → Act} → ((t : Tree) → Keeps E (go t)) → (ts : Trees)
    → Keeps E (statements go ts)
statements_keep g ts = last_keeps g _ ts

pub values_keep : {E : Evolution} {go : Tree → Act} → ((t : Tree) → Keeps E (go t))
    → (ts : Trees) {k : List Value → Act} → ((vs : List Value) → Keeps E (k vs)) → Keeps E (values_of go ts k)
values_keep g no_trees b = b []
values_keep g (tree_then t ts) b = on_keeps (g t) (λ v. values_keep g ts (λ vs. b (v ∷ vs)))

-- ---- all of them

pub ruleset keeping = (
  ends_keeps,
  gives_keeps,
  then_keeps,
  on_keeps,
  both_keep,
  if_keeps,
  read_keeps,
  in_world_keeps,
  reading_keeps,
  in_module_keeps,
  in_object_keeps,
  in_frame_keeps,
  module_keeps,
  object_keeps,
  frame_keeps,
  writes_keeps,
  framed_keeps,
  paid_keeps,
  last_keeps,
  statements_keep,
  values_keep,
)
