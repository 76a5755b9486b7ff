-- Acts: from where an evaluation stands to how it ends and where it stands then.
use Rattle.std.specs.Prelude.{ℕ, ◌-◌, List, [], ◌∷◌, ◌++◌, codes, nat_lt, Option, Some, None, if◌then◌else◌}
use Rattle.zw_def.specs.Text.{Text}
use Rattle.zw_def_syntax.specs.Tree.{Tree, Trees, no_trees, tree_then}
use Rattle.zw_def_world.specs.Id.{Id}
use Rattle.zw_def_world.specs.Value.{Value, nil}
use Rattle.zw_def_world.specs.Record.{Module, Object}
use Rattle.zw_def_world.specs.World.{World, at_module, at_object}
use Rattle.zw_def_world.specs.Frame.{Frame}

-- the world, the frame, the steps left and the lines so far
pub record Point : Type 0 where
  pub world : World
  pub frame : Frame
  pub left : ℕ
  pub out : Text

-- A value, or another end: an exception, leaving a loop, a turn or a method, no step left, or too deep. `lost` is the
-- end where a record is missing, and where what bounds the definition is used up; no session comes to it.
pub data Flow : Type 0 where
  gave : Value → Flow
  raised : Id → Flow
  broken : Flow
  skipped : Flow
  returned : Value → Flow
  out_of_steps : Flow
  too_deep : Flow
  lost : Flow

pub record End : Type 0 where
  pub flow : Flow
  pub at : Point

abbrev pub Act : Type 0
Act = Point → End

-- ---- acts in a row

abbrev pub ends : Flow → Act
ends f p = record { flow = f; at = p }

abbrev pub gives : Value → Act
gives v = ends (gave v)

abbrev pub continued : (Flow → Act) → End → End
continued k e = k e.flow e.at

-- goes on after any end
infixl 10 ◌>>>◌
abbrev pub ◌>>>◌ : Act → (Flow → Act) → Act
m >>> k = λ p. continued k (m p)

-- goes on with a value; each other end stays
abbrev pub go_on : (Value → Act) → Flow → Act
go_on k (gave v) = k v
go_on k f = ends f

infixl 10 ◌>>=◌
abbrev pub ◌>>=◌ : Act → (Value → Act) → Act
m >>= k = m >>> go_on k

infixl 10 ◌>>◌
abbrev pub ◌>>◌ : Act → Act → Act
m >> n = m >>= (λ v. n)

-- ---- what is read

-- what is not there is an end of its own
abbrev pub read : {A : Type 0} → Option A → (A → Act) → Act
read None k = ends lost
read (Some x) k = k x

-- goes on with what is in the world, where nothing can be missing
abbrev pub in_world : {A : Type 0} → (World → A) → (A → Act) → Act
in_world f k p = k (f p.world) p

-- goes on with what is found in the world
abbrev pub reading : {A : Type 0} → (World → Option A) → (A → Act) → Act
reading f k p = read (f p.world) k p

abbrev pub in_module : Id → (Module → Act) → Act
in_module i k p = read (p.world.modules i) k p

abbrev pub in_object : Id → (Object → Act) → Act
in_object i k p = read (p.world.objects i) k p

abbrev pub in_frame : {A : Type 0} → (Frame → A) → (A → Act) → Act
in_frame f k p = k (f p.frame) p

-- ---- what is changed

-- changes the world, or the frame, and gives the value
abbrev pub changing : (World → World) → Value → Act
changing g v p = gives v (record p { world = g p.world })

abbrev pub changing_frame : (Frame → Frame) → Value → Act
changing_frame g v p = gives v (record p { frame = g p.frame })

-- changes a record that is there
abbrev pub changing_module : Id → (Module → Module) → Value → Act
changing_module i g v = in_module i (λ m. changing (at_module i g) v)

abbrev pub changing_object : Id → (Object → Object) → Value → Act
changing_object i g v = in_object i (λ o. changing (at_object i g) v)

abbrev pub writes : Text → Act
writes line p = gives nil (record p { out = p.out ++ line ++ codes "\n" })

-- the act in a frame of its own; then the frame is as before
abbrev pub back_in : Frame → End → End
back_in f e = record { flow = e.flow; at = record e.at { frame = f } }

abbrev pub framed : Frame → Act → Act
framed f act p = back_in p.frame (act (record p { frame = f }))

-- ---- steps

abbrev pub spending : ℕ → Act → Act
spending n act p = act (record p { left = p.left - n })

-- a cost: with fewer steps left they stay, and that is the end
abbrev pub paid : ℕ → Act → Act
paid n act p = (if nat_lt p.left n then ends out_of_steps else spending n act) p

-- ---- lists of statements

-- the last value, or v where there is none
abbrev pub last_of : (Tree → Act) → Value → Trees → Act
last_of go v no_trees = gives v
last_of go v (tree_then t ts) = go t >>= (λ u. last_of go u ts)

abbrev pub statements : (Tree → Act) → Trees → Act
statements go ts = last_of go nil ts

-- the values, from left to right
abbrev pub values_of : (Tree → Act) → Trees → (List Value → Act) → Act
values_of go no_trees k = k []
values_of go (tree_then t ts) k = go t >>= (λ v. values_of go ts (λ vs. k (v ∷ vs)))
