-- What a session keeps so that each primitive method that is chosen has a receiver of its kind.
use Rattle.std.specs.Prelude.{◌≡◌, ℕ, ◌<◌, Bool, true, false, List, map, Option, Some}
use Rattle.std.specs.List.{All, slice_get}
use Rattle.std.specs.Option.{option_map}
use Rattle.zw_calls.specs.PrimSeen.{prim_seen}
use Rattle.zw_calls.specs.declared.class_row.ClassRow.TheVariants.{New}
use Rattle.zw_calls.specs.declared.prim_id.PrimId.{PrimId}
use Rattle.zw_calls.specs.declared.prim_id.PrimId.TheVariants.{Class}
use Rattle.zw_consts.specs.Ancestor.{is_among}
use Rattle.zw_consts.specs.Table.{Table}
use Rattle.zw_def.specs.Text.{Text}
use Rattle.zw_def_world.specs.CoreClass.{core_count}
use Rattle.zw_heap.specs.CoreClass.{Core, core_records, kind_seen}
use Rattle.zw_heap.specs.Founded.{is_class_at}
use Rattle.zw_heap.specs.Heap.{Held, sizes_of}
use Rattle.zw_heap.specs.ModuleRecord.{Module}
use Rattle.zw_heap.specs.ObjectRecord.{Object}
use Rattle.zw_heap.specs.Reach.{IsIncluded, Reaches}
use Rattle.zw_heap.specs.Sound.{IsIn}
use Rattle.zw_heap.specs.declared.value.ModuleId.{ModuleId}
use Rattle.zw_heap.specs.declared.value.Value.{Value}
use Rattle.zw_heap.specs.declared.value.Value.TheVariants as v
use Rattle.zw_methods.specs.Methods.{tables_in}
use Rattle.zw_methods.specs.declared.method.Method.{Method}
use Rattle.zw_methods.specs.declared.method.MethodBody.{MethodBody}
use Rattle.zw_methods.specs.declared.method.MethodBody.TheVariants as b
use Rattle.zw_ops.specs.Choice.{StandsIn, without_new}
use Rattle.zw_ops.specs.declared.choice.Chosen.{Chosen}
use Rattle.zw_prims.specs.Receives.{Receives}
use Rattle.zw_session.specs.Stores.{Stores}

-- ---- methods

-- a primitive method stands in the table of the instances of its own class, under its own name
abbrev pub BodyAtHome : List Text → Bool → ℕ → ℕ → MethodBody → Type 0
BodyAtHome names singleton n x (b.Code body) = Unit {0}
BodyAtHome names singleton n x (b.Reader y) = Unit {0}
BodyAtHome names singleton n x (b.Writer y) = Unit {0}
BodyAtHome names singleton n x (b.Prim prim) =
    (singleton ≡ false) × (n ≡ (prim_seen prim).owner.count) × (slice_get names x ≡ Some (prim_seen prim).name)

-- a program defines such methods
abbrev pub IsDefined : MethodBody → Type 0
IsDefined (b.Code body) = Unit {0}
IsDefined (b.Reader y) = Unit {0}
IsDefined (b.Writer y) = Unit {0}
IsDefined (b.Prim prim) = ⊥

abbrev pub IsAtHome : List Text → Bool → ℕ → ℕ × Method → Type 0
IsAtHome names singleton n e = BodyAtHome names singleton n e.0 e.1.body

abbrev pub AreAtHome : List Text → (Bool → ℕ → Table Method) → Type 0
AreAtHome names tables = (singleton : Bool) (n : ℕ) → All (IsAtHome names singleton n) (tables singleton n)

-- ---- classes and objects

-- it is no class without `new`, and is below none
abbrev pub IsMakeable : List Module → ℕ → Type 0
IsMakeable modules n = (k : ℕ) → is_among without_new k ≡ true → Reaches modules n k → ⊥

-- whether it is a class, its superclass, and what it includes, by their numbers
abbrev pub standing : Module → (Bool × Option ℕ) × List ℕ
standing m = (kind_seen m.kind, map (λ i. i.0) m.includes)

abbrev pub core_standing : Core → (Bool × Option ℕ) × List ℕ
core_standing c = (c.kind, c.includes)

pub record IsRegular (h : Held) : Type 0 where
  -- the core classes stand as they were made, and are frozen
  pub core_stands : (n : ℕ) → n < core_count
      → option_map standing (slice_get h.modules n) ≡ option_map core_standing (slice_get core_records n)
  pub core_frozen : (n : ℕ) → n < core_count → option_map (λ m. m.is_frozen) (slice_get h.modules n) ≡ Some true
  pub extensions_plain : (n m : ℕ) (x : Module) → slice_get h.modules n ≡ Some x → IsIncluded x.extensions m
      → is_class_at h.modules m false
  pub makeable : (n : ℕ) (x : Object) → slice_get h.objects n ≡ Some x → IsMakeable h.modules x.class.0

-- ---- a session

pub record IsDispatched (s : Stores) : Type 0 where
  pub prims_at_home : AreAtHome s.names (tables_in s.methods)
  pub regular : IsRegular s.heap

-- so the receiver of each primitive method that is chosen is of its kind
abbrev pub ReceivesChosen : Stores → Type 0
ReceivesChosen s =
    (x : Value) (c : Chosen) (prim : PrimId) → IsIn (sizes_of s.heap) x → StandsIn s.heap s.methods s.names x c
    → c.method.body ≡ b.Prim prim → Receives prim s.heap x

-- and that of `new` is a class of which an object may be made
abbrev pub MakesChosen : Stores → Type 0
MakesChosen s =
    (x : Value) (c : Chosen) → IsIn (sizes_of s.heap) x → StandsIn s.heap s.methods s.names x c
    → c.method.body ≡ b.Prim (Class New) → (m : ModuleId) × (x ≡ v.Module m) × IsMakeable s.heap.modules m.0
