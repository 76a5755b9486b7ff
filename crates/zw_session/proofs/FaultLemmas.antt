-- Faults in the world of a session, and what is frozen there.
use Rattle.std.proofs.Common.{◌≡◌, Bool, true, false, ℕ, ◌<◌, List, [], ◌++◌, cond, length, slice_get, Option, Some, None, Err, refl, ap, sym, subst, ◌∙◌}
use Rattle.std.specs.Option.{option_map}
use Rattle.zw_calls.specs.Fault.{AreSame}
use Rattle.zw_def.specs.Text.{Text}
use Rattle.zw_def_world.specs.Act.{Act, Point}
use Rattle.zw_def_world.specs.Fault.{frozen_fault, unless_frozen}
use Rattle.zw_def_world.specs.Record as told
use Rattle.zw_def_world.specs.World.{World, is_frozen}
use Rattle.zw_heap.specs.Heap.{is_frozen_in}
use Rattle.zw_heap.specs.ModuleRecord.{Module}
use Rattle.zw_heap.specs.ObjectRecord.{Object}
use Rattle.zw_heap.specs.Telling.{Telling, Agrees, tell}
use Rattle.zw_heap.specs.declared.value.ModuleId.{ModuleId}
use Rattle.zw_heap.specs.declared.value.ObjRef.{ObjRef}
use Rattle.zw_heap.specs.declared.value.Value.{Value}
use Rattle.zw_heap.specs.declared.value.Value.TheVariants as v
use Rattle.zw_session.specs.Sense.{Sense, Stands, told_module, world_of}
use Rattle.zw_base.specs.declared.fault.Fault.{Fault}
use Rattle.zw_base.specs.declared.fault.Fault.TheVariants.{Refused, Memory}
use Rattle.zw_fault.specs.declared.raise.Raise.{Raise}
use Rattle.zw_session.specs.Step.{IsFault, Step, Steps}
use Rattle.zw_session.specs.Stores.{Stores}
use Rattle.zw_session.proofs.ActLemmas.{module-found, object-found, reading-found, stays-here}
use Rattle.zw_session.proofs.WorldLemmas.{Fits-front, agrees}

-- what is the same in each world that agrees with the heap, is so in the session's
pub same-step : (s : Stores) (act other : Telling → Act) → AreSame s.heap s.names act other → Step s s (λ J. act J.telling) (λ J. other J.telling)
same-step s act other same = λ J p stands here.
    same J.telling p (Fits-front J.telling s.heap s.names stands.begins.0 J.names stands.begins.1 stands.fits) (subst (Agrees J.telling s.heap) (sym here) (agrees J s))
    ∙ ap (other J.telling) (sym (stays-here J s p here))

module _ (J : Sense) (s : Stores) where
  pub frozen-told : (x : Value) (b : Bool) → is_frozen_in s.heap x ≡ Some b → is_frozen (world_of J s) (tell J.telling x) ≡ Some b
  frozen-told v.Nil b is = is
  frozen-told v.True b is = is
  frozen-told v.False b is = is
  frozen-told (v.Int z) b is = is
  frozen-told (v.Text t) b is = is
  frozen-told (v.Sym n) b is = is
  frozen-told (v.Array a) b is = is
  frozen-told (v.Object o) b is = at (slice_get s.heap.objects o.0) refl is
    where
      at : (r : Option Object) → slice_get s.heap.objects o.0 ≡ r → option_map (λ (y : Object). y.is_frozen) r ≡ Some b → is_frozen (world_of J s) (tell J.telling (v.Object o)) ≡ Some b
      at None none found = absurd (cc)
      at (Some y) there found = ap (option_map (λ (y : told.Object). y.is_frozen)) (object-found J s o.0 y there) ∙ found
  frozen-told (v.Module m) b is = at (slice_get s.heap.modules m.0) refl is
    where
      at : (r : Option Module) → slice_get s.heap.modules m.0 ≡ r → option_map (λ (y : Module). y.is_frozen) r ≡ Some b → is_frozen (world_of J s) (tell J.telling (v.Module m)) ≡ Some b
      at None none found = absurd (cc)
      at (Some y) there found = ap (option_map (λ (y : told.Module). y.is_frozen)) (module-found J s m.0 y there) ∙ found

  module _ (p : Point) (here : p.world ≡ world_of J s) (x : Value) (act : Act) where
    pub unless-frozen : is_frozen_in s.heap x ≡ Some true → unless_frozen (tell J.telling x) act p ≡ frozen_fault (tell J.telling x) (record p { world = world_of J s })
    unless-frozen is = reading-found J s p here (λ w. is_frozen w (tell J.telling x)) true (λ frozen. cond frozen (frozen_fault (tell J.telling x)) act) (frozen-told x true is)

    pub unless-free : is_frozen_in s.heap x ≡ Some false → unless_frozen (tell J.telling x) act p ≡ act (record p { world = world_of J s })
    unless-free is = reading-found J s p here (λ w. is_frozen w (tell J.telling x)) false (λ frozen. cond frozen (frozen_fault (tell J.telling x)) act) (frozen-told x false is)

-- what is frozen refuses the change, and stands for the same world
pub frozen-refused : {X : Type 0} (s t : Stores) (x : Value) (act : Sense → Act) (later : X → Sense → Act) (fault : Fault Raise) → ((J : Sense) → world_of J t ≡ world_of J s) → is_frozen_in s.heap x ≡ Some true
    → IsFault t (λ J. frozen_fault (tell J.telling x)) fault → Steps s t (λ J. unless_frozen (tell J.telling x) (act J)) later (Err fault)
frozen-refused s t x act later (Refused raise) same is raises = λ J p stands here.
    unless-frozen J s p here x (act J) is
    ∙ ap (λ w. frozen_fault (tell J.telling x) (record p { world = w })) (sym (same J))
    ∙ raises J (record p { world = world_of J t }) stands refl
frozen-refused s t x act later Memory same is raises = tt
