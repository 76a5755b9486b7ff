-- Acts in the world of a session: records are found, no key is, and what changes the world leads to the next one.
use Rattle.std.proofs.Common.{◌≡◌, Bool, true, false, ℕ, ◌<◌, List, [], cond, length, slice_get, Option, Some, None, refl, ap, sym, ◌∙◌}
use Rattle.std.specs.Option.{option_and_then, option_map, option_or}
use Rattle.std.proofs.lemmas.Option.{slice_get_within}
use Rattle.zw_def.specs.ConstantPath.{ConstantPath}
use Rattle.zw_def.specs.Map.{Key, key_at}
use Rattle.zw_def.specs.Nesting.{child}
use Rattle.zw_def.specs.Text.{Text}
use Rattle.zw_def_world.specs.Act.{Act, End, Point, changing, ends, gives, in_module, in_object, read, reading}
use Rattle.zw_def_world.specs.Meeting.{file_in_progress, meeting_at, meeting_with, with_meeting}
use Rattle.zw_def_world.specs.Record as told
use Rattle.zw_def_world.specs.Value as told_value
use Rattle.zw_def_world.specs.World.{Meeting, World, key_of}
use Rattle.zw_heap.specs.ModuleRecord.{Module}
use Rattle.zw_heap.specs.ObjectRecord.{Object}
use Rattle.zw_heap.specs.Telling.{told_object}
use Rattle.zw_told.proofs.RecordLemmas.{record-told}
use Rattle.zw_session.specs.Sense.{Sense, module_at, object_at, told_module, world_of}
use Rattle.zw_session.specs.Stores.{Stores}

module _ (J : Sense) (s : Stores) where
  pub module-found : (n : ℕ) (m : Module) → slice_get s.heap.modules n ≡ Some m → (world_of J s).modules (J.telling.module_id n) ≡ Some (told_module J s n m)
  module-found n m at =
      record-told J.telling.module_id J.telling.modules_differ (length s.heap.modules) n (module_at J s) (slice_get_within s.heap.modules n m at) ∙ ap (option_map (told_module J s n)) at

  pub object-found : (n : ℕ) (o : Object) → slice_get s.heap.objects n ≡ Some o → (world_of J s).objects (J.telling.object_id n) ≡ Some (told_object J.telling o)
  object-found n o at =
      record-told J.telling.object_id J.telling.objects_differ (length s.heap.objects) n (object_at J s) (slice_get_within s.heap.objects n o at) ∙ ap (option_map (told_object J.telling)) at

  -- no key is in the map
  pub keyless : (home : Option ConstantPath) (n : Text) → key_of (world_of J s) home n ≡ None
  keyless None n = refl
  keyless (Some p) n = ap (λ (keys : List Key). key_at keys (child p n)) J.keyless

  pub no-meeting : (home : Option ConstantPath) (n : Text) → with_meeting home n (world_of J s) ≡ world_of J s
  no-meeting home n = λ i. record (world_of J s) { meeting = same i }
    where
      or-none : (o : Option Meeting) → option_or o None ≡ o
      or-none None = refl
      or-none (Some m) = refl

      none : meeting_at (world_of J s) home n ≡ None
      none = ap (λ o. option_and_then (meeting_with (world_of J s)) (option_and_then (file_in_progress (world_of J s)) o)) (keyless home n)

      same : option_or J.rest.meeting (meeting_at (world_of J s) home n) ≡ J.rest.meeting
      same = ap (option_or J.rest.meeting) none ∙ or-none J.rest.meeting

  module _ (p : Point) (here : p.world ≡ world_of J s) where
    pub in_module-found : (n : ℕ) (m : Module) (k : told.Module → Act) → slice_get s.heap.modules n ≡ Some m → in_module (J.telling.module_id n) k p ≡ k (told_module J s n m) p
    in_module-found n m k at = ap (λ (w : World). read (w.modules (J.telling.module_id n)) k p) here ∙ ap (λ o. read o k p) (module-found n m at)

    pub in_object-found : (n : ℕ) (o : Object) (k : told.Object → Act) → slice_get s.heap.objects n ≡ Some o → in_object (J.telling.object_id n) k p ≡ k (told_object J.telling o) p
    in_object-found n o k at = ap (λ (w : World). read (w.objects (J.telling.object_id n)) k p) here ∙ ap (λ o. read o k p) (object-found n o at)

    -- what the world tells
    pub reading-found : {A : Type 0} (f : World → Option A) (x : A) (k : A → Act) → f (world_of J s) ≡ Some x → reading f k p ≡ k x (record p { world = world_of J s })
    reading-found f x k found = λ i. read ((ap f here ∙ found) i) k (record p { world = here i })

    -- a point is where it is
    pub stays-here : record p { world = world_of J s } ≡ p
    stays-here = λ i. record p { world = sym here i }

    pub changes : (t : Stores) (g : World → World) (v : told_value.Value) → world_of J t ≡ g (world_of J s) → changing g v p ≡ gives v (record p { world = world_of J t })
    changes t g v later = λ i. gives v (record p { world = (ap g here ∙ sym later) i })
