-- Classes and modules in the world of a session: what a statement opens, and what it makes.
use Rattle.std.proofs.Common.{◌≡◌, Bool, true, false, ℕ, zero, suc, ◌+◌, ◌<◌, ◌≤◌, List, [], ◌∷◌, ◌++◌, cond, length, map, slice_get, Option, Some, None, Result, Ok, Err, refl, ap, sym, subst, ◌∙◌, arith}
use Rattle.std.specs.Option.{option_map}
use Rattle.std.proofs.lemmas.List.{length-append}
use Rattle.std.proofs.lemmas.Option.{slice_get_within}
use Rattle.zw_base.specs.declared.fault.Fault.{Fault}
use Rattle.zw_base.specs.declared.fault.Fault.TheVariants.{Refused, Memory}
use Rattle.zw_consts.specs.Table.{Table, tables_of, with_value}
use Rattle.zw_def.specs.ConstantPath.{ConstantPath}
use Rattle.zw_def.specs.Map.{Key}
use Rattle.zw_def.specs.Text.{Text}
use Rattle.zw_def_world.specs.Act.{Act, End, Point, ◌>>◌, changing, continued, ends, gives, go_on, in_module, in_world}
use Rattle.zw_def_world.specs.CoreClass.{Object_class, core_count}
use Rattle.zw_def_world.specs.Definition.{home_at, makes_at_home, makes_opened, opens_home}
use Rattle.zw_def_world.specs.Id.{Id, with_record}
use Rattle.zw_def_world.specs.Load.{makes_module}
use Rattle.zw_def_world.specs.Record as told
use Rattle.zw_def_world.specs.Value as told_value
use Rattle.zw_def_world.specs.World.{World, at_module, counted, fresh, key_of, with_module}
use Rattle.zw_fault.specs.declared.raise.Raise.{Raise}
use Rattle.zw_heap.specs.Founded.{is_class}
use Rattle.zw_heap.specs.Heap as heap
use Rattle.zw_heap.specs.Heap.{made_here}
use Rattle.zw_heap.specs.ModuleRecord.{Module, new_module}
use Rattle.zw_heap.specs.Place.{Place}
use Rattle.zw_heap.specs.Telling.{told_superclass}
use Rattle.zw_heap.specs.declared.value.ModuleId.{ModuleId}
use Rattle.zw_heap.specs.declared.value.ModuleKind.{ModuleKind}
use Rattle.zw_heap.specs.declared.value.ModuleKind.TheVariants as k
use Rattle.zw_heap.specs.declared.value.Value.{Value}
use Rattle.zw_heap.specs.declared.value.Value.TheVariants as v
use Rattle.zw_names.specs.declared.names.Name.{Name}
use Rattle.zw_calls.specs.Fault.{fault_seen}
use Rattle.zw_heap.specs.Telling.{tell}
use Rattle.zw_ops.specs.Open.{Opens, makes, open_seen, opens as told_opens}
use Rattle.zw_ops.specs.declared.open.OpenAct.{OpenAct}
use Rattle.zw_session.specs.Acts.{IsPlaced, makes_module_of, open_chosen, opens_found, placed_kind}
use Rattle.zw_session.specs.Sense.{Sense, Stands, told_module, world_of}
use Rattle.zw_session.specs.Sound.{IsSound}
use Rattle.zw_session.specs.Step.{Step, Steps}
use Rattle.zw_session.specs.Stores.{Stores}
use Rattle.zw_session.proofs.ActLemmas.{changes, in_module-found, keyless}
use Rattle.zw_session.proofs.ConstantLemmas.{Sound-constant, Sound-same, constant-told, there-is}
use Rattle.zw_session.proofs.FaultLemmas.{same-step}
use Rattle.zw_session.proofs.ListLemmas.{front-same}
use Rattle.zw_heap.specs.Heap.{Held}
use Rattle.zw_heap.specs.Place.{at_boot}
use Rattle.zw_heap.specs.Sound as heap_sound
use Rattle.zw_heap.specs.Sound.{Stays, modules_made}
use Rattle.zw_heap.specs.Telling.{Fits, OnlyAdds}
use Rattle.std.proofs.lemmas.List.{length-map}
use Rattle.zw_session.proofs.SoundLemmas.{Sound-heap, outside-counted}
use Rattle.zw_session.proofs.MadeLemmas.{made_module, module-made, module-name}

-- ---- what is opened

pub open-told : (s : Stores) (kind : ModuleKind) (x : Name) (found : Option Value) (r : Result OpenAct (Fault Raise)) → Opens s.heap s.names kind x.0 found r
    → (i : Id) (go_on : Id → Act) → Steps s s (opens_found kind i x go_on found) (open_chosen kind i x go_on) r
open-told s kind x found (Ok act) opens i go_on = same-step s (λ I. told_opens kind I i (I.name x.0) go_on (option_map (tell I) found)) (λ I. open_seen kind I i (I.name x.0) go_on act) (opens i go_on)
open-told s kind x found (Err (Refused raise)) opens i go_on = same-step s (λ I. told_opens kind I i (I.name x.0) go_on (option_map (tell I) found)) (λ I. fault_seen raise) (opens i go_on)
open-told s kind x found (Err Memory) opens i go_on = tt

-- ---- what is made

map-pushed : (f : ℕ → Text) (x : ℕ) (ns : List ℕ) → map f (ns ++ x ∷ []) ≡ map f ns ++ f x ∷ []
map-pushed f x [] = refl
map-pushed f x (n ∷ ns) = ap (λ ts. f n ∷ ts) (map-pushed f x ns)

-- the statement makes a module of the kind that is placed
makes-placed : (J : Sense) (object : ModuleId) → J.telling.module_id object.0 ≡ Object_class → (kind : ModuleKind) (i : Id) (n : Text) (go_on : Id → Act)
    → makes kind J.telling i n go_on ≡ makes_opened (is_class (placed_kind object kind)) (told_superclass J.telling (placed_kind object kind)) i n go_on
makes-placed J object top k.Module i n go_on = refl
makes-placed J object top (k.Class None) i n go_on = ap (λ above. makes_opened true (Some above) i n go_on) (sym top)
makes-placed J object top (k.Class (Some above)) i n go_on = refl

module _ (J : Sense) (s : Stores) (sound : IsSound s) (setup : option_map (λ (p : Place). p.setup) (slice_get s.heap.places s.heap.here) ≡ Some s.heap.setups) (core : core_count ≤ length s.heap.modules)
    (i : ModuleId) (m : Module) (there : slice_get s.heap.modules i.0 ≡ Some m) (x : ℕ) (kind : ModuleKind) (made : ModuleId) (number : made.0 ≡ length s.heap.modules) where
  abbrev made_in : Stores
  made_in = record s { heap = heap.with_module (m.path ++ x ∷ []) kind s.heap }

  abbrev made_so : List (Table Value) → Stores
  made_so cs = record made_in { constants = cs }

  -- where the module stood, it stands
  still-there : slice_get (made_in).heap.modules i.0 ≡ Some m
  still-there = front-same s.heap.modules (new_module (made_here s.heap) (m.path ++ x ∷ []) kind ∷ []) i.0 (slice_get_within s.heap.modules i.0 m there) ∙ there

  module _ (stands : Stands J made_in) (cs : List (Table Value)) (set : tables_of cs ≡ with_value i.0 x (v.Module made) (tables_of s.constants)) (p : Point) (here : p.world ≡ world_of J s) (go_on_with : Id → Act) where
    abbrev record_made : told.Module
    record_made = told.new_module (is_class kind) (map J.telling.name m.path ++ J.telling.name x ∷ []) (told_superclass J.telling kind) None

    name-is : fresh (world_of J s) ≡ J.telling.module_id made.0
    name-is = sym (module-name J s sound setup (m.path ++ x ∷ []) kind stands) ∙ ap J.telling.module_id (sym number)

    world-is : world_of J (made_so cs) ≡ with_module (J.telling.module_id i.0) (J.telling.name x) record_made (world_of J s)
    world-is =
        constant-told made_in cs i.0 x (v.Module made) set J m still-there
        ∙ (λ j. at_module (J.telling.module_id i.0) (told.with_constant (J.telling.name x) (told_value.module_at (sym name-is j)))
        ((module-made J s sound setup (m.path ++ x ∷ []) kind stands core ∙ ap (λ path. record (counted (world_of J s)) { modules = with_record (fresh (world_of J s)) (told.new_module (is_class kind) path (told_superclass J.telling kind) None) (world_of J s).modules }) (map-pushed J.telling.name x m.path)) j))

    pub module-opened : makes_opened (is_class kind) (told_superclass J.telling kind) (J.telling.module_id i.0) (J.telling.name x) go_on_with p ≡ go_on_with (J.telling.module_id made.0) (record p { world = world_of J (made_so cs) })
    module-opened =
        in_module-found J s p here i.0 m (λ y. in_world (λ w. home_at w (key_of w y.home (J.telling.name x))) (makes_at_home (is_class kind) (told_superclass J.telling kind) (J.telling.module_id i.0) (J.telling.name x) go_on_with y)) there
        ∙ ap (λ w. makes_at_home (is_class kind) (told_superclass J.telling kind) (J.telling.module_id i.0) (J.telling.name x) go_on_with (told_module J s i.0 m) (home_at w (key_of w (J.home i.0) (J.telling.name x))) p) here
        ∙ ap (λ o. makes_at_home (is_class kind) (told_superclass J.telling kind) (J.telling.module_id i.0) (J.telling.name x) go_on_with (told_module J s i.0 m) (home_at (world_of J s) o) p) (keyless J s (J.home i.0) (J.telling.name x))
        ∙ in_module-found J s p here i.0 m (λ y. in_world fresh (λ j. changing (with_module (J.telling.module_id i.0) (J.telling.name x) record_made) told_value.nil >> (opens_home None >> go_on_with j))) there
        ∙ ap (λ w. (changing (with_module (J.telling.module_id i.0) (J.telling.name x) record_made) told_value.nil >> (opens_home None >> go_on_with (fresh w))) p) here
        ∙ ap (λ j. (changing (with_module (J.telling.module_id i.0) (J.telling.name x) record_made) told_value.nil >> (opens_home None >> go_on_with j)) p) name-is
        ∙ ap (continued (go_on (λ u. opens_home None >> go_on_with (J.telling.module_id made.0)))) (changes J s p here (made_so cs) (with_module (J.telling.module_id i.0) (J.telling.name x) record_made) told_value.nil world-is)

-- ---- in the session's stores

module _ (s : Stores) (sound : IsSound s) (whole : heap_sound.IsSound s.heap) (i : ModuleId) (within : i.0 < length s.heap.modules) (x : ℕ) (path : List ℕ) (is_path : option_map (λ (m : Module). m.path) (slice_get s.heap.modules i.0) ≡ Some path)
    (kind placed : ModuleKind) (g : Held) (is : g ≡ heap.with_module (path ++ x ∷ []) placed s.heap) (stays : Stays s.heap g) (cs : List (Table Value)) where
  m : (y : Module) × (slice_get s.heap.modules i.0 ≡ Some y)
  m = there-is s.heap.modules i.0 within

  core : core_count ≤ length s.heap.modules
  core = let last = slice_get_within (modules_made s.heap) 29 (at_boot 29) (whole.made.core 29 (omega arith)) in let same = length-map s.heap.modules (λ (y : Module). y.made) in omega (arith, last, same)

  grown-sound : IsSound (record s { heap = g })
  grown-sound = Sound-heap s g sound (ap (λ (h : Held). h.names) is)
      (subst (λ (h : Held). option_map (λ (p : Place). p.load) (slice_get h.places h.here) ≡ Some None) (sym is) (outside-counted s.heap sound.outside)) stays
      (subst (λ (h : Held). length s.heap.modules ≤ length h.modules) (sym is) (let more = length-append s.heap.modules (new_module (made_here s.heap) (path ++ x ∷ []) placed ∷ []) in omega (arith, more)))

  pub made-unset : tables_of cs ≡ tables_of s.constants → IsSound (record s { heap = g; constants = cs })
  made-unset same = Sound-same (record s { heap = g }) cs grown-sound same

  module _ (made : ModuleId) (number : made.0 ≡ length s.heap.modules) (set : tables_of cs ≡ with_value i.0 x (v.Module made) (tables_of s.constants)) where
    more-modules : suc (length s.heap.modules) ≡ length g.modules
    more-modules = sym (ap (λ (h : Held). length h.modules) is ∙ (let more = length-append s.heap.modules (new_module (made_here s.heap) (path ++ x ∷ []) placed ∷ []) in omega (arith, more)))

    pub made-sound : x < length s.names → IsSound (record s { heap = g; constants = cs })
    made-sound named = Sound-constant (record s { heap = g }) cs i.0 x (v.Module made) set grown-sound (omega (arith, within, more-modules)) named (omega (arith, number, more-modules))

    pub made-told : IsPlaced kind placed → (core_told : (J : Sense) → Stands J s → J.telling.module_id 0 ≡ Object_class) → OnlyAdds s.heap g → (go_on : Id → Act)
        → Step s (record s { heap = g; constants = cs }) (λ J. makes kind J.telling (J.telling.module_id i.0) (J.telling.name x) go_on) (λ J. go_on (J.telling.module_id made.0))
    made-told is_placed core_told adds go_on_with = λ J p stands here.
        let before : Stands J s = record { fits = adds J.telling J.names stands.fits; begins = stands.begins; codes_told = stands.codes_told } in
        let top : J.telling.module_id (is_placed.0).0 ≡ Object_class = ap J.telling.module_id is_placed.1 ∙ core_told J before in
        let found : Some m.0.path ≡ Some path = ap (option_map (λ (y : Module). y.path)) (sym m.1) ∙ is_path in
        let in_place : m.0.path ≡ path = cc in
        let heap_is : g ≡ heap.with_module (m.0.path ++ x ∷ []) placed s.heap = is ∙ ap (λ ns. heap.with_module (ns ++ x ∷ []) placed s.heap) (sym in_place) in
        let now : Stands J (record s { heap = heap.with_module (m.0.path ++ x ∷ []) placed s.heap }) = record { fits = subst (Fits J.telling J.names) heap_is stands.fits; begins = stands.begins; codes_told = stands.codes_told } in
        ap (λ (act : Act). act p) (makes-placed J is_placed.0 top kind (J.telling.module_id i.0) (J.telling.name x) go_on_with)
        ∙ ap (λ q. makes_opened (is_class q) (told_superclass J.telling q) (J.telling.module_id i.0) (J.telling.name x) go_on_with p) (sym is_placed.2)
        ∙ module-opened J s sound whole.made.here_now core i m.0 m.1 x placed made number now cs set p here go_on_with
        ∙ ap (λ (h : Held). go_on_with (J.telling.module_id made.0) (record p { world = world_of J (record s { heap = h; constants = cs }) })) (sym heap_is)
