-- Constants in the world of a session: the value that a module is asked for, and the one that is set.
use Rattle.std.proofs.Common.{◌≡◌, Bool, true, false, ℕ, ◌<◌, ◌≤◌, ◌==◌, List, [], ◌∷◌, ◌++◌, codes, cond, length, map, slice_get, nat_eq, zero, suc, IfSome, Option, Some, None, refl, ap, sym, ◌∙◌, subst, arith, ne_eqb}
use Rattle.std.specs.List.{All}
use Rattle.std.specs.Map.{lookup}
use Rattle.std.specs.Option.{option_map}
use Rattle.std.proofs.lemmas.Bool.{eqb-true, eq-eqb}
use Rattle.std.proofs.lemmas.List.Elements.{All-cons, All-head, All-nil, All-tail}
use Rattle.std.proofs.lemmas.Option.{slice_get_within}
use Rattle.indexmap.specs.IndexMap.{insert_entry}
use Rattle.zw_consts.specs.Ancestor.{numbers_of}
use Rattle.zw_consts.specs.Table.{Table, tables_of, value_at, with_value}
use Rattle.zw_def.specs.ConstantPath.{ConstantPath, constant_path_text}
use Rattle.zw_def.specs.Nesting.{child}
use Rattle.zw_def.specs.Text.{Text}
use Rattle.zw_def_syntax.specs.Tree.{Tree as Node}
use Rattle.zw_def_world.specs.Act.{Act, Point, ◌>>◌, changing, changing_module, continued, go_on, gives, in_world, writes}
use Rattle.zw_def_world.specs.Id.{Id}
use Rattle.zw_def_world.specs.Load.{asks, forgets, known, replaces, sets, sets_in, sought}
use Rattle.zw_def_world.specs.LookUp.{if_idle, loadable}
use Rattle.zw_def_world.specs.Meeting.{with_meeting}
use Rattle.zw_def_world.specs.Record as told
use Rattle.zw_def_world.specs.Table.{at}
use Rattle.zw_def_world.specs.Value as told_value
use Rattle.zw_heap.specs.ModuleRecord.{Module}
use Rattle.zw_heap.specs.Telling.{tell, told_ids}
use Rattle.zw_heap.specs.declared.value.ModuleId.{ModuleId}
use Rattle.zw_heap.specs.declared.value.Value.{Value}
use Rattle.zw_told.proofs.TableLemmas.{at-told, assigned-told}
use Rattle.zw_session.specs.Sense.{Sense, module_at, told_module, world_of}
use Rattle.zw_heap.specs.Heap.{sizes_of}
use Rattle.zw_heap.specs.Sound.{EntryIn, IsIn}
use Rattle.zw_heap.specs.declared.mark.Sizes.{Sizes}
use Rattle.zw_told.specs.Table.{told_table}
use Rattle.zw_def_world.specs.World.{World, at_module, key_of}
use Rattle.zw_session.specs.Sound.{IsSound}
use Rattle.zw_session.specs.Stores.{Stores}
use Rattle.zw_session.proofs.ActLemmas.{changes, in_module-found, keyless, no-meeting}
use Rattle.zw_session.proofs.WorldLemmas.{at_module-told}

-- names of modules, by their numbers
pub ids-told : (f : ℕ → Id) (ms : List ModuleId) → map f (numbers_of ms) ≡ map (λ (m : ModuleId). f m.0) ms
ids-told f [] = refl
ids-told f (m ∷ ms) = ap (λ is. f m.0 ∷ is) (ids-told f ms)

pub numbers-in : (count : ℕ) (ms : List ModuleId) → All (λ (m : ModuleId). m.0 < count) ms → All (λ n. n < count) (numbers_of ms)
numbers-in count [] all = All-nil (λ n. n < count)
numbers-in count (m ∷ ms) all = All-cons (λ n. n < count) m.0 (numbers_of ms) (All-head (λ (m : ModuleId). m.0 < count) m ms all) (numbers-in count ms (All-tail (λ (m : ModuleId). m.0 < count) m ms all))

module _ (J : Sense) (s : Stores) (p : Point) (here : p.world ≡ world_of J s) (n : ℕ) (m : Module) (there : slice_get s.heap.modules n ≡ Some m) where
  abbrev stood : Point
  stood = record p { world = world_of J s }

  -- ---- what is asked

  module _ (x : ℕ) (go : Node → Act) (k : Option told_value.Value → Act) where
    known-told : (found : Option Value) → known go (J.telling.module_id n) (J.telling.name x) k (told_module J s n m) (option_map (tell J.telling) found) stood ≡ k (option_map (tell J.telling) found) stood
    known-told None = ap (λ o. sought go (J.telling.module_id n) (J.telling.name x) k (if_idle (world_of J s) o) stood) (keyless J s (J.home n) (J.telling.name x))
    known-told (Some v) = refl

    pub constant-asked : (found : Option Value) → found ≡ value_at n x (tables_of s.constants) → asks go (J.telling.module_id n) (J.telling.name x) k p ≡ k (option_map (tell J.telling) found) stood
    constant-asked found is =
        in_module-found J s p here n m (λ (y : told.Module). told_value_then y) there
        ∙ ap (continued (go_on (λ u. after))) (changes J s p here s (with_meeting (J.home n) (J.telling.name x)) told_value.nil (sym (no-meeting J s (J.home n) (J.telling.name x))))
        ∙ ap (λ o. known go (J.telling.module_id n) (J.telling.name x) k (told_module J s n m) o stood) (at-told J.telling.name J.telling.names_differ (tell J.telling) x (tables_of s.constants n) ∙ ap (option_map (tell J.telling)) (sym is))
        ∙ known-told found
      where
        after : Act
        after = known go (J.telling.module_id n) (J.telling.name x) k (told_module J s n m) (at (J.telling.name x) (told_module J s n m).constants)

        told_value_then : told.Module → Act
        told_value_then y = changing (with_meeting y.home (J.telling.name x)) told_value.nil >> known go (J.telling.module_id n) (J.telling.name x) k y (at (J.telling.name x) y.constants)

-- ---- what is in a table

pub there-is : {X : Type 0} (xs : List X) (n : ℕ) → n < length xs → (x : X) × (slice_get xs n ≡ Some x)
there-is [] n lt = absurd (omega (arith, lt))
there-is (x ∷ xs) zero lt = (x, refl)
there-is (x ∷ xs) (suc n) lt = there-is xs n (omega (arith, lt))

module _ (size : Sizes) where
  pub found-in : (x : ℕ) (es : List (ℕ × Value)) → All (EntryIn size) es → IfSome (lookup (nat_eq x) es) (IsIn size)
  found-in x [] all = tt
  found-in x (e ∷ es) all = by (nat_eq x e.0) (found-in x es (All-tail (EntryIn size) e es all))
    where
      by : (b : Bool) → IfSome (lookup (nat_eq x) es) (IsIn size) → IfSome (cond b (Some e.1) (lookup (nat_eq x) es)) (IsIn size)
      by true later = (All-head (EntryIn size) e es all).1
      by false later = later

  pub in-inserted : (x : ℕ) (to : Value) → x < size.names → IsIn size to → (es : List (ℕ × Value)) → All (EntryIn size) es → All (EntryIn size) (insert_entry nat_eq es x to)
  in-inserted x to named known [] all = All-cons (EntryIn size) (x, to) [] (named, known) (All-nil (EntryIn size))
  in-inserted x to named known (e ∷ es) all = by (nat_eq x e.0) (in-inserted x to named known es (All-tail (EntryIn size) e es all))
    where
      by : (b : Bool) → All (EntryIn size) (insert_entry nat_eq es x to) → All (EntryIn size) (cond b ((e.0, to) ∷ es) (e ∷ insert_entry nat_eq es x to))
      by true more = All-cons (EntryIn size) (e.0, to) es ((All-head (EntryIn size) e es all).0, known) (All-tail (EntryIn size) e es all)
      by false more = All-cons (EntryIn size) e (insert_entry nat_eq es x to) (All-head (EntryIn size) e es all) more

pub constant-in : (s : Stores) (sound : IsSound s) (n x : ℕ) (found : Option Value) → found ≡ value_at n x (tables_of s.constants) → IfSome found (IsIn (sizes_of s.heap))
constant-in s sound n x found is = subst (λ o. IfSome o (IsIn (sizes_of s.heap))) (sym is) (found-in (sizes_of s.heap) x (tables_of s.constants n) (sound.constants_in n))

-- ---- what is set

pub Sound-same : (s : Stores) (cs : List (Table Value)) → IsSound s → tables_of cs ≡ tables_of s.constants → IsSound (record s { constants = cs })
Sound-same s cs sound same = record {
  named = sound.named;
  outside = sound.outside;
  constants_in = λ m. subst (All (EntryIn (sizes_of s.heap))) (sym (ap (λ f. f m) same)) (sound.constants_in m);
  constants_few = λ m past. ap (λ f. f m) same ∙ sound.constants_few m past;
  methods_in = sound.methods_in;
  methods_few = sound.methods_few;
  bodies_in = sound.bodies_in;
}

-- no log is written
pub unlogged : (J : Sense) (s : Stores) (path : ConstantPath) (n : Text) (found : Option told_value.Value) (p : Point) → p.world ≡ world_of J s → replaces path n found p ≡ gives told_value.nil p
unlogged J s path n None p here = refl
unlogged J s path n (Some v) p here =
    ap (λ (w : World). cond w.setting.logs (writes (codes ". " ++ codes "replaced " ++ constant_path_text (child path n))) (gives told_value.nil) p) here
    ∙ ap (λ b. cond b (writes (codes ". " ++ codes "replaced " ++ constant_path_text (child path n))) (gives told_value.nil) p) J.quiet

module _ (s : Stores) (cs : List (Table Value)) (n x : ℕ) (to : Value) (set : tables_of cs ≡ with_value n x to (tables_of s.constants)) where
  abbrev set_so : Stores
  set_so = record s { constants = cs }

  table-set : tables_of cs n ≡ insert_entry nat_eq (tables_of s.constants n) x to
  table-set = ap (λ f. f n) set ∙ ap (λ b. cond b (insert_entry nat_eq (tables_of s.constants n) x to) (tables_of s.constants n)) (eq-eqb n n refl)

  table-apart : (m : ℕ) → nat_eq m n ≡ false → tables_of cs m ≡ tables_of s.constants m
  table-apart m apart = ap (λ f. f m) set ∙ ap (λ b. cond b (insert_entry nat_eq (tables_of s.constants m) x to) (tables_of s.constants m)) apart

  pub Sound-constant : IsSound s → n < length s.heap.modules → x < length s.names → IsIn (sizes_of s.heap) to → IsSound set_so
  Sound-constant sound within name-in in-heap = record {
    named = sound.named;
    outside = sound.outside;
    constants_in = λ m. at m (nat_eq m n) refl;
    constants_few = λ m past. table-apart m (ne_eqb m n (λ same. omega (arith, same, past, within))) ∙ sound.constants_few m past;
    methods_in = sound.methods_in;
    methods_few = sound.methods_few;
    bodies_in = sound.bodies_in;
  }
    where
      at : (m : ℕ) (b : Bool) → nat_eq m n ≡ b → All (EntryIn (sizes_of s.heap)) (tables_of cs m)
      at m true is =
          subst (λ k. All (EntryIn (sizes_of s.heap)) (tables_of cs k)) (sym (eqb-true m n is))
          (subst (All (EntryIn (sizes_of s.heap))) (sym table-set) (in-inserted (sizes_of s.heap) x to (subst (λ k. x < k) (sym sound.named) name-in) in-heap (tables_of s.constants n) (sound.constants_in n)))
      at m false is = subst (All (EntryIn (sizes_of s.heap))) (sym (table-apart m is)) (sound.constants_in m)

  module _ (J : Sense) (m : Module) (there : slice_get s.heap.modules n ≡ Some m) where
    pub constant-told : world_of J set_so ≡ at_module (J.telling.module_id n) (told.with_constant (J.telling.name x) (tell J.telling to)) (world_of J s)
    constant-told = at_module-told J s s.heap.modules cs s.methods n (told.with_constant (J.telling.name x) (tell J.telling to)) (slice_get_within s.heap.modules n m there) refl
        (ap (option_map (told_module J set_so n)) there
        ∙ (λ i. Some (record (told_module J s n m) { constants = (ap (told_table J.telling.name (tell J.telling)) table-set ∙ sym (assigned-told J.telling.name J.telling.names_differ (tell J.telling) x to (tables_of s.constants n))) i }))
        ∙ sym (ap (λ o. option_map (told.with_constant (J.telling.name x) (tell J.telling to)) (option_map (told_module J s n) o)) there))
        (λ k apart. by k (slice_get s.heap.modules k) apart)
      where
        by : (k : ℕ) (o : Option Module) → nat_eq k n ≡ false → option_map (told_module J set_so k) o ≡ option_map (told_module J s k) o
        by k None apart = refl
        by k (Some y) apart = λ i. Some (record (told_module J s k y) { constants = told_table J.telling.name (tell J.telling) (table-apart k apart i) })

    pub constant-set : (p : Point) → p.world ≡ world_of J s → sets (J.telling.module_id n) (J.telling.name x) (tell J.telling to) p ≡ gives (tell J.telling to) (record p { world = world_of J set_so })
    constant-set p here =
        in_module-found J s p here n m (sets_in (J.telling.module_id n) (J.telling.name x) (tell J.telling to)) there
        ∙ ap (λ e. continued (go_on (λ u. changing_module i g v)) (continued (go_on (λ u. replaces path (J.telling.name x) (at (J.telling.name x) (told_module J s n m).constants))) e)) forgotten
        ∙ ap (continued (go_on (λ u. changing_module i g v))) (unlogged J s path (J.telling.name x) (at (J.telling.name x) (told_module J s n m).constants) p here)
        ∙ in_module-found J s p here n m (λ y. changing (at_module i g) v) there
        ∙ changes J s p here set_so (at_module i g) v constant-told
      where
        i : Id
        i = J.telling.module_id n

        v : told_value.Value
        v = tell J.telling to

        g : told.Module → told.Module
        g = told.with_constant (J.telling.name x) v

        path : ConstantPath
        path = (told_module J s n m).path

        forgotten : in_world (λ w. key_of w (J.home n) (J.telling.name x)) forgets p ≡ gives told_value.nil p
        forgotten = ap (λ w. forgets (key_of w (J.home n) (J.telling.name x)) p) here ∙ ap (λ o. forgets o p) (keyless J s (J.home n) (J.telling.name x))
