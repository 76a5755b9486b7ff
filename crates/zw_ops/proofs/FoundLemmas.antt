-- The first method in a line of numbers is told as the first in the line of each world that agrees with the stores.
use Rattle.std.proofs.Common.{◌≡◌, ◌&&◌, Bool, true, false, not, ℕ, ◌+◌, ◌<◌, ◌≤◌, List, [], ◌∷◌, ◌++◌, cond, drop, filter, get_or, length, map, take, nat_eq, Option, Some, None, refl, ap, sym, ◌∙◌, subst, append_assoc}
use Rattle.std.specs.List.{All}
use Rattle.std.specs.Map.{lookup}
use Rattle.std.specs.Option.{option_map}
use Rattle.std.proofs.Math.Seq.{get_or-append_seam, take-append_seam}
use Rattle.std.proofs.lemmas.List.{length-append, length-take-le, take-append-drop}
use Rattle.std.proofs.lemmas.List.Elements.{All-drop, All-head, All-tail}
use Rattle.zw_consts.specs.Table.{Table}
use Rattle.zw_def_world.specs.Call.{running_at}
use Rattle.zw_def_world.specs.CoreClass.{Class}
use Rattle.zw_def_world.specs.Missing.{bind}
use Rattle.zw_def_world.specs.MethodLine as told
use Rattle.zw_def_world.specs.Record as told_record
use Rattle.zw_def_world.specs.Table.{at}
use Rattle.zw_def_world.specs.World.{World}
use Rattle.zw_heap.specs.Heap.{Held}
use Rattle.zw_heap.specs.Telling.{Telling, Agrees}
use Rattle.zw_consts.proofs.ListLemmas.{record_at}
use Rattle.zw_methods.specs.Line.{place_seen, places_of, told_place}
use Rattle.zw_methods.specs.Methods.{method_at, found_or}
use Rattle.zw_methods.specs.Telling.{Codes, told_method, AgreesMethods}
use Rattle.zw_methods.specs.declared.method.Method.{Method}
use Rattle.zw_methods.specs.declared.method.ModuleLine.{ModuleLine}
use Rattle.zw_told.proofs.TableLemmas.{at-told}
use Rattle.zw_ops.specs.Choice.{FindsFrom, IsChosen, told_running}
use Rattle.zw_ops.specs.Line.{first_asked, is_of_classes, is_table}
use Rattle.zw_ops.specs.declared.choice.Chosen.{Chosen}
use Rattle.zw_ops.proofs.LineLemmas.{of_classes-told, equal-told}

-- the method stands at that place of the line
pub record Matches (I : Telling) (codes : Codes) (line : List ModuleLine) (f : told.Found) (k : ℕ) (m : Method) : Type 0 where
  pub earlier : List ModuleLine
  pub table : ModuleLine
  pub later : List ModuleLine
  pub split : line ≡ earlier ++ table ∷ later
  pub there : k ≡ length earlier
  pub method_told : f.method ≡ told_method I codes m
  pub place_told : f.place ≡ told_place I (place_seen table)
  pub before_told : f.before ≡ map (told_place I) (places_of earlier)

abbrev pub Match : Telling → Codes → List ModuleLine → Option told.Found → Option (ℕ × Method) → Type 0
Match I codes line None None = Unit {0}
Match I codes line (Some f) (Some found) = Matches I codes line f found.0 found.1
Match I codes line _ _ = ⊥

module _ (I : Telling) (codes : Codes) (w : World) (tables : Bool → ℕ → Table Method) (agrees : AgreesMethods I codes tables w) (count : ℕ) (module_at : (n : ℕ) → n < count → (m : told_record.Module) × (w.modules (I.module_id n) ≡ Some m)) (class : I.module_id Class.count ≡ Class) (passes : Bool) (x : ℕ) where
  abbrev pub Within : ModuleLine → Type 0
  Within p = p.«module».0 < count

  method_at-told : (p : ModuleLine) → p.«module».0 < count → told.method_at w (told_place I (place_seen p)) (I.name x) ≡ Some (option_map (told_method I codes) (method_at tables p x))
  method_at-told p lt = ap (option_map (λ m. at (I.name x) (told.table_at (told_place I (place_seen p)) m))) (module_at p.«module».0 lt).1 ∙ by p.singleton
    where
      by : (b : Bool) → Some (at (I.name x) (cond b (module_at p.«module».0 lt).0.singleton (module_at p.«module».0 lt).0.methods)) ≡ Some (option_map (told_method I codes) (lookup (nat_eq x) (tables b p.«module».0)))
      by true = ap (λ t. Some (at (I.name x) t)) (agrees.singleton p.«module».0 (module_at p.«module».0 lt).0 (module_at p.«module».0 lt).1) ∙ ap Some (at-told I.name I.names_differ (told_method I codes) x (tables true p.«module».0))
      by false = ap (λ t. Some (at (I.name x) t)) (agrees.methods p.«module».0 (module_at p.«module».0 lt).0 (module_at p.«module».0 lt).1) ∙ ap Some (at-told I.name I.names_differ (told_method I codes) x (tables false p.«module».0))

  asked-told : (p : ModuleLine) → told.is_asked passes (told_place I (place_seen p)) ≡ not (passes && is_of_classes (place_seen p))
  asked-told p = ap (λ b. cond passes (not b) true) (of_classes-told I (place_seen p) class) ∙ by passes
    where
      by : (b : Bool) → cond b (not (is_of_classes (place_seen p))) true ≡ not (b && is_of_classes (place_seen p))
      by true = refl
      by false = refl

  pushed : (before : List ModuleLine) (p : ModuleLine) → map (told_place I) (places_of before) ++ told_place I (place_seen p) ∷ [] ≡ map (told_place I) (places_of (before ++ p ∷ []))
  pushed [] p = refl
  pushed (b ∷ before) p = ap (λ l. told_place I (place_seen b) ∷ l) (pushed before p)

  abbrev pub FirstTold : List ModuleLine → List ModuleLine → Type 0
  FirstTold before line =
      (found : Option told.Found)
      × (told.first_method w (told.is_asked passes) (I.name x) (map (told_place I) (places_of before)) (map (told_place I) (places_of line)) ≡ Some found)
      × Match I codes (before ++ line) found (first_asked tables passes x (length before) line)

  abbrev pub behind : ModuleLine → List ModuleLine → List ModuleLine → Option (Option told.Found)
  behind p line before = told.first_method w (told.is_asked passes) (I.name x) (map (told_place I) (places_of before) ++ told_place I (place_seen p) ∷ []) (map (told_place I) (places_of line))

  abbrev pub asked : ModuleLine → List ModuleLine → List ModuleLine → Option (Option told_record.Method) → Option (Option told.Found)
  asked p line before table = bind table (told.found_or (told_place I (place_seen p)) (map (told_place I) (places_of before)) (λ u. behind p line before))

  module _ (p : ModuleLine) (line before : List ModuleLine) (lt : p.«module».0 < count) (later : FirstTold (before ++ p ∷ []) line) where
    later_told : behind p line before ≡ Some later.0
    later_told = ap (λ b. told.first_method w (told.is_asked passes) (I.name x) b (map (told_place I) (places_of line))) (pushed before p) ∙ later.1

    later_match : Match I codes (before ++ p ∷ line) later.0 (first_asked tables passes x (length before + 1) line)
    later_match = subst (λ n. Match I codes (before ++ p ∷ line) later.0 (first_asked tables passes x n line)) (length-append before (p ∷ []))
        (subst (λ all. Match I codes all later.0 (first_asked tables passes x (length (before ++ p ∷ [])) line)) (append_assoc before (p ∷ []) line) later.2)

    -- the table is asked, and has the method or not
    at_table : (o : Option Method) → method_at tables p x ≡ o
        → (found : Option told.Found)
        × (asked p line before (told.method_at w (told_place I (place_seen p)) (I.name x)) ≡ Some found)
        × Match I codes (before ++ p ∷ line) found (found_or (length before) o (first_asked tables passes x (length before + 1) line))
    at_table None is = (
      later.0,
      ap (asked p line before) (method_at-told p lt ∙ ap (λ o. Some (option_map (told_method I codes) o)) is) ∙ later_told,
      later_match,
    )
    at_table (Some m) is = (
      Some (record { method = told_method I codes m; place = told_place I (place_seen p); before = map (told_place I) (places_of before) }),
      ap (asked p line before) (method_at-told p lt ∙ ap (λ o. Some (option_map (told_method I codes) o)) is),
      record { earlier = before; table = p; later = line; split = refl; there = refl; method_told = refl; place_told = refl; before_told = refl },
    )

    -- the table is passed over, or asked
    by_table : (b : Bool) → (passes && is_of_classes (place_seen p)) ≡ b
        → (found : Option told.Found)
        × (told.first_method w (told.is_asked passes) (I.name x) (map (told_place I) (places_of before)) (told_place I (place_seen p) ∷ map (told_place I) (places_of line)) ≡ Some found)
        × Match I codes (before ++ p ∷ line) found (cond b (first_asked tables passes x (length before + 1) line) (found_or (length before) (method_at tables p x) (first_asked tables passes x (length before + 1) line)))
    by_table true is = (later.0, ap (λ b. cond b (asked p line before (told.method_at w (told_place I (place_seen p)) (I.name x))) (behind p line before)) (asked-told p ∙ ap not is) ∙ later_told, later_match)
    by_table false is =
        let table = at_table (method_at tables p x) refl in
        (table.0, ap (λ b. cond b (asked p line before (told.method_at w (told_place I (place_seen p)) (I.name x))) (behind p line before)) (asked-told p ∙ ap not is) ∙ table.1, table.2)

  pub first-told : (line before : List ModuleLine) → All Within line → FirstTold before line
  first-told [] before within = (None, refl, tt)
  first-told (p ∷ line) before within =
      let later = first-told line (before ++ p ∷ []) (All-tail Within p line within) in
      let found = by_table p line before (All-head Within p line within) later (passes && is_of_classes (place_seen p)) refl in
      (found.0, found.1, found.2)

  -- ---- how it runs

  module _ (line : List ModuleLine) (start : ℕ) (few : start ≤ length line) (within : All Within line) where
    first_from : FirstTold (take start line) (drop start line)
    first_from = first-told (drop start line) (take start line) (All-drop Within start line within)

    matched : Match I codes line first_from.0 (first_asked tables passes x start (drop start line))
    matched = subst (λ n. Match I codes line first_from.0 (first_asked tables passes x n (drop start line))) (length-take-le start line few)
        (subst (λ all. Match I codes all first_from.0 (first_asked tables passes x (length (take start line)) (drop start line))) (take-append-drop start line) first_from.2)

    pub none-found : first_asked tables passes x start (drop start line) ≡ None → FindsFrom I codes w passes (I.name x) start line None
    none-found is = (first_from.0, first_from.1, by first_from.0 (subst (Match I codes line first_from.0) is matched))
      where
        by : (f : Option told.Found) → Match I codes line f None → IsChosen I codes (I.name x) f None
        by None match = tt
        by (Some f) match = match

    pub some-found : (k : ℕ) (c : Chosen) (d : ModuleLine) → first_asked tables passes x start (drop start line) ≡ Some (k, c.method) → c.running.name.0 ≡ x → c.running.place ≡ get_or line k d
        → c.running.earlier ≡ length (filter (λ p. is_table (place_seen c.running.place) (place_seen p)) (take k line)) → FindsFrom I codes w passes (I.name x) start line (Some c)
    some-found k c d is name place earlier = (first_from.0, first_from.1, by first_from.0 (subst (Match I codes line first_from.0) is matched))
      where
        runs : (f : told.Found) → Matches I codes line f k c.method → running_at (I.name x) f ≡ told_running I c.running
        runs f m =
            let table : c.running.place ≡ m.table = place ∙ (λ i. get_or (m.split i) (m.there i) d) ∙ get_or-append_seam m.earlier m.table m.later d in
            let before : take k line ≡ m.earlier = (λ i. take (m.there i) (m.split i)) ∙ take-append_seam m.earlier (m.table ∷ m.later) in
            let told_at = m.place_told ∙ ap (λ p. told_place I (place_seen p)) (sym table) in
            let count = (λ i. length (filter (told.same_place (told_at i)) (m.before_told i))) ∙ equal-told I c.running.place m.earlier ∙ ap (λ ps. length (filter (λ p. is_table (place_seen c.running.place) (place_seen p)) ps)) (sym before) ∙ sym earlier in
            λ i. record { name = I.name (sym name i); place = told_at i; earlier = count i }

        by : (f : Option told.Found) → Match I codes line f (Some (k, c.method)) → IsChosen I codes (I.name x) f (Some c)
        by None match = match
        by (Some f) match = (match.method_told, runs f match)

-- a module of the heap stands in the world
pub module_there : (I : Telling) (h : Held) (w : World) → Agrees I h w → (n : ℕ) → n < length h.modules → (m : told_record.Module) × (w.modules (I.module_id n) ≡ Some m)
module_there I h w agrees n lt =
    let at = record_at h.modules n lt in
    let there = agrees.modules n at.0 at.1 in
    (there.0, there.1)
