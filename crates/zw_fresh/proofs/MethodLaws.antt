-- Lines of method tables, and the method that answers a call, in two worlds alike.
use Rattle.std.specs.Prelude.{◌≡◌, ℕ, zero, suc, ◌-◌, ◌||◌, ◌&&◌, Bool, true, false, not, List, [], ◌∷◌, ◌++◌, filter, length, take, Option, Some, None, if◌then◌else◌}
use Rattle.std.specs.List.{list_any}
use Rattle.std.specs.Option.{option_map}
use Rattle.std.proofs.Common.{refl, sym, ap, ◌∙◌, subst}
use Rattle.std.proofs.lemmas.List.{map-append, length-map, take-map}
use Rattle.zw_def.specs.Text.{Text}
use Rattle.zw_def_world.specs.Missing.{bind}
use Rattle.zw_def_world.specs.Id.{Id}
use Rattle.zw_def_world.specs.CoreClass.{Object_class, Kernel, Module_class, Class, classes_without_new}
use Rattle.zw_def_world.specs.Table.{at}
use Rattle.zw_def_world.specs.Value.{Value, nil, truth, int, text, symbol, array, module_at, object_at, as_module}
use Rattle.zw_def_world.specs.Record.{Method, Module}
use Rattle.zw_def_world.specs.World.{World}
use Rattle.zw_def_world.specs.Ancestor.{ancestors, is_among, class_of}
use Rattle.zw_def_world.specs.MethodLine.{Place, of_instances, of_itself, instances, own_line_of, own_line, class_line, module_line, line_of_module, line_of, method_at, Found as FoundMethod, found_or, first_method, bool_eq, same_place, lacks_new, passes_new, is_asked, method_behind, method_of, is_table_of, is_kind_of}
use Rattle.zw_def_world.specs.Frame.{Running}
use Rattle.zw_def_world.specs.Call.{running_at, line_behind, next_in, next_method}
use Rattle.zw_fresh.specs.Renaming.{lifted, lifted_all, ren, ren_method, ren_methods, ren_place, ren_places, ren_found, ren_running}
use Rattle.zw_fresh.specs.Alike.{Setting, Found, Worlds}
use Rattle.zw_fresh.proofs.FoundLaws.{some_found, found_bind, found_map, found_if, joined_found, module_bind, module_map}
use Rattle.zw_fresh.proofs.AncestorLaws.{among_lifted, ancestors_found, superclasses_found, class_of_found}
use Rattle.zw_fresh.proofs.TableLemmas.{at-made}
use Rattle.zw_fresh.proofs.TextLaws.{as_it_is}

-- ---- places

module _ {calm : Bool} (S : Setting calm) where
  pub instances_lifted : (is : List Id) → instances (lifted_all S.lift is) ≡ ren_places S.lift (instances is)
  instances_lifted [] = refl
  instances_lifted (i ∷ is) = ap (λ l. of_instances (lifted S.lift i) ∷ l) (instances_lifted is)

  pub same_place_same : (p q : Place) → same_place (ren_place S.lift p) (ren_place S.lift q) ≡ same_place p q
  same_place_same p q = ap (λ b. if bool_eq p.is_singleton q.is_singleton then b else false) (S.apart p.owner q.owner)

  class_place : of_instances Class ≡ ren_place S.lift (of_instances Class)
  class_place = ap of_instances (sym (S.core_stays 3 refl))

  pub is_asked_same : (b : Bool) (p : Place) → is_asked b (ren_place S.lift p) ≡ is_asked b p
  is_asked_same true p =
      ap (λ q. not (same_place (ren_place S.lift p) q)) class_place ∙ ap not (same_place_same p (of_instances Class))
  is_asked_same false p = refl

  pub as_module_same : (v : Value) → as_module (ren S.lift v) ≡ option_map (lifted S.lift) (as_module v)
  as_module_same nil = refl
  as_module_same (truth b) = refl
  as_module_same (int z) = refl
  as_module_same (text t) = refl
  as_module_same (symbol t) = refl
  as_module_same (array vs) = refl
  as_module_same (module_at i) = refl
  as_module_same (object_at i) = refl

  any_among : (line is : List Id)
      → list_any (is_among (lifted_all S.lift line)) (lifted_all S.lift is) ≡ list_any (is_among line) is
  any_among line [] = refl
  any_among line (i ∷ is) = λ k. among_lifted S line i k || any_among line is k

  without_new_stays : classes_without_new ≡ lifted_all S.lift classes_without_new
  without_new_stays = λ k.
      sym (S.core_stays 2 refl) k ∷ sym (S.core_stays 3 refl) k ∷ sym (S.core_stays 4 refl) k ∷ sym (S.core_stays 5 refl) k ∷
      sym (S.core_stays 6 refl) k ∷ sym (S.core_stays 7 refl) k ∷ sym (S.core_stays 8 refl) k ∷ sym (S.core_stays 9 refl) k ∷
      sym (S.core_stays 10 refl) k ∷ []

  pub lacks_same : (line : List Id)
      → list_any (is_among (lifted_all S.lift line)) classes_without_new ≡ list_any (is_among line) classes_without_new
  lacks_same line =
      ap (list_any (is_among (lifted_all S.lift line))) without_new_stays ∙ any_among line classes_without_new

  pub tables_same : (i : Id) (line : List Place)
      → list_any (is_table_of (lifted S.lift i)) (ren_places S.lift line) ≡ list_any (is_table_of i) line
  tables_same i [] = refl
  tables_same i (p ∷ line) = λ k. (not p.is_singleton && S.apart p.owner i k) || tables_same i line k

  -- ---- a running method, and the line behind it

  earlier_same : (p : Place) (places : List Place)
      → length (filter (same_place (ren_place S.lift p)) (ren_places S.lift places)) ≡ length (filter (same_place p) places)
  earlier_same p [] = refl
  earlier_same p (q ∷ qs) =
      ap (λ b. length (if b then ren_place S.lift q ∷ there else there)) (same_place_same p q)
      ∙ one (same_place p q) (earlier_same p qs)
    where
      there : List Place
      there = filter (same_place (ren_place S.lift p)) (ren_places S.lift qs)

      one : (b : Bool) → length there ≡ length (filter (same_place p) qs)
          → length (if b then ren_place S.lift q ∷ there else there)
          ≡ length (if b then q ∷ filter (same_place p) qs else filter (same_place p) qs)
      one true e = ap (λ n. suc n) e
      one false e = e

  pub running_same : (x : Text) (f : FoundMethod) → running_at x (ren_found S.lift f) ≡ ren_running S.lift (running_at x f)
  running_same x f = λ k. record {
    name = x;
    place = ren_place S.lift f.place;
    earlier = earlier_same f.place f.before k;
  }

  pub line_behind_same : (p : Place) (n : ℕ) (line : List Place)
      → line_behind (ren_place S.lift p) n (ren_places S.lift line) ≡ ren_places S.lift (line_behind p n line)
  line_behind_same p zero [] = refl
  line_behind_same p (suc n) [] = refl
  line_behind_same p zero (q ∷ line) =
      (λ k. if same_place_same p q k then ren_places S.lift line else line_behind_same p zero line k)
      ∙ one (same_place p q)
    where
      one : (b : Bool) → (if b then ren_places S.lift line else ren_places S.lift (line_behind p zero line))
          ≡ ren_places S.lift (if b then line else line_behind p zero line)
      one true = refl
      one false = refl
  line_behind_same p (suc n) (q ∷ line) =
      (λ k. if same_place_same p q k then line_behind_same p n line k else line_behind_same p (suc n) line k)
      ∙ one (same_place p q)
    where
      one : (b : Bool)
          → (if b then ren_places S.lift (line_behind p n line) else ren_places S.lift (line_behind p (suc n) line))
          ≡ ren_places S.lift (if b then line_behind p n line else line_behind p (suc n) line)
      one true = refl
      one false = refl

-- ---- lines

module _ {calm : Bool} {S : Setting calm} {w w' : World} (W : Worlds calm S w w') where
  own_line_found : (i : Id) → Found calm (ren_places S.lift) (own_line w i) (own_line w' (lifted S.lift i))
  own_line_found i = module_bind W (own_line_of w i) (own_line_of w' (lifted S.lift i)) i (λ m c.
      found_map _ _ (joined_found _ _ (ancestors_found W) m.extensions)
      (λ is. ap (λ l. of_itself (lifted S.lift i) ∷ l) (instances_lifted S is)))

  class_line_found : (i : Id) → Found calm (ren_places S.lift) (class_line w i) (class_line w' (lifted S.lift i))
  class_line_found i =
      found_map _ _ (found_bind _ _ (superclasses_found W i) (λ is. joined_found _ _ own_line_found is)) (λ line.
      (λ k. ren_places S.lift line ++ of_instances (sym (S.core_stays 3 refl) k) ∷ of_instances (sym (S.core_stays 2 refl) k) ∷
      of_instances (sym (S.core_stays 0 refl) k) ∷ of_instances (sym (S.core_stays 1 refl) k) ∷ [])
      ∙ sym (map-append (ren_place S.lift) line (instances (Class ∷ Module_class ∷ Object_class ∷ Kernel ∷ []))))

  module_line_found : (i : Id) → Found calm (ren_places S.lift) (module_line w i) (module_line w' (lifted S.lift i))
  module_line_found i =
      found_map _ _ (own_line_found i) (λ line.
      (λ k. ren_places S.lift line ++ of_instances (sym (S.core_stays 2 refl) k) ∷
      of_instances (sym (S.core_stays 0 refl) k) ∷ of_instances (sym (S.core_stays 1 refl) k) ∷ [])
      ∙ sym (map-append (ren_place S.lift) line (instances (Module_class ∷ Object_class ∷ Kernel ∷ []))))

  instances_found : (i : Id) → Found calm (ren_places S.lift) (option_map instances (ancestors w i))
      (option_map instances (ancestors w' (lifted S.lift i)))
  instances_found i = found_map _ _ (ancestors_found W i) (instances_lifted S)

  by_class : (v : Value)
      → Found calm (ren_places S.lift) (bind (class_of w v) (λ class. option_map instances (ancestors w class)))
      (bind (class_of w' (ren S.lift v)) (λ class. option_map instances (ancestors w' class)))
  by_class v = found_bind (λ class. option_map instances (ancestors w class))
      (λ class. option_map instances (ancestors w' class)) (class_of_found W v) instances_found

  pub line_found : (v : Value) → Found calm (ren_places S.lift) (line_of w v) (line_of w' (ren S.lift v))
  line_found nil = by_class nil
  line_found (truth b) = by_class (truth b)
  line_found (int z) = by_class (int z)
  line_found (text t) = by_class (text t)
  line_found (symbol t) = by_class (symbol t)
  line_found (array vs) = by_class (array vs)
  line_found (module_at i) = module_bind W (line_of_module w i) (line_of_module w' (lifted S.lift i)) i
      (λ m c. found_if refl (class_line_found i) (module_line_found i))
  line_found (object_at i) = by_class (object_at i)

  pub is_kind_found : (v : Value) (i : Id)
      → Found calm as_it_is (is_kind_of w v i) (is_kind_of w' (ren S.lift v) (lifted S.lift i))
  is_kind_found v i = found_map _ _ (line_found v) (tables_same S i)

  -- ---- the first method of a name

  method_at_found : (p : Place) (x : Text)
      → Found calm (option_map (ren_method S.lift)) (method_at w p x) (method_at w' (ren_place S.lift p) x)
  method_at_found p x = module_map W _ _ p.owner (λ m c. one m p.is_singleton)
    where
      one : (m : Module) (b : Bool)
          → at x (if b then ren_methods S.lift m.singleton else ren_methods S.lift m.methods)
          ≡ option_map (ren_method S.lift) (at x (if b then m.singleton else m.methods))
      one m true = at-made (ren_method S.lift) x m.singleton
      one m false = at-made (ren_method S.lift) x m.methods

  found_or_found : (p : Place) (before : List Place) {later later' : Option (Option FoundMethod)}
      → Found calm (option_map (ren_found S.lift)) later later' → (o : Option Method)
      → Found calm (option_map (ren_found S.lift)) (found_or p before (λ _. later) o)
      (found_or (ren_place S.lift p) (ren_places S.lift before) (λ _. later') (option_map (ren_method S.lift) o))
  found_or_found p before l None = l
  found_or_found p before l (Some method) = some_found (Some _) refl

  pub first_found : (passes passes' : Place → Bool) → ((p : Place) → passes' (ren_place S.lift p) ≡ passes p) → (x : Text)
      → (before line : List Place) → Found calm (option_map (ren_found S.lift)) (first_method w passes x before line)
      (first_method w' passes' x (ren_places S.lift before) (ren_places S.lift line))
  first_found passes passes' same x before [] = some_found None refl
  first_found passes passes' same x before (p ∷ line) =
      let later = subst (λ b. Found calm (option_map (ren_found S.lift)) (first_method w passes x (before ++ p ∷ []) line)
      (first_method w' passes' x b (ren_places S.lift line))) (map-append (ren_place S.lift) before (p ∷ []))
      (first_found passes passes' same x (before ++ p ∷ []) line) in
      found_if (same p) (found_bind _ _ (method_at_found p x) (found_or_found p before later)) later

  lacks_found : (o : Option Id) → Found calm as_it_is (lacks_new w o) (lacks_new w' (option_map (lifted S.lift) o))
  lacks_found None = some_found true refl
  lacks_found (Some i) = found_map _ _ (ancestors_found W i) (lacks_same S)

  passes_found : (v : Value) (x : Text) → Found calm as_it_is (passes_new w v x) (passes_new w' (ren S.lift v) x)
  passes_found v x = found_if refl
      (subst (λ o. Found calm as_it_is (lacks_new w (as_module v)) (lacks_new w' o)) (sym (as_module_same S v))
      (lacks_found (as_module v))) (some_found false refl)

  pub behind_found : (v : Value) (x : Text) (before line : List Place)
      → Found calm (option_map (ren_found S.lift)) (method_behind w v x before line)
      (method_behind w' (ren S.lift v) x (ren_places S.lift before) (ren_places S.lift line))
  behind_found v x before line = found_bind _ _ (passes_found v x)
      (λ b. first_found (is_asked b) (is_asked b) (is_asked_same S b) x before line)

  pub method_found : (v : Value) (x : Text)
      → Found calm (option_map (ren_found S.lift)) (method_of w v x) (method_of w' (ren S.lift v) x)
  method_found v x = found_bind _ _ (line_found v) (behind_found v x [])

  pub next_found : (v : Value) (r : Running) → Found calm (option_map (ren_found S.lift)) (next_method w v r)
      (next_method w' (ren S.lift v) (ren_running S.lift r))
  next_found v r = found_bind (next_in w v r) (next_in w' (ren S.lift v) (ren_running S.lift r)) (line_found v) (λ line.
      subst (λ b. Found calm (option_map (ren_found S.lift)) (next_in w v r line)
      (method_behind w' (ren S.lift v) r.name (take (length (ren_places S.lift line) - length b) (ren_places S.lift line)) b))
      (sym (line_behind_same S r.place r.earlier line))
      (subst (λ t. Found calm (option_map (ren_found S.lift)) (next_in w v r line)
      (method_behind w' (ren S.lift v) r.name t (ren_places S.lift (line_behind r.place r.earlier line))))
      (sym (front line (line_behind r.place r.earlier line))) (behind_found v r.name _ _)))
    where
      front : (line rest : List Place)
          → take (length (ren_places S.lift line) - length (ren_places S.lift rest)) (ren_places S.lift line)
          ≡ ren_places S.lift (take (length line - length rest) line)
      front line rest =
          (λ k. take (length-map line (ren_place S.lift) k - length-map rest (ren_place S.lift) k) (ren_places S.lift line))
          ∙ take-map (ren_place S.lift) (length line - length rest) line
