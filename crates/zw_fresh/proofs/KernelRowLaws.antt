-- The methods of Kernel keep points alike; `freeze`, where the setting is not calm.
use Rattle.std.specs.Prelude.{◌≡◌, Bool, true, false, not, ◌&&◌, List, [], ◌∷◌, ◌++◌, codes, drop, Option, Some, None}
use Rattle.std.specs.Option.{option_map}
use Rattle.std.proofs.Common.{refl, sym, subst}
use Rattle.std.proofs.lemmas.List.{drop-map}
use Rattle.zw_def.specs.Text.{Text, pieces}
use Rattle.zw_def_world.specs.Row.{of_kernel, KernelRow, kernel_puts, kernel_raise, kernel_class, kernel_is_nil, kernel_equal, kernel_differs, kernel_is_a, kernel_instance_of, kernel_respond_to, kernel_to_s, kernel_inspect, kernel_freeze, kernel_is_frozen}
use Rattle.zw_def_world.specs.Id.{Id, id_eq}
use Rattle.zw_def_world.specs.Value.{Value, nil, truth, int, text, symbol, array, module_at, object_at, text_in, is_true, as_holder}
use Rattle.zw_def_world.specs.Record.{frozen_module, frozen_object}
use Rattle.zw_def_world.specs.World.{World, is_frozen}
use Rattle.zw_def_world.specs.Ancestor.{class_of, makes_exceptions}
use Rattle.zw_def_world.specs.MethodLine.{Found as FoundMethod, method_of, is_kind_of}
use Rattle.zw_def_world.specs.Inspect.{built_in, inspected, is_exception}
use Rattle.zw_def_world.specs.Making.{makes_text}
use Rattle.zw_def_world.specs.Site.{Call, Site, first, yes_or_no, on_module, on_object}
use Rattle.zw_def_world.specs.Equality.{same}
use Rattle.zw_def_world.specs.KernelRows.{without_last_line_end, puts_lines, puts_text, puts_each, puts, no_exception, raises_object, raises_value, is_exception_class, raises_new, raises_of, is_public, freezes, kernel_act}
use Rattle.zw_def_world.specs.Act.{Act, raised, lost, gives, reading, ◌>>=◌}
use Rattle.zw_def_world.proofs.EvolutionLaws.{if_keeps, gives_keeps, ends_keeps, reading_keeps}
use Rattle.zw_def_world.proofs.FaultLaws.{makes_text_keeps}
use Rattle.zw_def_world.proofs.RowLaws.{yes_or_no_keeps}
use Rattle.zw_def_world.proofs.KernelLaws.{puts_text_keeps, no_exception_keeps, raises_value_keeps, raises_new_keeps}
use Rattle.zw_fresh.specs.Renaming.{Names, lifted, lifted_object, ren, ren_found}
use Rattle.zw_fresh.specs.CalmCode.{PlainRow}
use Rattle.zw_fresh.specs.Alike.{Setting, Found, Worlds}
use Rattle.zw_fresh.proofs.NameLemmas.{apart}
use Rattle.zw_fresh.proofs.PlainLaws.{equal_plain, new_plain}
use Rattle.zw_fresh.proofs.EndLaws.{Spends}
use Rattle.zw_fresh.proofs.ActLaws.{Alike, ends_alike, gives_alike, both_alike, on_alike, if_alike, reading_alike, writes_alike}
use Rattle.zw_fresh.proofs.FoundLaws.{found_map, module_bind}
use Rattle.zw_fresh.proofs.AncestorLaws.{class_of_found, makes_exceptions_found}
use Rattle.zw_fresh.proofs.TextLaws.{as_it_is, is_exception_found, inspected_found, built_in_found, is_frozen_found}
use Rattle.zw_fresh.proofs.MethodLaws.{method_found, is_kind_found}
use Rattle.zw_fresh.proofs.ChangeLaws.{in_object_alike, changing_object_alike}
use Rattle.zw_fresh.proofs.FaultLaws.{ren_list, fails_alike, makes_text_alike}
use Rattle.zw_fresh.proofs.ValueLaws.{truth_same, text_same, first_same}
use Rattle.zw_fresh.proofs.SiteLaws.{CallAlike, yes_or_no_alike, same_alike, with_text_alike}
use Rattle.zw_fresh.proofs.KeyLaws.{changing_module_alike}
use Rattle.zw_fresh.proofs.CallLaws.{SiteAlike}

exception_class_found : {calm : Bool} {S : Setting calm} {w w' : World} → Worlds calm S w w' → (i : Id)
    → Found calm as_it_is (is_exception_class w i) (is_exception_class w' (lifted S.lift i))
exception_class_found {calm} {S} {w} {w'} W i = module_bind W
    (λ m. option_map (λ excepts. m.is_class && excepts) (makes_exceptions w i))
    (λ m. option_map (λ excepts. m.is_class && excepts) (makes_exceptions w' (lifted S.lift i))) i
    (λ m c. found_map _ _ (makes_exceptions_found W i) (λ b. refl))

-- ---- what rows read of their arguments

module _ {calm : Bool} {S : Setting calm} {old : Text → Bool} where
  pub on_module_row : (k k' : Id → Act) → ((i : Id) → Alike S old (k i) (k' (lifted S.lift i))) → (v : Value)
      → Alike S old (on_module v k) (on_module (ren S.lift v) k')
  on_module_row k k' b nil = ends_alike lost
  on_module_row k k' b (truth bit) = ends_alike lost
  on_module_row k k' b (int z) = ends_alike lost
  on_module_row k k' b (text t) = ends_alike lost
  on_module_row k k' b (symbol t) = ends_alike lost
  on_module_row k k' b (array vs) = ends_alike lost
  on_module_row k k' b (module_at i) = b i
  on_module_row k k' b (object_at i) = ends_alike lost

  pub on_object_row : (k k' : Id → Act) → ((i : Id) → Alike S old (k i) (k' (lifted_object S.lift i))) → (v : Value)
      → Alike S old (on_object v k) (on_object (ren S.lift v) k')
  on_object_row k k' b nil = ends_alike lost
  on_object_row k k' b (truth bit) = ends_alike lost
  on_object_row k k' b (int z) = ends_alike lost
  on_object_row k k' b (text t) = ends_alike lost
  on_object_row k k' b (symbol t) = ends_alike lost
  on_object_row k k' b (array vs) = ends_alike lost
  on_object_row k k' b (module_at i) = ends_alike lost
  on_object_row k k' b (object_at i) = b i

  -- a row that reads the first argument
  pub by_first : (F F' : Value → Act) → ((v : Value) → Alike S old (F v) (F' (ren S.lift v))) → (vs : List Value)
      → Alike S old (F (first vs)) (F' (first (ren_list S.lift vs)))
  by_first F F' h vs = subst (λ v. Alike S old (F (first vs)) (F' v)) (sym (first_same S.lift vs)) (h (first vs))

  -- ---- puts

  puts_lines_alike : (lines : List Text) → Alike S old (puts_lines lines) (puts_lines lines)
  puts_lines_alike [] = gives_alike nil
  puts_lines_alike (line ∷ lines) = both_alike (writes_alike (codes "> " ++ line)) (puts_lines_alike lines)

  puts_text_alike : (t : Text) → Alike S old (puts_text t) (puts_text t)
  puts_text_alike t = puts_lines_alike (pieces 10 (without_last_line_end t))

  puts_each_alike : {call : Call} → CallAlike S old call → (vs : List Value)
      → Alike S old (puts_each call vs) (puts_each call (ren_list S.lift vs))
  puts_each_alike c [] = gives_alike nil
  puts_each_alike c (v ∷ vs) = both_alike (with_text_alike c v puts_text_alike puts_text_keeps) (puts_each_alike c vs)

  puts_alike : {call : Call} → CallAlike S old call → (vs : List Value)
      → Alike S old (puts call vs) (puts call (ren_list S.lift vs))
  puts_alike c [] = writes_alike (codes "> ")
  puts_alike c (v ∷ vs) = puts_each_alike c (v ∷ vs)

  -- ---- raise

  no_exception_alike : Alike S old no_exception no_exception
  no_exception_alike = fails_alike 22 refl (codes "exception class/object expected")

  raises_object_alike : (i : Id) → Alike S old (raises_object i) (raises_object (lifted_object S.lift i))
  raises_object_alike i = in_object_alike i _ _
      (λ o. reading_alike (λ w w' W. is_exception_found W o) (λ b. if_alike b (ends_alike (raised i)) no_exception_alike)
      (λ b. if_keeps b (ends_keeps (raised (lifted_object S.lift i))) no_exception_keeps))
      (λ o. reading_keeps (λ w. is_exception w o) (λ b. if_keeps b (ends_keeps (raised (lifted_object S.lift i))) no_exception_keeps))

  raises_value_alike : (v : Value) → Alike S old (raises_value v) (raises_value (ren S.lift v))
  raises_value_alike nil = no_exception_alike
  raises_value_alike (truth bit) = no_exception_alike
  raises_value_alike (int z) = no_exception_alike
  raises_value_alike (text t) = no_exception_alike
  raises_value_alike (symbol t) = no_exception_alike
  raises_value_alike (array vs) = no_exception_alike
  raises_value_alike (module_at i) = no_exception_alike
  raises_value_alike (object_at i) = raises_object_alike i

  raises_new_alike : {call : Call} → CallAlike S old call → (more : List Value) (v : Value) (b : Bool)
      → Alike S old (raises_new call more v b) (raises_new call (ren_list S.lift more) (ren S.lift v) b)
  raises_new_alike c more v true = on_alike (c v (codes "new") more (new_plain calm)) raises_value_alike raises_value_keeps
  raises_new_alike c more v false = no_exception_alike

  raises_of_alike : {call : Call} → CallAlike S old call → ((r : Value) (x : Text) (vs : List Value) → Spends (call r x vs))
      → (more : List Value) (v : Value)
      → Alike S old (raises_of call more v) (raises_of call (ren_list S.lift more) (ren S.lift v))
  raises_of_alike c l more (text t) = fails_alike 21 refl t
  raises_of_alike c l more (module_at i) = reading_alike (λ w w' W. exception_class_found W i)
      (raises_new_alike c more (module_at i)) (raises_new_keeps l (ren_list S.lift more) (module_at (lifted S.lift i)))
  raises_of_alike c l more nil = raises_value_alike nil
  raises_of_alike c l more (truth bit) = raises_value_alike (truth bit)
  raises_of_alike c l more (int z) = raises_value_alike (int z)
  raises_of_alike c l more (symbol t) = raises_value_alike (symbol t)
  raises_of_alike c l more (array vs) = raises_value_alike (array vs)
  raises_of_alike c l more (object_at i) = raises_value_alike (object_at i)

pub is_public_same : (f : Names) (o : Option FoundMethod) → is_public (option_map (ren_found f) o) ≡ is_public o
is_public_same f None = refl
is_public_same f (Some m) = refl

module _ {S : Setting false} {old : Text → Bool} where
  freezes_value : (v : Value) → Alike S old (freezes v (as_holder v)) (freezes (ren S.lift v) (as_holder (ren S.lift v)))
  freezes_value nil = gives_alike nil
  freezes_value (truth bit) = gives_alike (truth bit)
  freezes_value (int z) = gives_alike (int z)
  freezes_value (text t) = gives_alike (text t)
  freezes_value (symbol t) = gives_alike (symbol t)
  freezes_value (array vs) = gives_alike (array vs)
  freezes_value (module_at i) = changing_module_alike i frozen_module frozen_module (λ m. refl) (module_at i)
  freezes_value (object_at i) = changing_object_alike i frozen_object frozen_object (λ o. refl) (object_at i)

freezes_alike : (calm : Bool) (S : Setting calm) (old : Text → Bool) → PlainRow calm (of_kernel kernel_freeze) → (v : Value)
    → Alike S old (freezes v (as_holder v)) (freezes (ren S.lift v) (as_holder (ren S.lift v)))
freezes_alike true S old h v = absurd (apart h)
freezes_alike false S old h v = freezes_value v

module _ {calm : Bool} {S : Setting calm} {old : Text → Bool} where
  module _ (s : Site) (of_s : SiteAlike S old s) where
    is_nil_alike : (r : Value) (vs : List Value)
        → Alike S old (kernel_act s kernel_is_nil r vs) (kernel_act s kernel_is_nil (ren S.lift r) (ren_list S.lift vs))
    is_nil_alike nil vs = yes_or_no_alike true
    is_nil_alike (truth bit) vs = yes_or_no_alike false
    is_nil_alike (int z) vs = yes_or_no_alike false
    is_nil_alike (text t) vs = yes_or_no_alike false
    is_nil_alike (symbol t) vs = yes_or_no_alike false
    is_nil_alike (array us) vs = yes_or_no_alike false
    is_nil_alike (module_at i) vs = yes_or_no_alike false
    is_nil_alike (object_at i) vs = yes_or_no_alike false

    raise_alike : (vs : List Value)
        → Alike S old (raises_of s.makes (drop 1 vs) (first vs)) (raises_of s.makes (drop 1 (ren_list S.lift vs)) (first (ren_list S.lift vs)))
    raise_alike vs = subst (λ l. Alike S old (raises_of s.makes (drop 1 vs) (first vs)) (raises_of s.makes l (first (ren_list S.lift vs))))
        (sym (drop-map (ren S.lift) 1 vs))
        (by_first (raises_of s.makes (drop 1 vs)) (raises_of s.makes (ren_list S.lift (drop 1 vs)))
        (raises_of_alike of_s.makes of_s.spends.makes (drop 1 vs)) vs)

    respond_alike : (r : Value) (x : Text)
        → Alike S old (reading (λ w. method_of w r x) (λ found. yes_or_no (is_public found)))
        (reading (λ w. method_of w (ren S.lift r) x) (λ found. yes_or_no (is_public found)))
    respond_alike r x = reading_alike (λ w w' W. method_found W r x)
        (λ o. subst (λ b. Alike S old (yes_or_no (is_public o)) (yes_or_no b)) (sym (is_public_same S.lift o))
        (yes_or_no_alike (is_public o))) (λ o. yes_or_no_keeps (is_public o))

    class_value_alike : (r : Value) → Alike S old (reading (λ w. class_of w r) (λ class. gives (module_at class)))
        (reading (λ w. class_of w (ren S.lift r)) (λ class. gives (module_at class)))
    class_value_alike r = reading_alike (λ w w' W. class_of_found W r) (λ i. gives_alike (module_at i))
        (λ i. gives_keeps (module_at i))

    differs_alike : (r : Value) (vs : List Value)
        → Alike S old (s.sends r (codes "==") vs >>= (λ v. yes_or_no (not (is_true v))))
        (s.sends (ren S.lift r) (codes "==") (ren_list S.lift vs) >>= (λ v. yes_or_no (not (is_true v))))
    differs_alike r vs = on_alike (of_s.sends r (codes "==") vs (equal_plain calm))
        (λ v. subst (λ b. Alike S old (yes_or_no (not (is_true v))) (yes_or_no (not b))) (sym (truth_same S.lift v))
        (yes_or_no_alike (not (is_true v)))) (λ v. yes_or_no_keeps (not (is_true v)))

    is_a_alike : (r : Value) (vs : List Value)
        → Alike S old (on_module (first vs) (λ i. reading (λ w. is_kind_of w r i) yes_or_no))
        (on_module (first (ren_list S.lift vs)) (λ i. reading (λ w. is_kind_of w (ren S.lift r) i) yes_or_no))
    is_a_alike r vs = by_first (λ v. on_module v (λ i. reading (λ w. is_kind_of w r i) yes_or_no))
        (λ v. on_module v (λ i. reading (λ w. is_kind_of w (ren S.lift r) i) yes_or_no))
        (on_module_row _ _ (λ i. reading_alike (λ w w' W. is_kind_found W r i) yes_or_no_alike yes_or_no_keeps)) vs

    instance_of_alike : (r : Value) (vs : List Value)
        → Alike S old (on_module (first vs) (λ i. reading (λ w. class_of w r) (λ class. yes_or_no (id_eq class i))))
        (on_module (first (ren_list S.lift vs)) (λ i. reading (λ w. class_of w (ren S.lift r)) (λ class. yes_or_no (id_eq class i))))
    instance_of_alike r vs = by_first (λ v. on_module v (λ i. reading (λ w. class_of w r) (λ class. yes_or_no (id_eq class i))))
        (λ v. on_module v (λ i. reading (λ w. class_of w (ren S.lift r)) (λ class. yes_or_no (id_eq class i))))
        (on_module_row _ _ (λ i. reading_alike (λ w w' W. class_of_found W r)
        (λ j. subst (λ b. Alike S old (yes_or_no (id_eq j i)) (yes_or_no b)) (sym (S.apart j i)) (yes_or_no_alike (id_eq j i)))
        (λ j. yes_or_no_keeps (id_eq j (lifted S.lift i))))) vs

    responds_alike : (r : Value) (vs : List Value)
        → Alike S old (reading (λ w. method_of w r (text_in (first vs))) (λ found. yes_or_no (is_public found)))
        (reading (λ w. method_of w (ren S.lift r) (text_in (first (ren_list S.lift vs)))) (λ found. yes_or_no (is_public found)))
    responds_alike r vs = by_first (λ v. reading (λ w. method_of w r (text_in v)) (λ found. yes_or_no (is_public found)))
        (λ v. reading (λ w. method_of w (ren S.lift r) (text_in v)) (λ found. yes_or_no (is_public found)))
        (λ v. subst (λ x. Alike S old (reading (λ w. method_of w r (text_in v)) (λ found. yes_or_no (is_public found)))
        (reading (λ w. method_of w (ren S.lift r) x) (λ found. yes_or_no (is_public found)))) (sym (text_same S.lift v))
        (respond_alike r (text_in v))) vs

    to_s_alike : (r : Value)
        → Alike S old (reading (λ w. built_in w r) makes_text) (reading (λ w. built_in w (ren S.lift r)) makes_text)
    to_s_alike r = reading_alike (λ w w' W. built_in_found W r) makes_text_alike makes_text_keeps

    inspect_alike : (r : Value)
        → Alike S old (reading (λ w. inspected w r) makes_text) (reading (λ w. inspected w (ren S.lift r)) makes_text)
    inspect_alike r = reading_alike (λ w w' W. inspected_found W r) makes_text_alike makes_text_keeps

    is_frozen_alike : (r : Value)
        → Alike S old (reading (λ w. is_frozen w r) yes_or_no) (reading (λ w. is_frozen w (ren S.lift r)) yes_or_no)
    is_frozen_alike r = reading_alike (λ w w' W. is_frozen_found W r) yes_or_no_alike yes_or_no_keeps

  pub kernel_alike : (s : Site) → SiteAlike S old s → (row : KernelRow) → PlainRow calm (of_kernel row) → (r : Value)
      (vs : List Value)
      → Alike S old (kernel_act s row r vs) (kernel_act s row (ren S.lift r) (ren_list S.lift vs))
  kernel_alike s of_s kernel_puts h nil vs = puts_alike of_s.sends vs
  kernel_alike s of_s kernel_puts h (truth bit) vs = puts_alike of_s.sends vs
  kernel_alike s of_s kernel_puts h (int whole) vs = puts_alike of_s.sends vs
  kernel_alike s of_s kernel_puts h (text bytes) vs = puts_alike of_s.sends vs
  kernel_alike s of_s kernel_puts h (symbol name) vs = puts_alike of_s.sends vs
  kernel_alike s of_s kernel_puts h (array items) vs = puts_alike of_s.sends vs
  kernel_alike s of_s kernel_puts h (module_at id) vs = puts_alike of_s.sends vs
  kernel_alike s of_s kernel_puts h (object_at id) vs = puts_alike of_s.sends vs
  kernel_alike s of_s kernel_raise h nil vs = raise_alike s of_s vs
  kernel_alike s of_s kernel_raise h (truth bit) vs = raise_alike s of_s vs
  kernel_alike s of_s kernel_raise h (int whole) vs = raise_alike s of_s vs
  kernel_alike s of_s kernel_raise h (text bytes) vs = raise_alike s of_s vs
  kernel_alike s of_s kernel_raise h (symbol name) vs = raise_alike s of_s vs
  kernel_alike s of_s kernel_raise h (array items) vs = raise_alike s of_s vs
  kernel_alike s of_s kernel_raise h (module_at id) vs = raise_alike s of_s vs
  kernel_alike s of_s kernel_raise h (object_at id) vs = raise_alike s of_s vs
  kernel_alike s of_s kernel_class h nil vs = class_value_alike s of_s nil
  kernel_alike s of_s kernel_class h (truth bit) vs = class_value_alike s of_s (truth bit)
  kernel_alike s of_s kernel_class h (int whole) vs = class_value_alike s of_s (int whole)
  kernel_alike s of_s kernel_class h (text bytes) vs = class_value_alike s of_s (text bytes)
  kernel_alike s of_s kernel_class h (symbol name) vs = class_value_alike s of_s (symbol name)
  kernel_alike s of_s kernel_class h (array items) vs = class_value_alike s of_s (array items)
  kernel_alike s of_s kernel_class h (module_at id) vs = class_value_alike s of_s (module_at id)
  kernel_alike s of_s kernel_class h (object_at id) vs = class_value_alike s of_s (object_at id)
  kernel_alike s of_s kernel_is_nil h nil vs = is_nil_alike s of_s nil vs
  kernel_alike s of_s kernel_is_nil h (truth bit) vs = is_nil_alike s of_s (truth bit) vs
  kernel_alike s of_s kernel_is_nil h (int whole) vs = is_nil_alike s of_s (int whole) vs
  kernel_alike s of_s kernel_is_nil h (text bytes) vs = is_nil_alike s of_s (text bytes) vs
  kernel_alike s of_s kernel_is_nil h (symbol name) vs = is_nil_alike s of_s (symbol name) vs
  kernel_alike s of_s kernel_is_nil h (array items) vs = is_nil_alike s of_s (array items) vs
  kernel_alike s of_s kernel_is_nil h (module_at id) vs = is_nil_alike s of_s (module_at id) vs
  kernel_alike s of_s kernel_is_nil h (object_at id) vs = is_nil_alike s of_s (object_at id) vs
  kernel_alike s of_s kernel_equal h nil vs = by_first (same nil) (same (ren S.lift nil)) (same_alike nil) vs
  kernel_alike s of_s kernel_equal h (truth bit) vs = by_first (same (truth bit)) (same (ren S.lift (truth bit))) (same_alike (truth bit)) vs
  kernel_alike s of_s kernel_equal h (int whole) vs = by_first (same (int whole)) (same (ren S.lift (int whole))) (same_alike (int whole)) vs
  kernel_alike s of_s kernel_equal h (text bytes) vs = by_first (same (text bytes)) (same (ren S.lift (text bytes))) (same_alike (text bytes)) vs
  kernel_alike s of_s kernel_equal h (symbol name) vs = by_first (same (symbol name)) (same (ren S.lift (symbol name))) (same_alike (symbol name)) vs
  kernel_alike s of_s kernel_equal h (array items) vs = by_first (same (array items)) (same (ren S.lift (array items))) (same_alike (array items)) vs
  kernel_alike s of_s kernel_equal h (module_at id) vs = by_first (same (module_at id)) (same (ren S.lift (module_at id))) (same_alike (module_at id)) vs
  kernel_alike s of_s kernel_equal h (object_at id) vs = by_first (same (object_at id)) (same (ren S.lift (object_at id))) (same_alike (object_at id)) vs
  kernel_alike s of_s kernel_differs h nil vs = differs_alike s of_s nil vs
  kernel_alike s of_s kernel_differs h (truth bit) vs = differs_alike s of_s (truth bit) vs
  kernel_alike s of_s kernel_differs h (int whole) vs = differs_alike s of_s (int whole) vs
  kernel_alike s of_s kernel_differs h (text bytes) vs = differs_alike s of_s (text bytes) vs
  kernel_alike s of_s kernel_differs h (symbol name) vs = differs_alike s of_s (symbol name) vs
  kernel_alike s of_s kernel_differs h (array items) vs = differs_alike s of_s (array items) vs
  kernel_alike s of_s kernel_differs h (module_at id) vs = differs_alike s of_s (module_at id) vs
  kernel_alike s of_s kernel_differs h (object_at id) vs = differs_alike s of_s (object_at id) vs
  kernel_alike s of_s kernel_is_a h nil vs = is_a_alike s of_s nil vs
  kernel_alike s of_s kernel_is_a h (truth bit) vs = is_a_alike s of_s (truth bit) vs
  kernel_alike s of_s kernel_is_a h (int whole) vs = is_a_alike s of_s (int whole) vs
  kernel_alike s of_s kernel_is_a h (text bytes) vs = is_a_alike s of_s (text bytes) vs
  kernel_alike s of_s kernel_is_a h (symbol name) vs = is_a_alike s of_s (symbol name) vs
  kernel_alike s of_s kernel_is_a h (array items) vs = is_a_alike s of_s (array items) vs
  kernel_alike s of_s kernel_is_a h (module_at id) vs = is_a_alike s of_s (module_at id) vs
  kernel_alike s of_s kernel_is_a h (object_at id) vs = is_a_alike s of_s (object_at id) vs
  kernel_alike s of_s kernel_instance_of h nil vs = instance_of_alike s of_s nil vs
  kernel_alike s of_s kernel_instance_of h (truth bit) vs = instance_of_alike s of_s (truth bit) vs
  kernel_alike s of_s kernel_instance_of h (int whole) vs = instance_of_alike s of_s (int whole) vs
  kernel_alike s of_s kernel_instance_of h (text bytes) vs = instance_of_alike s of_s (text bytes) vs
  kernel_alike s of_s kernel_instance_of h (symbol name) vs = instance_of_alike s of_s (symbol name) vs
  kernel_alike s of_s kernel_instance_of h (array items) vs = instance_of_alike s of_s (array items) vs
  kernel_alike s of_s kernel_instance_of h (module_at id) vs = instance_of_alike s of_s (module_at id) vs
  kernel_alike s of_s kernel_instance_of h (object_at id) vs = instance_of_alike s of_s (object_at id) vs
  kernel_alike s of_s kernel_respond_to h nil vs = responds_alike s of_s nil vs
  kernel_alike s of_s kernel_respond_to h (truth bit) vs = responds_alike s of_s (truth bit) vs
  kernel_alike s of_s kernel_respond_to h (int whole) vs = responds_alike s of_s (int whole) vs
  kernel_alike s of_s kernel_respond_to h (text bytes) vs = responds_alike s of_s (text bytes) vs
  kernel_alike s of_s kernel_respond_to h (symbol name) vs = responds_alike s of_s (symbol name) vs
  kernel_alike s of_s kernel_respond_to h (array items) vs = responds_alike s of_s (array items) vs
  kernel_alike s of_s kernel_respond_to h (module_at id) vs = responds_alike s of_s (module_at id) vs
  kernel_alike s of_s kernel_respond_to h (object_at id) vs = responds_alike s of_s (object_at id) vs
  kernel_alike s of_s kernel_to_s h nil vs = to_s_alike s of_s nil
  kernel_alike s of_s kernel_to_s h (truth bit) vs = to_s_alike s of_s (truth bit)
  kernel_alike s of_s kernel_to_s h (int whole) vs = to_s_alike s of_s (int whole)
  kernel_alike s of_s kernel_to_s h (text bytes) vs = to_s_alike s of_s (text bytes)
  kernel_alike s of_s kernel_to_s h (symbol name) vs = to_s_alike s of_s (symbol name)
  kernel_alike s of_s kernel_to_s h (array items) vs = to_s_alike s of_s (array items)
  kernel_alike s of_s kernel_to_s h (module_at id) vs = to_s_alike s of_s (module_at id)
  kernel_alike s of_s kernel_to_s h (object_at id) vs = to_s_alike s of_s (object_at id)
  kernel_alike s of_s kernel_inspect h nil vs = inspect_alike s of_s nil
  kernel_alike s of_s kernel_inspect h (truth bit) vs = inspect_alike s of_s (truth bit)
  kernel_alike s of_s kernel_inspect h (int whole) vs = inspect_alike s of_s (int whole)
  kernel_alike s of_s kernel_inspect h (text bytes) vs = inspect_alike s of_s (text bytes)
  kernel_alike s of_s kernel_inspect h (symbol name) vs = inspect_alike s of_s (symbol name)
  kernel_alike s of_s kernel_inspect h (array items) vs = inspect_alike s of_s (array items)
  kernel_alike s of_s kernel_inspect h (module_at id) vs = inspect_alike s of_s (module_at id)
  kernel_alike s of_s kernel_inspect h (object_at id) vs = inspect_alike s of_s (object_at id)
  kernel_alike s of_s kernel_freeze h nil vs = freezes_alike calm S old h nil
  kernel_alike s of_s kernel_freeze h (truth bit) vs = freezes_alike calm S old h (truth bit)
  kernel_alike s of_s kernel_freeze h (int whole) vs = freezes_alike calm S old h (int whole)
  kernel_alike s of_s kernel_freeze h (text bytes) vs = freezes_alike calm S old h (text bytes)
  kernel_alike s of_s kernel_freeze h (symbol name) vs = freezes_alike calm S old h (symbol name)
  kernel_alike s of_s kernel_freeze h (array items) vs = freezes_alike calm S old h (array items)
  kernel_alike s of_s kernel_freeze h (module_at id) vs = freezes_alike calm S old h (module_at id)
  kernel_alike s of_s kernel_freeze h (object_at id) vs = freezes_alike calm S old h (object_at id)
  kernel_alike s of_s kernel_is_frozen h nil vs = is_frozen_alike s of_s nil
  kernel_alike s of_s kernel_is_frozen h (truth bit) vs = is_frozen_alike s of_s (truth bit)
  kernel_alike s of_s kernel_is_frozen h (int whole) vs = is_frozen_alike s of_s (int whole)
  kernel_alike s of_s kernel_is_frozen h (text bytes) vs = is_frozen_alike s of_s (text bytes)
  kernel_alike s of_s kernel_is_frozen h (symbol name) vs = is_frozen_alike s of_s (symbol name)
  kernel_alike s of_s kernel_is_frozen h (array items) vs = is_frozen_alike s of_s (array items)
  kernel_alike s of_s kernel_is_frozen h (module_at id) vs = is_frozen_alike s of_s (module_at id)
  kernel_alike s of_s kernel_is_frozen h (object_at id) vs = is_frozen_alike s of_s (object_at id)
