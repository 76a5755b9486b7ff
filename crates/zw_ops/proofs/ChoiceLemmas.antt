-- The method that answers a call is told as that of each world that agrees with the stores.
use Rattle.std.proofs.Common.{◌≡◌, ◌||◌, ◌&&◌, Bool, true, false, ℕ, ◌<◌, List, [], ◌∷◌, cond, codes, map, slice_get, Option, Some, None, IfSome, refl, ap, sym, ◌∙◌, subst, arith}
use Rattle.std.specs.List.{list_any}
use Rattle.std.specs.Option.{option_map}
use Rattle.std.specs.Str.{bytes_eq}
use Rattle.std.proofs.lemmas.Bool.{eq-eqb}
use Rattle.std.proofs.lemmas.List.Folds.{list_any_at}
use Rattle.std.proofs.lemmas.Option.{slice_get_within, get_or_from_slice_get, same_Some}
use Rattle.zw_consts.specs.Ancestor.{is_among}
use Rattle.zw_def.specs.Text.{Text}
use Rattle.zw_def_world.specs.Ancestor as told_ancestor
use Rattle.zw_def_world.specs.CoreClass.{classes_without_new, core_count}
use Rattle.zw_def_world.specs.Id.{Id, boot_id}
use Rattle.zw_def_world.specs.MethodLine.{bool_eq, lacks_new, passes_new}
use Rattle.zw_def_world.specs.Value as told_value
use Rattle.zw_def_world.specs.World.{World}
use Rattle.zw_heap.specs.Heap.{Held}
use Rattle.zw_heap.specs.Telling.{Telling}
use Rattle.zw_heap.specs.declared.value.Value.{Value}
use Rattle.zw_lemmas.proofs.AnyLemmas.{list_any-map}
use Rattle.zw_methods.specs.Line.{Place, line_in, place_seen, places_of}
use Rattle.zw_methods.specs.Methods.{Methods, method_at, tables_in}
use Rattle.zw_methods.specs.declared.method.ModuleLine.{ModuleLine}
use Rattle.zw_names.specs.declared.names.Name.{Name}
use Rattle.zw_told.proofs.NameLemmas.{is_among-told}
use Rattle.zw_ops.specs.Choice.{IsFoundIn, Makes, StandsIn, is_new, is_placed, without_new}
use Rattle.zw_ops.specs.Line.{is_of_classes, is_table}
use Rattle.zw_ops.specs.declared.choice.Chosen.{Chosen}

-- ---- classes without `new`

module _ (I : Telling) (core : (n : ℕ) → n < core_count → I.module_id n ≡ boot_id n) (ns : List ℕ) where
  among : (n : ℕ) → n < core_count → told_ancestor.is_among (map I.module_id ns) (boot_id n) ≡ is_among ns n
  among n lt = ap (told_ancestor.is_among (map I.module_id ns)) (sym (core n lt)) ∙ is_among-told I.module_id I.modules_differ ns n

  pub without_new-told : list_any (told_ancestor.is_among (map I.module_id ns)) classes_without_new ≡ list_any (is_among ns) without_new
  without_new-told = λ i.
      among 2 (omega arith) i || (among 3 (omega arith) i || (among 4 (omega arith) i || (among 5 (omega arith) i || (among 6 (omega arith) i
      || (among 7 (omega arith) i || (among 8 (omega arith) i || (among 9 (omega arith) i || (among 10 (omega arith) i || false))))))))

pub passes-told : (w : World) (i : Id) (x : Text) (line : List Id) (b : Bool) → bytes_eq x (codes "new") ≡ true → told_ancestor.ancestors w i ≡ Some line → list_any (told_ancestor.is_among line) classes_without_new ≡ b
    → passes_new w (told_value.module_at i) x ≡ Some b
passes-told w i x line b new above lacks =
    ap (λ t. cond t (lacks_new w (Some i)) (Some false)) new
    ∙ ap (option_map (λ is. list_any (told_ancestor.is_among is) classes_without_new)) above
    ∙ ap Some lacks

-- ---- where the method stands

is_table-self : (p : Place) → is_table p p ≡ true
is_table-self p = (λ i. eq-eqb p.0 p.0 refl i && by p.1 i)
  where
    by : (b : Bool) → bool_eq b b ≡ true
    by true = refl
    by false = refl

pub is_found_in : (methods : Methods) (line : List ModuleLine) (passes : Bool) (x : Name) (c : Chosen) (k : ℕ) → c.running.name ≡ x → slice_get line k ≡ Some c.running.place → option_map (λ p. method_at (tables_in methods) p x.0) (slice_get line k) ≡ Some (Some c.method)
    → option_map (λ p. passes && is_of_classes (place_seen p)) (slice_get line k) ≡ Some false → IsFoundIn methods (places_of line) passes x c
is_found_in methods line passes x c k name place method asked = record {
  name = name;
  there = same_Some _ _ (ap (λ y. Some (method_at (tables_in methods) c.running.place y.0)) name ∙ sym (ap (option_map (λ p. method_at (tables_in methods) p x.0)) place) ∙ method);
  in_line = list_any-map place_seen (is_table (place_seen c.running.place)) line
      ∙ list_any_at (λ p. is_table (place_seen c.running.place) (place_seen p)) line k c.running.place (slice_get_within line k c.running.place place) (ap (λ p. is_table (place_seen c.running.place) (place_seen p)) (get_or_from_slice_get line k c.running.place c.running.place place) ∙ is_table-self (place_seen c.running.place));
  asked = same_Some _ _ (sym (ap (option_map (λ p. passes && is_of_classes (place_seen p))) place) ∙ asked);
}

module _ (h : Held) (methods : Methods) (names : List Text) (receiver : Value) (passes : Bool) (x : Name) (makes : passes ≡ false → is_new names x.0 → Makes h receiver) where
  pub stands_in : (line : List Place) (c : Chosen) → line ≡ line_in h receiver → IsFoundIn methods line passes x c → StandsIn h methods names receiver c
  stands_in line c same found = record {
    there = found.there;
    in_line = subst (λ ps. is_placed ps (place_seen c.running.place) ≡ true) same found.in_line;
    makes = λ of_classes new. makes (by passes (is_of_classes (place_seen c.running.place)) of_classes found.asked) (subst (λ y. is_new names y.0) found.name new);
  }
    where
      by : (a b : Bool) → b ≡ true → (a && b) ≡ false → a ≡ false
      by true b is asked = let y : true ≡ false = sym is ∙ asked in cc
      by false b is asked = refl

  pub all_stand_in : (line : List Place) (o : Option Chosen) → line ≡ line_in h receiver → IfSome o (IsFoundIn methods line passes x) → IfSome o (StandsIn h methods names receiver)
  all_stand_in line None same found = found
  all_stand_in line (Some c) same found = stands_in line c same found
