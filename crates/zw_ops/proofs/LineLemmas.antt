-- Lines of numbers are told as those of each world that agrees with the stores.
use Rattle.std.proofs.Common.{◌≡◌, ◌&&◌, Bool, true, false, not, suc, List, [], ◌∷◌, cond, filter, length, map, nat_eq, refl, ap, sym, ◌∙◌}
use Rattle.zw_def_world.specs.CoreClass.{Class}
use Rattle.zw_def_world.specs.MethodLine as told
use Rattle.zw_heap.specs.Telling.{Telling}
use Rattle.zw_told.proofs.NameLemmas.{module_told}
use Rattle.zw_methods.specs.Line.{Place, place_seen, places_of, told_place}
use Rattle.zw_methods.specs.declared.method.ModuleLine.{ModuleLine}
use Rattle.zw_ops.specs.Line.{is_table, is_of_classes}

module _ (I : Telling) where
  -- two places are one table where they are told as one
  pub same_place-told : (p q : Place) → told.same_place (told_place I p) (told_place I q) ≡ is_table p q
  same_place-told p q = ap (λ b. cond (told.bool_eq p.1 q.1) b false) (module_told I p.0 q.0) ∙ by (told.bool_eq p.1 q.1) (nat_eq p.0 q.0)
    where
      by : (a b : Bool) → cond a b false ≡ (b && a)
      by true true = refl
      by true false = refl
      by false true = refl
      by false false = refl

  pub of_classes-told : (p : Place) → I.module_id Class.count ≡ Class → told.same_place (told_place I p) (told.of_instances Class) ≡ is_of_classes p
  of_classes-told p class =
      ap (λ i. told.same_place (told_place I p) (told.of_instances i)) (sym class) ∙ same_place-told p (Class.count, false) ∙ by p.1 (nat_eq p.0 Class.count)
    where
      by : (a b : Bool) → (b && told.bool_eq a false) ≡ (not a && b)
      by true true = refl
      by true false = refl
      by false true = refl
      by false false = refl

  -- as many tables are equal before it
  pub equal-told : (table : ModuleLine) (line : List ModuleLine) →
      length (filter (told.same_place (told_place I (place_seen table))) (map (told_place I) (places_of line))) ≡ length (filter (λ p. is_table (place_seen table) (place_seen p)) line)
  equal-told table [] = refl
  equal-told table (p ∷ line) =
      ap (λ b. length (cond b (told_place I (place_seen p) ∷ filter (told.same_place (told_place I (place_seen table))) (map (told_place I) (places_of line))) (filter (told.same_place (told_place I (place_seen table))) (map (told_place I) (places_of line))))) (same_place-told (place_seen table) (place_seen p))
      ∙ by (equal-told table line) (is_table (place_seen table) (place_seen p))
    where
      by : length (filter (told.same_place (told_place I (place_seen table))) (map (told_place I) (places_of line))) ≡ length (filter (λ p. is_table (place_seen table) (place_seen p)) line)
          → (b : Bool) → length (cond b (told_place I (place_seen p) ∷ filter (told.same_place (told_place I (place_seen table))) (map (told_place I) (places_of line))) (filter (told.same_place (told_place I (place_seen table))) (map (told_place I) (places_of line)))) ≡ length (cond b (p ∷ filter (λ p. is_table (place_seen table) (place_seen p)) line) (filter (λ p. is_table (place_seen table) (place_seen p)) line))
      by earlier true = ap suc earlier
      by earlier false = earlier
