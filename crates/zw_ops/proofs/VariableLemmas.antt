-- Class variables of lines of modules, by the records that a heap has.
use Rattle.std.proofs.Common.{◌≡◌, Bool, ℕ, ◌+◌, ◌<◌, List, cond, drop, get_or, length, map, nat_eq, slice_get, Option, Some, None, is_some, refl, ap, ◌∙◌}
use Rattle.std.specs.Map.{lookup}
use Rattle.std.specs.Option.{option_map}
use Rattle.std.proofs.lemmas.List.{drop_more}
use Rattle.zw_consts.specs.Ancestor.{numbers_of}
use Rattle.zw_def_world.specs.Missing.{bind}
use Rattle.zw_def_world.specs.Record as told
use Rattle.zw_def_world.specs.Table.{at}
use Rattle.zw_def_world.specs.Variable.{has_class_variable, holder_among}
use Rattle.zw_def_world.specs.World.{World}
use Rattle.zw_heap.specs.Heap.{Held}
use Rattle.zw_heap.specs.ModuleRecord.{Module}
use Rattle.zw_heap.specs.Telling.{Telling, Agrees, tell}
use Rattle.zw_heap.specs.declared.value.ModuleId.{ModuleId}
use Rattle.zw_heap.specs.declared.value.Value.{Value}
use Rattle.zw_told.proofs.TableLemmas.{at-told}

module _ (I : Telling) (h : Held) (w : World) (agrees : Agrees I h w) where
  some-told : (o : Option Value) → is_some (option_map (tell I) o) ≡ is_some o
  some-told None = refl
  some-told (Some x) = refl

  pub holds-told : (n x : ℕ) (found : Option Value) → option_map (λ m. lookup (nat_eq x) m.class_variables) (slice_get h.modules n) ≡ Some found
      → has_class_variable w (I.name x) (I.module_id n) ≡ Some (is_some found)
  holds-told n x found is = by (slice_get h.modules n) refl is
    where
      by : (o : Option Module) → slice_get h.modules n ≡ o → option_map (λ m. lookup (nat_eq x) m.class_variables) o ≡ Some found → has_class_variable w (I.name x) (I.module_id n) ≡ Some (is_some found)
      by None there one = absurd (cc)
      by (Some m) there one =
          let record_there = agrees.modules n m there in
          let same : lookup (nat_eq x) m.class_variables ≡ found = cc in
          ap (option_map (λ (y : told.Module). is_some (at (I.name x) y.class_variables))) record_there.1
          ∙ ap (λ t. Some (is_some (at (I.name x) t))) record_there.2.class_variables
          ∙ ap (λ o. Some (is_some o)) (at-told I.name I.names_differ (tell I) x m.class_variables)
          ∙ ap Some (some-told (lookup (nat_eq x) m.class_variables))
          ∙ ap (λ o. Some (is_some o)) same

  pub holder-first : (line : List ModuleId) (i : ℕ) (d : ModuleId) (x : ℕ) (found : Option Value) (b : Bool) → i < length line → option_map (λ m. lookup (nat_eq x) m.class_variables) (slice_get h.modules (get_or line i d).0) ≡ Some found → is_some found ≡ b
      → holder_among w (I.name x) (map I.module_id (numbers_of (drop i line))) ≡ cond b (Some (Some (I.module_id (get_or line i d).0))) (holder_among w (I.name x) (map I.module_id (numbers_of (drop (i + 1) line))))
  holder-first line i d x found b lt is holds =
      ap (λ l. holder_among w (I.name x) (map I.module_id (numbers_of l))) (drop_more line i d lt)
      ∙ ap (λ o. bind o (λ yes_or. cond yes_or (Some (Some (I.module_id (get_or line i d).0))) (holder_among w (I.name x) (map I.module_id (numbers_of (drop (i + 1) line)))))) (holds-told (get_or line i d).0 x found is ∙ ap Some holds)
