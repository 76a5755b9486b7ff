-- How each telling tells the core classes and `main`.
use Rattle.std.proofs.Common.{◌≡◌, ℕ, ◌<◌, slice_get, map, Some, None, ap, sym, ◌∙◌}
use Rattle.std.specs.Option.{option_map}
use Rattle.std.proofs.lemmas.Option.{slice_get-map}
use Rattle.zw_def_world.specs.Id.{boot_id}
use Rattle.zw_def_world.specs.CoreClass.{core_count, main_id}
use Rattle.zw_heap.specs.Place.{Place, key_of, at_boot}
use Rattle.zw_heap.specs.ModuleRecord.{Module}
use Rattle.zw_heap.specs.ObjectRecord.{Object}
use Rattle.zw_heap.specs.Heap.{Held}
use Rattle.zw_heap.specs.Telling.{Telling, Fits, id_at, id_of}
use Rattle.zw_heap.specs.Sound.{IsSound}
use Rattle.zw_heap.proofs.ListLemmas.{slice_get-some}
use Rattle.zw_def.specs.Text.{Text}
use Rattle.std.specs.Prelude.{List}

module _ (h : Held) (sound : IsSound h) (I : Telling) (names : List Text) (fit : Fits I names h) where
  boot_told : (count : ℕ) → id_of I h.places (at_boot count) ≡ Some (boot_id count)
  boot_told count =
      let first = slice_get-some key_of (slice_get h.places 0) (0, None) sound.made.boot_place in
      ap (option_map (λ (p : Place). id_at I p count)) first.1 ∙ (λ i. Some (record { setup = (first.2 i).0; load = option_map (map I.name) (first.2 i).1; count = count }))

  pub core_told : (n : ℕ) → n < core_count → I.module_id n ≡ boot_id n
  core_told n lt =
      let told = fit.modules_told n (at_boot n) (sym (slice_get-map (λ (m : Module). m.made) h.modules n) ∙ sound.made.core n lt) in
      let z : Some (boot_id n) ≡ Some (I.module_id n) = sym (boot_told n) ∙ told in
      sym (cc z)

  pub main_told : I.object_id 0 ≡ main_id
  main_told =
      let told = fit.objects_told 0 (at_boot core_count) (sym (slice_get-map (λ (o : Object). o.made) h.objects 0) ∙ sound.made.main) in
      let z : Some main_id ≡ Some (I.object_id 0) = sym (boot_told core_count) ∙ told in
      sym (cc z)
