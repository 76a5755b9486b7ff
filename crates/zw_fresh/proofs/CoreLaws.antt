-- The core classes are there before boot, and no record of a setup is.
use Rattle.std.specs.Prelude.{◌≡◌, ℕ, zero, suc, ◌<◌, ◌≤◌, ◌&&◌, nat_lt, Bool, true, false, List, [], ◌∷◌, is_some, Option, Some, None}
use Rattle.std.proofs.Common.{refl, sym, ap, ◌∙◌, arith, ltb-true, ltb-false}
use Rattle.std.proofs.lemmas.Bool.Decides.{Decides-eqb}
use Rattle.zw_def_world.specs.Id.{Id, boot_id, id_eq, is_of_boot}
use Rattle.zw_def_world.specs.CoreClass.{core_count, main_id, Object_class}
use Rattle.zw_def_world.specs.CoreWorld.{core_modules, records_of, core_world}
use Rattle.zw_def_world.specs.Record.{new_object}
use Rattle.zw_def_world.specs.World.{Setting as WorldSetting}
use Rattle.zw_fresh.specs.Alike.{IsThere}
use Rattle.zw_fresh.specs.Setups.{NoneComing, Past}
use Rattle.zw_fresh.proofs.NameLemmas.{id_eq_is, apart}
use Rattle.zw_fresh.proofs.SetupLaws.{held_none}

-- ---- no setup

both_so : (a b : Bool) → (a && b) ≡ true → (a ≡ true) × (b ≡ true)
both_so true b e = (refl, e)
both_so false b e = absurd (apart (sym e))

-- names of boot
abbrev all_of_boot : {A : Type 0} → List (Id × A) → Bool
all_of_boot [] = true
all_of_boot (r ∷ rs) = is_of_boot r.0 && all_of_boot rs

records_past : {A : Type 0} (rs : List (Id × A)) → all_of_boot rs ≡ true → NoneComing 0 (records_of rs)
records_past [] h j later = refl
records_past (r ∷ rs) h j later =
    let parts = both_so (is_of_boot r.0) (all_of_boot rs) h in
    held_none (id_eq j r.0) (Some r.1) (records_of rs j) (λ e.
    let same = ap (λ i. i.setup) (id_eq_is j r.0 e) in
    let z = (Decides-eqb r.0.setup 0).0 parts.0 in
    absurd (omega (arith, same, z, later))) (records_past rs parts.1 j later)

pub first_setups : (setting : WorldSetting) → (core_world setting).setups ≡ 0
unfolding core_world
first_setups setting = refl

pub world_past : (setting : WorldSetting) → Past (core_world setting)
unfolding core_world
world_past setting = record {
  modules = records_past core_modules refl;
  objects = records_past ((main_id, new_object Object_class) ∷ []) refl;
}

-- ---- core classes

abbrev all_below : ℕ → (ℕ → Bool) → Bool
all_below zero p = true
all_below (suc k) p = p k && all_below k p

below_so : (k : ℕ) (p : ℕ → Bool) → all_below k p ≡ true → (n : ℕ) → nat_lt n k ≡ true → p n ≡ true
below_so zero p h n e = let l = ltb-true n 0 e in absurd (omega (arith, l))
below_so (suc k) p h n e =
    by (nat_lt n k) refl (below_so k p (both_so (p k) (all_below k p) h).1 n)
  where
    same : n < suc k → k ≤ n → n ≡ k
    same l m = omega (arith, l, m)

    by : (b : Bool) → nat_lt n k ≡ b → (nat_lt n k ≡ true → p n ≡ true) → p n ≡ true
    by true f lower = lower f
    by false f lower =
        ap p (same (ltb-true n (suc k) e) (ltb-false n k f)) ∙ (both_so (p k) (all_below k p) h).0

there_so : {A : Type 0} (o : Option A) → is_some o ≡ true → IsThere o
there_so None e = absurd (apart (sym e))
there_so (Some x) e = tt

pub core_there : (setting : WorldSetting) (n : ℕ) → nat_lt n core_count ≡ true
    → IsThere ((core_world setting).modules (boot_id n))
unfolding core_world
core_there setting n e = there_so (records_of core_modules (boot_id n))
    (below_so core_count (λ n. is_some (records_of core_modules (boot_id n))) refl n e)
