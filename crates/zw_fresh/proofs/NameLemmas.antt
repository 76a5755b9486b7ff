-- Names of modules and objects, of loads and of keys are the same where the tests say so.
use Rattle.std.specs.Prelude.{◌≡◌, ◌&&◌, ◌==◌, Bool, true, false, [], Option, Some, None}
use Rattle.std.specs.Bool.{Decides}
use Rattle.std.proofs.Common.{refl, sym, ap, ◌∙◌}
use Rattle.std.proofs.lemmas.Slice.Eq.{bytes_eq-Decides, slice_eq-Decides}
use Rattle.std.proofs.lemmas.Bool.Decides.{Decides-eqb}
use Rattle.zw_def.specs.ConstantPath.{ConstantPath}
use Rattle.zw_def.specs.Nesting.{same_names}
use Rattle.zw_def_world.specs.Id.{Id, id_eq, same_load}

pub names_decide : (p q : ConstantPath) → Decides (same_names p q) (p ≡ q)
names_decide p q = slice_eq-Decides bytes_eq-Decides p q (same_names p q) refl

abbrev is_some_load : Option ConstantPath → Bool
is_some_load None = false
is_some_load (Some p) = true

abbrev load_in : Option ConstantPath → ConstantPath
load_in None = []
load_in (Some p) = p

pub apart : true ≡ false → ⊥
apart e = cc

pub loads_decide : (l m : Option ConstantPath) → Decides (same_load l m) (l ≡ m)
loads_decide None None = (λ e. refl, λ e. refl)
loads_decide None (Some q) = (λ e. absurd (apart (sym e)), λ e. absurd (apart (sym (ap is_some_load e))))
loads_decide (Some p) None = (λ e. absurd (apart (sym e)), λ e. absurd (apart (ap is_some_load e)))
loads_decide (Some p) (Some q) = (λ e. ap Some ((names_decide p q).0 e), λ e. (names_decide p q).1 (ap load_in e))

both_true : (a b c : Bool) → (a && b && c) ≡ true → (a ≡ true) × (b ≡ true) × (c ≡ true)
both_true true true c e = (refl, refl, e)
both_true true false c e = absurd (apart (sym e))
both_true false b c e = absurd (apart (sym e))

pub id_eq_is : (i j : Id) → id_eq i j ≡ true → i ≡ j
id_eq_is i j e =
    let t = both_true (i.count == j.count) (i.setup == j.setup) (same_load i.load j.load) e in
    λ k. record {
      setup = (Decides-eqb i.setup j.setup).0 t.1 k;
      load = (loads_decide i.load j.load).0 t.2 k;
      count = (Decides-eqb i.count j.count).0 t.0 k;
    }

all_true : (a b c : Bool) → a ≡ true → b ≡ true → c ≡ true → (a && b && c) ≡ true
all_true a b c e f g = ap (λ x. x && b && c) e ∙ (ap (λ x. x && c) f ∙ g)

pub id_eq_self : (i : Id) → id_eq i i ≡ true
id_eq_self i = all_true (i.count == i.count) (i.setup == i.setup) (same_load i.load i.load)
    ((Decides-eqb i.count i.count).1 refl) ((Decides-eqb i.setup i.setup).1 refl) ((loads_decide i.load i.load).1 refl)

pub ids_decide : (i j : Id) → Decides (id_eq i j) (i ≡ j)
ids_decide i j = (id_eq_is i j, λ e. ap (λ k. id_eq i k) (sym e) ∙ id_eq_self i)
