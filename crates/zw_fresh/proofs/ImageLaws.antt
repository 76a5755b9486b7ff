-- An image of boot is as a reload asks for.
use Rattle.std.specs.Prelude.{◌≡◌, false, Option, Some, None}
use Rattle.std.specs.Option.{option_map}
use Rattle.std.proofs.Common.{refl, sym, ap, ◌∙◌, subst}
use Rattle.zw_def.specs.Text.{Text}
use Rattle.zw_def.specs.Tree.{Tree}
use Rattle.zw_def_world.specs.World.{World}
use Rattle.zw_fresh.specs.Renaming.{ren_module, ren_object}
use Rattle.zw_fresh.specs.Alike.{Met}
use Rattle.zw_fresh.specs.Fresh.{raised_by, raised}
use Rattle.zw_fresh.specs.Law.{CameFrom}
use Rattle.zw_fresh.proofs.ReloadLaws.{FromImage}

met_so : {A : Type 0} (g : A → A) (o o' : Option A) → o' ≡ option_map g o → Met false (λ x y. y ≡ g x) o o'
met_so {A} g o o' e = subst (Met false (λ x y. y ≡ g x) o) (sym e) (at o)
  where
    at : (o : Option A) → Met false (λ x y. y ≡ g x) o (option_map g o)
    at None = tt
    at (Some x) = refl

pub from_image : (image w : World) (front front' : Text) {tree : Tree} → CameFrom image w tree → FromImage image w tree front front'
from_image image w front front' C = record {
  first = C.first;
  none = C.none;
  self = record {
    setups = C.first ∙ sym (ap (raised_by w.setups) C.first);
    loads = refl;
    calm_loads = tt;
    counts = λ l. refl;
    tree = refl;
    map = refl;
    setting = refl;
    states = λ p. refl;
    order = C.order;
    modules = λ i. met_so (ren_module (raised w.setups)) _ _ (C.modules i);
    objects = λ i. met_so (ren_object (raised w.setups)) _ _ (C.objects i);
    due = tt;
  };
  later = C.later;
  setting = C.setting;
  told = C.told;
  tells = C.tells;
}
