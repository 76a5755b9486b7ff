-- Calls after the tests of their arguments.
use Rattle.std.proofs.Common.{◌≡◌, ℕ, List, map, Option, Some, None, Result, Ok, Err, IfOk, refl, ap, subst, ◌∙◌}
use Rattle.zw_def.specs.Text.{Text}
use Rattle.zw_def_world.specs.Act.{Act, Point}
use Rattle.zw_def_world.specs.Argument.{Arguments}
use Rattle.zw_def_world.specs.Site.{Site, tested}
use Rattle.zw_def_world.specs.World.{World}
use Rattle.zw_fault.specs.declared.raise.Raise.{Raise}
use Rattle.zw_heap.specs.Heap.{Held}
use Rattle.zw_heap.specs.Telling.{Telling, Agrees, tell}
use Rattle.zw_heap.specs.declared.value.Value.{Value}
use Rattle.zw_calls.specs.End.{Performs, AddsValues, IsDone, end_seen}
use Rattle.zw_calls.specs.Fault.{AreSame, fault_seen, unless_fault}
use Rattle.zw_calls.specs.declared.end.PrimEnd.{PrimEnd}
use Rattle.zw_calls.specs.declared.end.PrimEnd.TheVariants as e

-- texts and arrays are in no world
pub agrees_before : (I : Telling) (w : World) (h g : Held) → AddsValues h g → Agrees I g w → Agrees I h w
agrees_before I w h g adds agrees = back (subst (λ (k : Held). Agrees I k w) adds.records agrees)
  where
    back : Agrees I (record h { texts = g.texts; arrays = g.arrays }) w → Agrees I h w
    back a = record { modules = a.modules; objects = a.objects }

-- what is added, and then more
pub adds_both : (h g k : Held) → AddsValues h g → AddsValues g k → AddsValues h k
adds_both h g k a b = record {
  adds = λ I names fit. a.adds I names (b.adds I names fit);
  stays = λ x held. b.stays x (a.stays x held);
  records = b.records ∙ ap (λ (x : Held). record x { texts = k.texts; arrays = k.arrays }) a.records;
}

module _ (names : List Text) (h : Held) (a : Arguments) (x : Value) (xs : List Value) (raise : Option Raise) (taken : Arguments) (are : taken ≡ a) (found : (act : Act) → AreSame h names (λ I. tested taken (tell I x) (map (tell I) xs) act) (λ I. unless_fault raise act)) (does : Site → Telling → Act) where
  tests : (act : Act) → AreSame h names (λ I. tested a (tell I x) (map (tell I) xs) act) (λ I. unless_fault raise act)
  tests act = subst (λ b. AreSame h names (λ I. tested b (tell I x) (map (tell I) xs) act) (λ I. unless_fault raise act)) are (found act)

  pub refused : (left : ℕ) (r : Raise) → raise ≡ Some r → Performs (λ s I. tested a (tell I x) (map (tell I) xs) (does s I)) h names left left (e.Raise r)
  refused left r is = record {
    told = λ s I p fit agrees e.
        tests (does s I) I p fit agrees ∙ ap (λ o. unless_fault o (does s I) p) is
        ∙ ap (λ n. fault_seen r (record p { left = n })) e;
    held = tt;
    done = tt;
  }

  pub passed : {E : Type 0} (g : Held) (left later : ℕ) (r : Result PrimEnd E) → raise ≡ None → AddsValues h g → IfOk r (Performs does g names left later) → IfOk r (Performs (λ s I. tested a (tell I x) (map (tell I) xs) (does s I)) g names left later)
  passed g left later (Err e) is adds performs = performs
  passed g left later (Ok end) is adds performs = record {
    told = λ s I p fit agrees e.
        tests (does s I) I p (adds.adds I names fit) (agrees_before I p.world h g adds agrees) ∙ ap (λ o. unless_fault o (does s I) p) is
        ∙ performs.told s I p fit agrees e ∙ ends_as s I p end performs.done;
    held = performs.held;
    done = performs.done;
  }
    where
      ends_as : (s : Site) (I : Telling) (p : Point) (end : PrimEnd) → IsDone end → end_seen I (does s I) end (record p { left = later }) ≡ end_seen I (tested a (tell I x) (map (tell I) xs) (does s I)) end (record p { left = later })
      ends_as s I p (e.Value v) done = refl
      ends_as s I p (e.Raise r) done = refl
      ends_as s I p e.Budget done = refl
      ends_as s I p (e.Again prim) done = absurd done
