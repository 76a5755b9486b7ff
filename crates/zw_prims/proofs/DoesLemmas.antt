-- Calls of which one may keep a message, after the tests of their arguments.
use Rattle.std.proofs.Common.{◌≡◌, ℕ, List, map, Option, Some, None, Result, Ok, Err, IfOk, sym, ap, subst, ◌∙◌}
use Rattle.zw_def.specs.Text.{Text}
use Rattle.zw_def_world.specs.Act.{Act}
use Rattle.zw_def_world.specs.Argument.{Arguments}
use Rattle.zw_def_world.specs.Site.{Site, tested}
use Rattle.zw_def_world.specs.World.{World}
use Rattle.zw_fault.specs.declared.raise.Raise.{Raise}
use Rattle.zw_heap.specs.Heap.{Held}
use Rattle.zw_heap.specs.Telling.{Telling, Agrees, OnlyAdds, tell}
use Rattle.zw_heap.specs.declared.value.Value.{Value}
use Rattle.zw_calls.specs.End.{Performs, AddsValues, AddsNamed}
use Rattle.zw_calls.specs.Fault.{AreSame, unless_fault}
use Rattle.zw_calls.specs.declared.end.PrimEnd.{PrimEnd}
use Rattle.zw_calls.specs.declared.end.PrimEnd.TheVariants as e
use Rattle.zw_calls.proofs.CallLemmas.{refused}
use Rattle.zw_prims.specs.Does.{Does}
use Rattle.zw_prims.specs.Passes.{Pass}
use Rattle.zw_prims.proofs.EndLemmas.{adds_none, done-same}

-- ---- what is added is in no world

pub adds_named : (h g : Held) → AddsValues h g → AddsNamed h g
adds_named h g a = record {
  adds = a.adds;
  stays = a.stays;
  records = a.records ∙ ap (λ n. record h { names = n; texts = g.texts; arrays = g.arrays }) (sym (ap (λ (k : Held). k.names) a.records));
}

pub names_same : (h g : Held) → AddsValues h g → g.names ≡ h.names
names_same h g a = ap (λ (k : Held). k.names) a.records

agrees_after : (I : Telling) (w : World) (h g : Held) → AddsNamed h g → Agrees I h w → Agrees I g w
agrees_after I w h g adds agrees = subst (λ (k : Held). Agrees I k w) (sym adds.records) forth
  where
    forth : Agrees I (record h { names = g.names; texts = g.texts; arrays = g.arrays }) w
    forth = record { modules = agrees.modules; objects = agrees.objects }

-- ---- calls that keep nothing

module _ (call : Site → Telling → Act) (h g : Held) (names : List Text) (left later : ℕ) (adds : AddsNamed h g) where
  pub does_perform : (end : PrimEnd) → Performs call g names left later end → Does call h g names left later end
  does_perform end performs = record {
    kept = None;
    told = λ s I p fit agrees is. performs.told s I p fit (agrees_after I p.world h g adds agrees) is;
    agrees = λ I w fit agrees. agrees_after I w h g adds agrees;
    records = adds.records;
    held = performs.held;
    done = performs.done;
  }

  pub all_perform : {E : Type 0} (r : Result PrimEnd E) → IfOk r (Performs call g names left later) → IfOk r (Does call h g names left later)
  all_perform (Ok end) performs = does_perform end performs
  all_perform (Err err) performs = performs

-- ---- calls after the tests of their arguments

module _ (names : List Text) (h : Held) (a : Arguments) (x : Value) (xs : List Value) (raise : Option Raise) (taken : Arguments) (are : taken ≡ a) (found : (act : Act) → AreSame h names (λ I. tested taken (tell I x) (map (tell I) xs) act) (λ I. unless_fault raise act)) where
  pub passes : raise ≡ None → Pass h names a x xs
  passes is act = subst (λ b. AreSame h names (λ I. tested b (tell I x) (map (tell I) xs) act) (λ I. act)) are (λ I p fit agrees. found act I p fit agrees ∙ ap (λ o. unless_fault o act p) is)

  module _ (does : Site → Telling → Act) where
    abbrev behind : Site → Telling → Act
    behind s I = tested a (tell I x) (map (tell I) xs) (does s I)

    pub does_refused : (left : ℕ) (r : Raise) → raise ≡ Some r → Does behind h h names left left (e.Raise r)
    does_refused left r is =
        does_perform behind h h names left left (adds_named h h (adds_none h)) (e.Raise r) (refused names h a x xs raise taken are found does left r is)

    pub does_passed : {E : Type 0} (g : Held) (left later : ℕ) (r : Result PrimEnd E) → raise ≡ None → OnlyAdds h g → IfOk r (Does does h g names left later) → IfOk r (Does behind h g names left later)
    does_passed g left later (Err err) is adds done = done
    does_passed g left later (Ok end) is adds d = record {
      kept = d.kept;
      told = λ s I p fit agrees e.
          passes is (does s I) I p (adds I names fit) agrees
          ∙ d.told s I p fit agrees e ∙ done-same I (does s I) (behind s I) end d.done _;
      agrees = d.agrees;
      records = d.records;
      held = d.held;
      done = d.done;
    }
