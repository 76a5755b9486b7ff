-- Calls that may make a name.
use Rattle.std.proofs.Common.{◌≡◌, ℕ, List, [], append-nil, map, slice_get, Option, None, Result, Ok, Err, IfOk, refl, sym, ap, subst, ◌∙◌}
use Rattle.zw_lemmas.proofs.PlaceLemmas.{slice_get-front}
use Rattle.zw_def.specs.Names.{OnlyGrows}
use Rattle.zw_def.specs.Text.{Text}
use Rattle.zw_def_world.specs.Act.{Act}
use Rattle.zw_def_world.specs.Argument.{Arguments}
use Rattle.zw_def_world.specs.Site.{Site, tested}
use Rattle.zw_def_world.specs.World.{World}
use Rattle.zw_fault.specs.declared.raise.Raise.{Raise}
use Rattle.zw_heap.specs.Change.{Change, changed, names_told}
use Rattle.zw_heap.specs.Heap.{Held}
use Rattle.zw_heap.specs.Sound.{Stays}
use Rattle.zw_heap.specs.Telling.{Telling, Fits, Agrees, OnlyAdds, tell}
use Rattle.zw_heap.specs.declared.value.Value.{Value}
use Rattle.zw_calls.specs.End.{AddsValues, Performs, IsDone, end_seen}
use Rattle.zw_calls.specs.Fault.{AreSame, unless_fault}
use Rattle.zw_calls.specs.End.{AddsNamed}
use Rattle.zw_calls.specs.declared.end.PrimEnd.{PrimEnd}
use Rattle.zw_calls.specs.declared.end.PrimEnd.TheVariants as e

-- what tells more names tells fewer
pub fits_fewer : (I : Telling) (old new : List Text) (h : Held) → OnlyGrows old new → Fits I new h → Fits I old h
fits_fewer I old new h grows fit = record {
  names_told = λ n t at. fit.names_told n t (ap (λ ts. slice_get ts n) grows.1 ∙ slice_get-front old grows.0 n t at);
  texts_told = fit.texts_told;
  arrays_told = fit.arrays_told;
  modules_told = fit.modules_told;
  objects_told = fit.objects_told;
}

pub grows_same : (names : List Text) → OnlyGrows names names
grows_same names = ([], sym (append-nil names))

-- ---- what is added

pub adds_values : (h g : Held) → AddsValues h g → AddsNamed h g
adds_values h g a = record {
  adds = a.adds;
  stays = a.stays;
  records = a.records ∙ ap (λ n. record h { names = n; texts = g.texts; arrays = g.arrays }) (sym (ap (λ (k : Held). k.names) a.records));
}

pub names_added : (n : ℕ) (h g : Held) → g ≡ record h { names = n } → ((change : Change) → OnlyAdds h (changed change h)) → Stays h g → AddsNamed h g
names_added n h g told adds stays = record {
  adds = subst (OnlyAdds h) (sym told) (adds (names_told n));
  stays = stays;
  records = subst (λ (k : Held). k ≡ record h { names = k.names; texts = k.texts; arrays = k.arrays }) (sym told) refl;
}

agrees_before : (I : Telling) (w : World) (h g : Held) → AddsNamed h g → Agrees I g w → Agrees I h w
agrees_before I w h g adds agrees = back (subst (λ (k : Held). Agrees I k w) adds.records agrees)
  where
    back : Agrees I (record h { names = g.names; texts = g.texts; arrays = g.arrays }) w → Agrees I h w
    back a = record { modules = a.modules; objects = a.objects }

-- ---- ends

-- where a call has done its work, what was left of it does not matter
pub done-same : (I : Telling) (one other : Act) (end : PrimEnd) → IsDone end → end_seen I one end ≡ end_seen I other end
done-same I one other (e.Value v) done = refl
done-same I one other (e.Raise r) done = refl
done-same I one other e.Budget done = refl
done-same I one other (e.Again prim) done = absurd done

-- a call that is the same act as another one by each telling that fits the heap before
pub all_carried : {E : Type 0} (h g : Held) (old new : List Text) (left later : ℕ) (one other : Site → Telling → Act) → OnlyAdds h g → OnlyGrows old new → ((s : Site) (I : Telling) → Fits I old h → other s I ≡ one s I) → (r : Result PrimEnd E) → IfOk r (Performs one g new left later) → IfOk r (Performs other g new left later)
all_carried h g old new left later one other adds grows same (Err e) performs = performs
all_carried h g old new left later one other adds grows same (Ok end) performs = record {
  told = λ s I p fit agrees e.
      subst (λ (act : Act). act p ≡ end_seen I act end (record p { left = later })) (sym (same s I (fits_fewer I old new h grows (adds I new fit)))) (performs.told s I p fit agrees e);
  held = performs.held;
  done = performs.done;
}

-- a call after the tests of its arguments
module _ (old : List Text) (h : Held) (a : Arguments) (x : Value) (xs : List Value) (raise : Option Raise) (taken : Arguments) (are : taken ≡ a) (found : (act : Act) → AreSame h old (λ I. tested taken (tell I x) (map (tell I) xs) act) (λ I. unless_fault raise act)) (does : Site → Telling → Act) where
  tests : (act : Act) → AreSame h old (λ I. tested a (tell I x) (map (tell I) xs) act) (λ I. unless_fault raise act)
  tests act = subst (λ b. AreSame h old (λ I. tested b (tell I x) (map (tell I) xs) act) (λ I. unless_fault raise act)) are (found act)

  pub passed_named : {E : Type 0} (g : Held) (new : List Text) (left later : ℕ) (r : Result PrimEnd E) → raise ≡ None → AddsNamed h g → OnlyGrows old new → IfOk r (Performs does g new left later) → IfOk r (Performs (λ s I. tested a (tell I x) (map (tell I) xs) (does s I)) g new left later)
  passed_named g new left later (Err e) is adds grows performs = performs
  passed_named g new left later (Ok end) is adds grows performs = record {
    told = λ s I p fit agrees e.
        tests (does s I) I p (fits_fewer I old new h grows (adds.adds I new fit)) (agrees_before I p.world h g adds agrees) ∙ ap (λ o. unless_fault o (does s I) p) is
        ∙ performs.told s I p fit agrees e
        ∙ ap (λ (act : Act). act (record p { left = later })) (done-same I (does s I) (tested a (tell I x) (map (tell I) xs) (does s I)) end performs.done);
    held = performs.held;
    done = performs.done;
  }
