-- Keys in a calm setting: where no stated key stands for a name, the same key would be loaded there.
use Rattle.std.specs.Prelude.{◌≡◌, ◌||◌, Bool, true, false, is_some, Option, Some, None, if◌then◌else◌}
use Rattle.std.specs.Option.{option_map_or}
use Rattle.std.proofs.Common.{refl, sym, ap, ◌∙◌}
use Rattle.zw_def.specs.Text.{Text}
use Rattle.zw_def.specs.ConstantPath.{ConstantPath}
use Rattle.zw_def.specs.Map.{Key}
use Rattle.zw_def_world.specs.Table.{at}
use Rattle.zw_def_world.specs.Value.{Value}
use Rattle.zw_def_world.specs.Record.{Module}
use Rattle.zw_def_world.specs.World.{World, State, idle, loading, done, gone, is_idle, key_of}
use Rattle.zw_def_world.specs.LookUp.{if_idle, loadable}
use Rattle.zw_def_world.specs.ModuleRows.{is_defined_in}
use Rattle.zw_fresh.specs.Renaming.{ren}
use Rattle.zw_fresh.specs.Alike.{Setting, Constant, Modules, state_there, shows, Worlds}
use Rattle.zw_fresh.proofs.NameLemmas.{apart}
use Rattle.zw_fresh.proofs.TableLemmas.{at-made, is_some-made}
use Rattle.zw_fresh.proofs.KeyLaws.{key_of_same, loadable_same}

-- a key that is not idle stands there as it does here
stays : (b : Bool) (s : State) → is_idle s ≡ false → state_there b s ≡ s
stays true idle e = absurd (apart e)
stays true loading e = refl
stays true done e = refl
stays true gone e = refl
stays false s e = refl

pub mapped_some : {A : Type 0} (f : A → Bool) (o : Option A) → option_map_or f o false ≡ true → is_some o ≡ true
mapped_some f None e = absurd (apart (sym e))
mapped_some f (Some x) e = refl

pub loadable_not_shown : (S : Setting true) (w w' : World) → Worlds true S w w' → (h : Option ConstantPath) (n : Text)
    → shows true S w h n ≡ false → loadable w' h n ≡ loadable w h n
loadable_not_shown S w w' W h n e = ap (if_idle w') (key_of_same W h n) ∙ at (key_of w h n) e
  where
    by : (k : Key) (s s' : State) → s' ≡ state_there (S.stated k.path) s
        → option_map_or (λ k. S.stated k.path) (if is_idle s then Some k else None) false ≡ false
        → (if is_idle s' then Some k else None) ≡ (if is_idle s then Some k else None)
    by k idle s' g f = ap (λ t. if is_idle t then Some k else None) (g ∙ ap (λ b. state_there b idle) f)
    by k loading s' g f = ap (λ t. if is_idle t then Some k else None) (g ∙ stays (S.stated k.path) loading refl)
    by k done s' g f = ap (λ t. if is_idle t then Some k else None) (g ∙ stays (S.stated k.path) done refl)
    by k gone s' g f = ap (λ t. if is_idle t then Some k else None) (g ∙ stays (S.stated k.path) gone refl)

    at : (o : Option Key) → option_map_or (λ k. S.stated k.path) (if_idle w o) false ≡ false → if_idle w' o ≡ if_idle w o
    at None f = refl
    at (Some k) f = by k (w.states k.path) (w'.states k.path) (W.states k.path) f

-- whether a module has the constant, or would load it
pub defined_same : (calm : Bool) (S : Setting calm) (w w' : World) → Worlds calm S w w' → (n : Text) (m m' : Module)
    → Modules calm S.lift (shows calm S w) m m' → is_defined_in w' n m' ≡ is_defined_in w n m
defined_same true S w w' W n m m' M =
    ap (λ h. is_some (at n m'.constants) || is_some (loadable w' h n)) (ap (λ k. k.home) M.others)
    ∙ by (at n m.constants) (at n m'.constants) (shows true S w m.home n) refl (M.constants n)
  where
    by : (o o' : Option Value) (b : Bool) → shows true S w m.home n ≡ b → Constant b S.lift o o'
        → (is_some o' || is_some (loadable w' m.home n)) ≡ (is_some o || is_some (loadable w m.home n))
    by (Some v) o' b g c = ap (λ z. is_some z || is_some (loadable w' m.home n)) c
    by None o' true g c = ap (λ z. is_some z || is_some (loadable w' m.home n)) c.1
        ∙ sym (mapped_some (λ k. S.stated k.path) (loadable w m.home n) g)
    by None o' false g c = ap (λ z. is_some z || is_some (loadable w' m.home n)) c
        ∙ ap is_some (loadable_not_shown S w w' W m.home n g)
defined_same false S w w' W n m m' e = ap (is_defined_in w' n) e
    ∙ (λ k. (ap is_some (at-made (ren S.lift) n m.constants) ∙ is_some-made (ren S.lift) (at n m.constants)) k
    || is_some (loadable_same W m.home n k))
