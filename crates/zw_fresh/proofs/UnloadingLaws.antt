-- Unloading, in two sessions alike: both write the same, and stay alike.
use Rattle.std.specs.Prelude.{Bool, false, List, [], ◌∷◌, ◌++◌, codes, map as mapped, Option, Some, None}
use Rattle.std.proofs.Common.{refl, sym, ap, subst}
use Rattle.zw_def.specs.Text.{Text}
use Rattle.zw_def.specs.ConstantPath.{constant_path_text}
use Rattle.zw_def.specs.Nesting.{last_name}
use Rattle.zw_def.specs.Map.{Key, key_at}
use Rattle.zw_def_world.specs.Value.{nil}
use Rattle.zw_def_world.specs.Record.{without_constant}
use Rattle.zw_def_world.specs.World.{World, Load, gone_if_idle, without_idle}
use Rattle.zw_def_world.specs.Callback.{Callback, on_unload, callbacks_for}
use Rattle.zw_def_world.specs.Load.{runs_callback}
use Rattle.zw_def_world.specs.Act.{lost, read}
use Rattle.zw_def_world.specs.Evaluation.{run}
use Rattle.zw_def_world.specs.Session.{Session, Phase, evaluates, begin_phase}
use Rattle.zw_def_world.specs.Reload.{unload_callback, with_unload_callbacks, takes_out_of_parent, unload_callbacks, unload_key, unload_keys, with_idle_dropped, unloaded}
use Rattle.zw_fresh.specs.Renaming.{lifted, ren, ren_module, ren_load}
use Rattle.zw_fresh.specs.Alike.{Setting, Worlds}
use Rattle.zw_fresh.specs.Naming.{no_old}
use Rattle.zw_fresh.specs.Sessions.{Sessions}
use Rattle.zw_fresh.proofs.ActLaws.{Alike, ends_alike, both_alike}
use Rattle.zw_fresh.proofs.TableLemmas.{removed-made}
use Rattle.zw_fresh.proofs.KeyLaws.{changing_module_alike}
use Rattle.zw_fresh.proofs.LoadLaws.{logs_line_alike, runs_callback_alike}
use Rattle.zw_fresh.proofs.EvaluationLaws.{evaluates_plainly}
use Rattle.zw_fresh.proofs.SettingUpLaws.{Phases, does_same, with_act_same, end_phase_same}

dropped_worlds : {S : Setting false} {w w' : World} → Worlds false S w w' → Worlds false S (without_idle w) (without_idle w')
dropped_worlds W = record {
  setups = W.setups;
  loads = W.loads;
  calm_loads = tt;
  counts = W.counts;
  tree = W.tree;
  map = W.map;
  setting = W.setting;
  states = λ p. ap gone_if_idle (W.states p);
  order = W.order;
  modules = W.modules;
  objects = W.objects;
  due = tt;
}

takes_out_alike : (S : Setting false) (load : Load)
    → Alike S no_old (takes_out_of_parent load) (takes_out_of_parent (ren_load S.lift load))
takes_out_alike S load = both_alike
    (changing_module_alike load.parent (without_constant (last_name load.key)) (without_constant (last_name load.key))
    (λ m. ap (λ t. record (ren_module S.lift m) { constants = t }) (removed-made (ren S.lift) (last_name load.key) m.constants)) nil)
    (logs_line_alike (codes "unloaded " ++ constant_path_text load.key))

module _ {S : Setting false} {old : Text → Bool} where
  -- ---- the callbacks of a key

  callback_alike : (load : Load) (c : Callback) (s s' : Session) → Sessions S old s s'
      → Alike S no_old (unload_callback load c s) (unload_callback (ren_load S.lift load) c s')
  callback_alike load c s s' P =
      subst (λ keys. Alike S no_old (unload_callback load c s) (read (key_at keys load.key)
      (λ k. runs_callback (evaluates s') k (lifted S.lift load.parent) (last_name load.key) c))) (sym P.world.map)
      (subst (λ settings. Alike S no_old (unload_callback load c s) (read (key_at s.world.map load.key)
      (λ k. runs_callback (run settings.budget 0) k (lifted S.lift load.parent) (last_name load.key) c))) (sym P.settings)
      (at (key_at s.world.map load.key)))
    where
      at : (o : Option Key) → Alike S no_old
          (read o (λ k. runs_callback (evaluates s) k load.parent (last_name load.key) c))
          (read o (λ k. runs_callback (evaluates s) k (lifted S.lift load.parent) (last_name load.key) c))
      at None = ends_alike lost
      at (Some k) = runs_callback_alike (evaluates_plainly S s.settings.budget 0) k load.parent (last_name load.key) c

  callbacks_same : (load : Load) (cs : List Callback) (a b : Phase) → Phases S old a b
      → Phases S old (with_unload_callbacks load cs a) (with_unload_callbacks (ren_load S.lift load) cs b)
  callbacks_same load [] a b P = P
  callbacks_same load (c ∷ cs) a b P = callbacks_same load cs _ _
      (with_act_same (unload_callback load c) (unload_callback (ren_load S.lift load) c) (callback_alike load c) a b P)

  all_callbacks_same : (load : Load) (a b : Phase) → Phases S old a b
      → Phases S old (unload_callbacks load a) (unload_callbacks (ren_load S.lift load) b)
  all_callbacks_same load a b P =
      subst (λ setting. Phases S old (unload_callbacks load a)
      (with_unload_callbacks (ren_load S.lift load) (callbacks_for on_unload load.key setting.callbacks) b))
      (sym P.session.world.setting)
      (callbacks_same load (callbacks_for on_unload load.key a.session.world.setting.callbacks) a b P)

  -- ---- keys

  key_same : (load : Load) (a b : Phase) → Phases S old a b
      → Phases S old (unload_key load a) (unload_key (ren_load S.lift load) b)
  key_same load a b P =
      let C = all_callbacks_same load a b P in
      record {
        session = does_same (takes_out_of_parent load) (takes_out_of_parent (ren_load S.lift load)) (takes_out_alike S load) _ _ C.session;
        steps = C.steps;
      }

  keys_same : (loads : List Load) (a b : Phase) → Phases S old a b
      → Phases S old (unload_keys loads a) (unload_keys (mapped (ren_load S.lift) loads) b)
  keys_same [] a b P = P
  keys_same (l ∷ ls) a b P = keys_same ls _ _ (key_same l a b P)

  dropped_same : (s s' : Session) → Sessions S old s s' → Sessions S old (with_idle_dropped s) (with_idle_dropped s')
  dropped_same s s' P = record {
    plain = P.plain;
    world = dropped_worlds P.world;
    variables = P.variables;
    staged = P.staged;
    image = P.image;
    is_down = P.is_down;
    settings = P.settings;
    out = P.out;
  }

  pub unloaded_same : (s s' : Session) → Sessions S old s s' → Sessions S old (unloaded s) (unloaded s')
  unloaded_same s s' P = end_phase_same _ _
      (subst (λ loads. Phases S old (unload_keys s.world.load_order (begin_phase (with_idle_dropped s)))
      (unload_keys loads (begin_phase (with_idle_dropped s')))) (sym P.world.order)
      (keys_same s.world.load_order (begin_phase (with_idle_dropped s)) (begin_phase (with_idle_dropped s'))
      (record { session = dropped_same s s' P; steps = refl })))
