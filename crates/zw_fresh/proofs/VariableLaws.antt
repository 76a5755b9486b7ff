-- Variables, tests and loops; constants that are set, where the setting is not calm.
use Rattle.std.specs.Prelude.{◌≡◌, ℕ, zero, suc, Bool, true, false, not, IsFalse, List, [], ◌∷◌, codes, length, nat_lt, is_some, Option, Some, None, if◌then◌else◌}
use Rattle.std.specs.Option.{option_map}
use Rattle.std.proofs.Common.{refl, sym, ap, ◌∙◌, subst}
use Rattle.zw_def.specs.Text.{Text}
use Rattle.zw_def_world.specs.Table.{at}
use Rattle.zw_def_world.specs.Id.{Id}
use Rattle.zw_def_world.specs.Value.{Value, nil, truth, text, module_at, is_true}
use Rattle.zw_def_world.specs.Record.{with_class_variable}
use Rattle.zw_def_world.specs.World.{World, variables_of}
use Rattle.zw_def_world.specs.Frame.{innermost_scope}
use Rattle.zw_def_world.specs.Making.{max_text}
use Rattle.zw_def_world.specs.Call.{or_nil}
use Rattle.zw_def_world.specs.Variable.{self_act, local_act, ivar_act, to_ivar, has_class_variable, holder_among, holder_of, in_class_scope, in_scope, held_by, cvar_act, holder_or, sets_class_variable, to_cvar, to_constant}
use Rattle.zw_def_world.specs.Control.{literal, opposite, chosen, after_turn, turns, is_final}
use Rattle.zw_def_world.specs.Act.{Act, Point, Flow, gave, raised, broken, skipped, returned, out_of_steps, too_deep, lost, gives}
use Rattle.zw_def_world.proofs.EvolutionLaws.{gives_keeps, reading_keeps, then_keeps}
use Rattle.zw_def_world.proofs.FaultLaws.{fails_keeps}
use Rattle.zw_def_world.proofs.CallLaws.{or_nil_keeps, sets_variable_keeps}
use Rattle.zw_def_world.proofs.LoadLaws.{sets_keeps}
use Rattle.zw_def_world.proofs.NodeLaws.{in_class_scope_keeps, held_by_keeps, sets_class_variable_keeps, chosen_keeps, after_turn_keeps}
use Rattle.zw_fresh.specs.Renaming.{Names, lifted, lifted_all, ren, ren_flow}
use Rattle.zw_fresh.specs.Alike.{Setting, module_with, Found, Worlds, IsOver}
use Rattle.zw_fresh.proofs.EndLaws.{Spends, Passes, choose}
use Rattle.zw_fresh.proofs.ActLaws.{Alike, ends_alike, gives_alike, on_alike, then_alike, if_alike, if_same_alike, in_frame_alike, reading_alike, paid_alike}
use Rattle.zw_fresh.proofs.TableLemmas.{assigned-made, at-made, is_some-made}
use Rattle.zw_fresh.proofs.FoundLaws.{some_found, found_bind, found_if, module_map}
use Rattle.zw_fresh.proofs.AncestorLaws.{ancestors_found}
use Rattle.zw_fresh.proofs.TextLaws.{as_it_is, variables_found}
use Rattle.zw_fresh.proofs.FaultLaws.{fails_alike, too_long_alike, unless_frozen_alike}
use Rattle.zw_fresh.proofs.ValueLaws.{truth_same}
use Rattle.zw_fresh.proofs.FrameLaws.{innermost_same, or_nil_alike}
use Rattle.zw_fresh.proofs.ChangeLaws.{in_module_alike, changing_variables_alike}
use Rattle.zw_fresh.proofs.HolderLaws.{sets_variable_alike}
use Rattle.zw_fresh.proofs.LoadLaws.{sets_alike}

-- ---- what stays

pub holder_or_same : (f : Names) (i : Id) (o : Option Id)
    → holder_or (lifted f i) (option_map (lifted f) o) ≡ lifted f (holder_or i o)
holder_or_same f i None = refl
holder_or_same f i (Some j) = refl

pub final_same : (f : Names) (flow : Flow) → is_final (ren_flow f flow) ≡ is_final flow
final_same f (gave v) = refl
final_same f (raised i) = refl
final_same f broken = refl
final_same f skipped = refl
final_same f (returned v) = refl
final_same f out_of_steps = refl
final_same f too_deep = refl
final_same f lost = refl

pub session_same : (f : Names) (b : Bool) (o : Option Value)
    → (if b then option_map (ren f) o else None) ≡ option_map (ren f) (if b then o else None)
session_same f true o = refl
session_same f false o = refl

after_turn_passes : (m : Act) → Passes (after_turn m)
after_turn_passes m = record { same = at }
  where
    at : (f : Flow) (p : Point) → IsOver f → (after_turn m f p).flow ≡ f
    at (gave v) p o = absurd o
    at (raised i) p o = absurd o
    at broken p o = absurd o
    at skipped p o = absurd o
    at (returned v) p o = absurd o
    at out_of_steps p o = refl
    at too_deep p o = refl
    at lost p o = refl

-- ---- class variables

module _ {calm : Bool} {S : Setting calm} {w w' : World} (W : Worlds calm S w w') where
  among_found : (x : Text) (is : List Id) → Found calm (option_map (lifted S.lift)) (holder_among w x is)
      (holder_among w' x (lifted_all S.lift is))
  among_found x [] = some_found None refl
  among_found x (i ∷ is) = found_bind (λ holds. if holds then Some (Some i) else holder_among w x is)
      (λ holds. if holds then Some (Some (lifted S.lift i)) else holder_among w' x (lifted_all S.lift is))
      (has_found i) (λ b. found_if refl (some_found (Some i) refl) (among_found x is))
    where
      has_found : (i : Id) → Found calm as_it_is (has_class_variable w x i) (has_class_variable w' x (lifted S.lift i))
      has_found i = module_map W _ _ i (λ m c.
          ap is_some (at-made (ren S.lift) x m.class_variables) ∙ is_some-made (ren S.lift) (at x m.class_variables))

  holder_found : (x : Text) (i : Id)
      → Found calm (option_map (lifted S.lift)) (holder_of w x i) (holder_of w' x (lifted S.lift i))
  holder_found x i = found_bind _ _ (ancestors_found W i) (among_found x)

-- ---- variables and constants

module _ {calm : Bool} {S : Setting calm} {old : Text → Bool} where
  pub self_alike : {k k' : Value → Act} → ((v : Value) → Alike S old (k v) (k' (ren S.lift v)))
      → ((v : Value) → Spends (k' v)) → Alike S old (self_act k) (self_act k')
  self_alike b l = in_frame_alike (ren S.lift) (λ a c F. F.self_value) b l

  pub local_alike : (x : Text) → IsFalse (old x) → Alike S old (local_act x) (local_act x)
  local_alike x h = in_frame_alike (option_map (ren S.lift)) (λ a b F. F.locals x h) or_nil_alike or_nil_keeps

  pub ivar_alike : (x : Text) → Alike S old (ivar_act x) (ivar_act x)
  ivar_alike x = self_alike (λ v. reading_alike (λ w w' W. variables_found W v) (λ t.
      subst (λ o. Alike S old (or_nil (at x t)) (or_nil o)) (sym (at-made (ren S.lift) x t)) (or_nil_alike (at x t)))
      (λ t. or_nil_keeps (at x t))) (λ v. reading_keeps (λ w. variables_of w v) (λ t. or_nil_keeps (at x t)))

  pub to_ivar_alike : (x : Text) (v : Value) → Alike S old (to_ivar x v) (to_ivar x (ren S.lift v))
  to_ivar_alike x v = self_alike (λ u. sets_variable_alike x v u) (sets_variable_keeps x (ren S.lift v))

  class_scope_alike : {k k' : Id → Act} → ((i : Id) → Alike S old (k i) (k' (lifted S.lift i))) → ((i : Id) → Spends (k' i))
      → Alike S old (in_scope k) (in_scope k')
  class_scope_alike {k} {k'} b l = in_frame_alike (lifted_all S.lift) (λ a c F. F.scopes) at_scope (in_class_scope_keeps l)
    where
      at_scope : (is : List Id) → Alike S old (in_class_scope k is) (in_class_scope k' (lifted_all S.lift is))
      at_scope [] = fails_alike 21 refl (codes "class variable access from toplevel")
      at_scope (i ∷ is) = b i

  held_alike : (x : Text) (i : Id) (o : Option Id)
      → Alike S old (held_by x i o) (held_by x (lifted S.lift i) (option_map (lifted S.lift) o))
  held_alike x i None = in_module_alike i _ _ (λ m c. search fails_alike) (λ m. search fails_keeps)
  held_alike x i (Some holder) = in_module_alike holder _ _ (λ m c.
      subst (λ o. Alike S old (or_nil (at x m.class_variables)) (or_nil o)) (sym (at-made (ren S.lift) x m.class_variables))
      (or_nil_alike (at x m.class_variables))) (λ m. or_nil_keeps (at x m.class_variables))

  pub cvar_alike : (x : Text) → Alike S old (cvar_act x) (cvar_act x)
  cvar_alike x = class_scope_alike (λ i. reading_alike (λ w w' W. holder_found W x i) (held_alike x i)
      (held_by_keeps x (lifted S.lift i))) (λ i. reading_keeps (λ w. holder_of w x i) (held_by_keeps x i))

  sets_cvar_alike : (x : Text) (v : Value) (i : Id)
      → Alike S old (sets_class_variable x v i) (sets_class_variable x (ren S.lift v) (lifted S.lift i))
  sets_cvar_alike x v i = unless_frozen_alike (module_at i) (changing_variables_alike i (with_class_variable x v)
      (with_class_variable x (ren S.lift v)) (record { rest = λ m. refl }) (record { rest = λ m. refl })
      (λ m c. ap (λ t. record (module_with S.lift c m) { class_variables = t })
      (assigned-made (ren S.lift) x v m.class_variables)) v)

  pub to_cvar_alike : (x : Text) (v : Value) → Alike S old (to_cvar x v) (to_cvar x (ren S.lift v))
  to_cvar_alike x v = class_scope_alike (λ i. reading_alike (λ w w' W. holder_found W x i) (λ o.
      subst (λ j. Alike S old (sets_class_variable x v (holder_or i o)) (sets_class_variable x (ren S.lift v) j))
      (sym (holder_or_same S.lift i o)) (sets_cvar_alike x v (holder_or i o)))
      (λ o. sets_class_variable_keeps x (ren S.lift v) (holder_or (lifted S.lift i) o)))
      (λ i. reading_keeps (λ w. holder_of w x i) (λ o. sets_class_variable_keeps x (ren S.lift v) (holder_or i o)))

  pub literal_alike : (t : Text) → Alike S old (literal t) (literal t)
  literal_alike t = if_alike (nat_lt max_text (length t)) too_long_alike (gives_alike (text t))

  pub opposite_alike : (v : Value) → Alike S old (opposite v) (opposite (ren S.lift v))
  opposite_alike v = subst (λ b. Alike S old (opposite v) (gives (truth (not b)))) (sym (truth_same S.lift v))
      (gives_alike (truth (not (is_true v))))

  pub chosen_alike : {m m' n n' : Act} → Alike S old m m' → Alike S old n n' → (v : Value)
      → Alike S old (chosen m n v) (chosen m' n' (ren S.lift v))
  chosen_alike a b v = if_same_alike (truth_same S.lift v) a b

  -- ---- loops

  after_turn_alike : {m m' : Act} → Alike S old m m' → (f : Flow)
      → Alike S old (after_turn m f) (after_turn m' (ren_flow S.lift f))
  after_turn_alike a (gave v) = a
  after_turn_alike a skipped = a
  after_turn_alike a broken = gives_alike nil
  after_turn_alike a (raised i) = ends_alike (raised i)
  after_turn_alike a (returned v) = ends_alike (returned v)
  after_turn_alike a out_of_steps = ends_alike out_of_steps
  after_turn_alike a too_deep = ends_alike too_deep
  after_turn_alike a lost = ends_alike lost

  pub turns_alike : (n : ℕ) {test test' body body' : Act} → Alike S old test test' → Alike S old body body'
      → Alike S old (turns n test body) (turns n test' body')
  turns_alike zero a b = paid_alike 1 (ends_alike lost)
  turns_alike (suc n) a b =
      let later = turns_alike n a b in
      on_alike a (chosen_alike (then_alike (choose calm (after_turn_passes _, after_turn_passes _) tt) b (after_turn_alike later) (after_turn_keeps later.spends)) (gives_alike nil))
      (chosen_keeps (then_keeps b.spends (after_turn_keeps later.spends)) (gives_keeps nil))

-- ---- constants

pub to_constant_alike : {S : Setting false} {old : Text → Bool} (n : Text) (v : Value)
    → Alike S old (to_constant n v) (to_constant n (ren S.lift v))
to_constant_alike {S} {old} n v = in_frame_alike (lifted S.lift)
    (λ a b F. ap innermost_scope F.scopes ∙ innermost_same S a.scopes)
    (λ i. sets_alike i n v) (λ i. sets_keeps i n (ren S.lift v))
