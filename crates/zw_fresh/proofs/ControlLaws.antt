-- Calls, texts, jumps and `begin` keep points alike.
use Rattle.std.specs.Prelude.{◌≡◌, Bool, IsFalse, List, [], ◌∷◌, ◌++◌, codes, Option, Some, None, if◌then◌else◌}
use Rattle.std.specs.Option.{option_map}
use Rattle.std.proofs.Common.{refl, sym, ◌∙◌, subst}
use Rattle.zw_def.specs.Text.{Text}
use Rattle.zw_def_syntax.specs.Tree.{Tree, Trees, Perhaps, Branch, Parts, Rescues, no_trees, tree_then, absent, present, no_branch, branch, no_parts, text_then, program_then, no_rescues, rescue_then}
use Rattle.zw_def_world.specs.Table.{at}
use Rattle.zw_def_world.specs.Id.{Id}
use Rattle.zw_def_world.specs.CoreClass.{StandardError}
use Rattle.zw_def_world.specs.Value.{Value, nil, truth, int, text, symbol, array, module_at, object_at}
use Rattle.zw_def_world.specs.Call.{calls, unwritten, Written, calls_super}
use Rattle.zw_def_world.specs.Fault.{no_method}
use Rattle.zw_def_world.specs.Variable.{ident_found, ident_act}
use Rattle.zw_def_world.specs.Control.{joins, written_as, calls_on, calls_self, to_attribute, calls_next, next_with_parameters, perhaps, named_act, rescue_fault, matches_module, matches, either, matches_one, is_rescued, rescues, otherwise, after_body, ensured}
use Rattle.zw_def_world.specs.Act.{Act, Point, Flow, gave, raised, broken, skipped, returned, out_of_steps, too_deep, lost, values_of}
use Rattle.zw_def_world.proofs.EvolutionLaws.{gives_keeps, both_keep, values_keep, on_keeps}
use Rattle.zw_def_world.proofs.FaultLaws.{no_method_keeps, no_variable_keeps}
use Rattle.zw_def_world.proofs.RowLaws.{with_text_keeps}
use Rattle.zw_def_world.proofs.CallLaws.{calls_keeps, calls_super_keeps, row_calls_keeps}
use Rattle.zw_def_world.proofs.NodeLaws.{ident_found_keeps, calls_next_keeps, joins_keeps, matches_keeps, either_keeps}
use Rattle.zw_fresh.specs.Renaming.{lifted, lifted_object, ren, ren_flow}
use Rattle.zw_fresh.specs.CalmCode.{PlainName, Plain, AllPlain, PerhapsPlain, BranchPlain, PartsPlain, RescuesPlain}
use Rattle.zw_fresh.specs.Alike.{Setting, IsOver}
use Rattle.zw_fresh.specs.Naming.{NamesNone, AllNameNone, PerhapsNamesNone, BranchNamesNone, PartsNameNone, RescuesNameNone}
use Rattle.zw_fresh.proofs.EndLaws.{Spends, Passes}
use Rattle.zw_fresh.proofs.ActLaws.{Alike, ends_alike, gives_alike, both_alike, on_alike, if_alike, if_same_alike, in_frame_alike, reading_alike}
use Rattle.zw_fresh.proofs.MethodLaws.{is_kind_found}
use Rattle.zw_fresh.proofs.FaultLaws.{ren_list, fails_alike, makes_text_alike, no_method_alike, no_variable_alike}
use Rattle.zw_fresh.proofs.SiteLaws.{CallAlike, with_text_alike}
use Rattle.zw_fresh.proofs.FrameLaws.{parameters_same, sets_local_alike, with_frame_alike}
use Rattle.zw_fresh.proofs.CallLaws.{Evaluates, RowsAlike, statements_alike, row_calls_alike, calls_alike, calls_super_alike}
use Rattle.zw_fresh.proofs.LookUpLaws.{scoped_alike}
use Rattle.zw_fresh.proofs.VariableLaws.{final_same, session_same, self_alike}

-- ---- what keeps an end that is no answer

pub after_body_passes : (go : Tree → Act) (clauses : Rescues) (other : Branch) → Passes (after_body go clauses other)
after_body_passes go clauses other = record { same = at }
  where
    at : (f : Flow) (p : Point) → IsOver f → (after_body go clauses other f p).flow ≡ f
    at (gave v) p o = absurd o
    at (raised i) p o = absurd o
    at broken p o = absurd o
    at skipped p o = absurd o
    at (returned v) p o = absurd o
    at out_of_steps p o = refl
    at too_deep p o = refl
    at lost p o = refl

pub ensured_passes : (go : Tree → Act) (b : Branch) → Passes (ensured go b)
ensured_passes go no_branch = record { same = λ f p o. refl }
ensured_passes go (branch body) = record { same = at }
  where
    at : (f : Flow) (p : Point) → IsOver f → (ensured go (branch body) f p).flow ≡ f
    at (gave v) p o = absurd o
    at (raised i) p o = absurd o
    at broken p o = absurd o
    at skipped p o = absurd o
    at (returned v) p o = absurd o
    at out_of_steps p o = refl
    at too_deep p o = refl
    at lost p o = refl

-- ---- nodes with parts

module _ {calm : Bool} {S : Setting calm} {go : Tree → Act} (E : Evaluates S go) {old : Text → Bool} where
  pub values_alike : (ts : Trees) → AllNameNone old ts → AllPlain calm ts → (k k' : List Value → Act)
      → ((vs : List Value) → Alike S old (k vs) (k' (ren_list S.lift vs))) → ((vs : List Value) → Spends (k' vs))
      → Alike S old (values_of go ts k) (values_of go ts k')
  values_alike no_trees h g k k' b l = b []
  values_alike (tree_then t ts) h g k k' b l = on_alike (E.alike old t h.0 g.0)
      (λ v. values_alike ts h.1 g.1 (λ vs. k (v ∷ vs)) (λ vs. k' (ren S.lift v ∷ vs)) (λ vs. b (v ∷ vs))
      (λ vs. l (ren S.lift v ∷ vs))) (λ v. values_keep E.spends ts (λ vs. l (v ∷ vs)))

  pub perhaps_alike : (e : Perhaps) → PerhapsNamesNone old e → PerhapsPlain calm e → {k k' : Value → Act}
      → ((v : Value) → Alike S old (k v) (k' (ren S.lift v))) → ((v : Value) → Spends (k' v))
      → Alike S old (perhaps go e k) (perhaps go e k')
  perhaps_alike absent h g b l = b nil
  perhaps_alike (present e) h g b l = on_alike (E.alike old e h g) b l

  -- ---- calls

  module _ (rows : RowsAlike S) where
    pub joins_alike : (parts : Parts) → PartsNameNone old parts → PartsPlain calm parts → (t : Text)
        → Alike S old (joins go parts t) (joins go parts t)
    joins_alike no_parts h g t = makes_text_alike t
    joins_alike (text_then part parts) h g t = joins_alike parts h g (t ++ part)
    joins_alike (program_then program parts) h g t = on_alike (statements_alike E old program h.0 g.0)
        (λ v. with_text_alike (row_calls_alike E rows (scoped_alike E)) v (λ part. joins_alike parts h.1 g.1 (t ++ part))
        (λ part. joins_keeps E.spends parts (t ++ part)))
        (λ v. with_text_keeps (row_calls_keeps E.spends) v (λ part. joins_keeps E.spends parts (t ++ part)))

    call_alike : (how : Written) → CallAlike S old (calls go how no_method)
    call_alike how = calls_alike E rows (scoped_alike E) how no_method_alike no_method_keeps

    pub ident_alike : (x : Text) → IsFalse (old x) → PlainName calm x → Alike S old (ident_act go x) (ident_act go x)
    ident_alike x h g = in_frame_alike (option_map (ren S.lift))
        (λ a b F. (λ k. if F.is_console k then F.locals x h k else None) ∙ session_same S.lift a.is_console (at x a.locals)) found_alike' (ident_found_keeps E.spends x)
      where
        found_alike' : (o : Option Value) → Alike S old (ident_found go x o) (ident_found go x (option_map (ren S.lift) o))
        found_alike' (Some v) = gives_alike v
        found_alike' None = self_alike (λ v. calls_alike E rows (scoped_alike E) unwritten no_variable_alike no_variable_keeps v x [] g)
            (λ v. calls_keeps E.spends unwritten no_variable_keeps v x [])

    pub calls_self_alike : (x : Text) → PlainName calm x → (vs : List Value)
        → Alike S old (calls_self go x vs) (calls_self go x (ren_list S.lift vs))
    calls_self_alike x g vs = self_alike (λ v. call_alike unwritten v x vs g)
        (λ v. calls_keeps E.spends unwritten no_method_keeps v x (ren_list S.lift vs))

    pub calls_on_alike : (r : Tree) (x : Text) (args : Trees) → NamesNone old r × AllNameNone old args
        → Plain calm r × AllPlain calm args × PlainName calm x → Alike S old (calls_on go r x args) (calls_on go r x args)
    calls_on_alike r x args h g = on_alike (E.alike old r h.0 g.0)
        (λ v. values_alike args h.1 g.1 (calls go (written_as r) no_method v x) (calls go (written_as r) no_method (ren S.lift v) x)
        (λ vs. call_alike (written_as r) v x vs g.2) (calls_keeps E.spends (written_as r) no_method_keeps (ren S.lift v) x))
        (λ v. values_keep E.spends args (calls_keeps E.spends (written_as r) no_method_keeps v x))

    pub to_attribute_alike : (r : Tree) (x : Text) (e : Tree) → NamesNone old r × NamesNone old e
        → Plain calm r × Plain calm e × PlainName calm (x ++ codes "=")
        → Alike S old (to_attribute go r x e) (to_attribute go r x e)
    to_attribute_alike r x e h g = on_alike (E.alike old r h.0 g.0) (λ v. on_alike (E.alike old e h.1 g.1)
        (λ u. both_alike (call_alike (written_as r) v (x ++ codes "=") (u ∷ []) g.2) (gives_alike u))
        (λ u. both_keep (calls_keeps E.spends (written_as r) no_method_keeps (ren S.lift v) (x ++ codes "=") (u ∷ [])) (gives_keeps u)))
        (λ v. on_keeps (E.spends e)
        (λ u. both_keep (calls_keeps E.spends (written_as r) no_method_keeps v (x ++ codes "=") (u ∷ [])) (gives_keeps u)))

    pub calls_next_alike : (vs : List Value) → Alike S old (calls_next go vs) (calls_next go (ren_list S.lift vs))
    calls_next_alike vs = with_frame_alike (λ a b F h.
        subst (λ v. Alike S old (calls_super go a.self_value vs a.running) (calls_super go v (ren_list S.lift vs) b.running))
        (sym F.self_value)
        (subst (λ r. Alike S old (calls_super go a.self_value vs a.running) (calls_super go (ren S.lift a.self_value) (ren_list S.lift vs) r))
        (sym F.running) (calls_super_alike E rows (scoped_alike E) a.self_value vs a.running h)))
        (λ a. calls_super_keeps E.grows a.self_value vs a.running)
        (λ b. calls_super_keeps E.spends b.self_value (ren_list S.lift vs) b.running)

    pub next_with_parameters_alike : Alike S old (next_with_parameters go) (next_with_parameters go)
    next_with_parameters_alike = in_frame_alike (ren_list S.lift) (parameters_same S.lift old) calls_next_alike
        (calls_next_keeps E.spends)

  -- ---- begin

  named_alike : (x : Option Text) (i : Id) → Alike S old (named_act x i) (named_act x (lifted_object S.lift i))
  named_alike None i = gives_alike nil
  named_alike (Some x) i = sets_local_alike x (object_at i)

  rescue_fault_alike : Alike S old rescue_fault rescue_fault
  rescue_fault_alike = fails_alike 22 refl (codes "class or module required for rescue clause")

  module _ (i : Id) (k k' : Bool → Act) (b : (t : Bool) → Alike S old (k t) (k' t)) where
    kind_alike : (class : Id) → Alike S old (matches_module i k (Some class))
        (matches_module (lifted_object S.lift i) k' (Some (lifted S.lift class)))
    kind_alike class = reading_alike (λ w w' W. is_kind_found W (object_at i) class) b (λ t. (b t).spends)

    matches_alike : (v : Value) → Alike S old (matches i k v) (matches (lifted_object S.lift i) k' (ren S.lift v))
    matches_alike nil = rescue_fault_alike
    matches_alike (truth bit) = rescue_fault_alike
    matches_alike (int z) = rescue_fault_alike
    matches_alike (text t) = rescue_fault_alike
    matches_alike (symbol t) = rescue_fault_alike
    matches_alike (array vs) = rescue_fault_alike
    matches_alike (module_at class) = kind_alike class
    matches_alike (object_at j) = rescue_fault_alike

  either_alike : {m m' n n' : Act} → Alike S old m m' → Alike S old n n' → (t : Bool)
      → Alike S old (either m n t) (either m' n' t)
  either_alike a b t = if_alike t a b

  matches_one_alike : (i : Id) {m m' n n' : Act} → Alike S old m m' → Alike S old n n' → (ts : Trees) → AllNameNone old ts
      → AllPlain calm ts → Alike S old (matches_one go i m n ts) (matches_one go (lifted_object S.lift i) m' n' ts)
  matches_one_alike i a b no_trees h g = b
  matches_one_alike i {m} {m'} {n} {n'} a b (tree_then t ts) h g =
      let later = matches_one_alike i a b ts h.1 g.1 in
      on_alike (E.alike old t h.0 g.0) (matches_alike i _ _ (either_alike a later))
      (matches_keeps (lifted_object S.lift i) (either_keeps a.spends later.spends))

  is_rescued_alike : (i : Id) {m m' n n' : Act} → Alike S old m m' → Alike S old n n' → (ts : Trees) → AllNameNone old ts
      → AllPlain calm ts → Alike S old (is_rescued go i m n ts) (is_rescued go (lifted_object S.lift i) m' n' ts)
  is_rescued_alike i {m} {m'} {n} {n'} a b no_trees h g =
      subst (λ c. Alike S old (is_rescued go i m n no_trees) (matches_module (lifted_object S.lift i) (either m' n') (Some c)))
      (S.core_stays 14 refl) (kind_alike i (either m n) (either m' n') (either_alike a b) StandardError)
  is_rescued_alike i a b (tree_then t ts) h g = matches_one_alike i a b (tree_then t ts) h g

  rescues_alike : (i : Id) (r : Rescues) → RescuesNameNone old r → RescuesPlain calm r
      → Alike S old (rescues go i r) (rescues go (lifted_object S.lift i) r)
  rescues_alike i no_rescues h g = ends_alike (raised i)
  rescues_alike i (rescue_then paths variable body clauses) h g =
      is_rescued_alike i (both_alike (named_alike variable i) (statements_alike E old body h.2 g.1))
      (rescues_alike i clauses h.3 g.2) paths h.0 g.0

  otherwise_alike : (b : Branch) → BranchNamesNone old b → BranchPlain calm b → (v : Value)
      → Alike S old (otherwise go b v) (otherwise go b (ren S.lift v))
  otherwise_alike no_branch h g v = gives_alike v
  otherwise_alike (branch body) h g v = statements_alike E old body h g

  pub after_body_alike : (clauses : Rescues) → RescuesNameNone old clauses → RescuesPlain calm clauses → (other : Branch)
      → BranchNamesNone old other → BranchPlain calm other → (f : Flow) → Alike S old (after_body go clauses other f) (after_body go clauses other (ren_flow S.lift f))
  after_body_alike clauses h c other g d (gave v) = otherwise_alike other g d v
  after_body_alike clauses h c other g d (raised i) = rescues_alike i clauses h c
  after_body_alike clauses h c other g d broken = ends_alike broken
  after_body_alike clauses h c other g d skipped = ends_alike skipped
  after_body_alike clauses h c other g d (returned v) = ends_alike (returned v)
  after_body_alike clauses h c other g d out_of_steps = ends_alike out_of_steps
  after_body_alike clauses h c other g d too_deep = ends_alike too_deep
  after_body_alike clauses h c other g d lost = ends_alike lost

  pub ensured_alike : (b : Branch) → BranchNamesNone old b → BranchPlain calm b → (f : Flow)
      → Alike S old (ensured go b f) (ensured go b (ren_flow S.lift f))
  ensured_alike no_branch h g f = ends_alike f
  ensured_alike (branch body) h g f = if_same_alike (final_same S.lift f) (ends_alike f)
      (both_alike (statements_alike E old body h g) (ends_alike f))
