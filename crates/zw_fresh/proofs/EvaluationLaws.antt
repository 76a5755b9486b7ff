-- Evaluation keeps points alike: one induction, for any setting.
use Rattle.std.specs.Prelude.{◌≡◌, ℕ, zero, suc, ◌+◌, ◌==◌, Bool, true, false, []}
use Rattle.std.proofs.Common.{refl, sym}
use Rattle.zw_def.specs.Text.{Text}
use Rattle.zw_def_syntax.specs.Tree.{Tree, nil_node, true_node, false_node, self_node, int_node, str_node, sym_node, interp_node, array_node, local_node, ident_node, ivar_node, cvar_node, const_node, scoped_node, top_const_node, set_local, set_ivar, set_cvar, set_const, set_scoped, set_attr, call_node, self_call, super_node, zsuper_node, not_node, and_node, or_node, if_node, while_node, break_node, next_node, return_node, seq_node, begin_node, def_node, sdef_node, class_node, module_node}
use Rattle.zw_def_world.specs.Value.{nil, truth, int, symbol}
use Rattle.zw_def_world.specs.Making.{makes_array}
use Rattle.zw_def_world.specs.Load.{scoped, sets}
use Rattle.zw_def_world.specs.Control.{calls_self, calls_next}
use Rattle.zw_def_world.specs.Act.{Act, returned, broken, skipped, too_deep, lost}
use Rattle.zw_def_world.specs.Evaluation.{row_of, max_level, run}
use Rattle.zw_def_world.proofs.EvolutionLaws.{gives_keeps, on_keeps, statements_keep}
use Rattle.zw_def_world.proofs.EvaluationLaws.{run_keeps}
use Rattle.zw_def_world.proofs.FaultLaws.{makes_array_keeps}
use Rattle.zw_def_world.proofs.CallLaws.{sets_local_keeps}
use Rattle.zw_def_world.proofs.LoadLaws.{scoped_keeps, sets_keeps}
use Rattle.zw_def_world.proofs.NodeLaws.{to_ivar_keeps, to_cvar_keeps, to_constant_keeps, calls_self_keeps, calls_next_keeps, opposite_keeps, chosen_keeps, leaves_method_keeps, after_body_keeps, ensured_keeps}
use Rattle.zw_def_world.proofs.DefinitionLaws.{on_module_or_fault_keeps, class_statement_keeps, module_statement_keeps}
use Rattle.zw_fresh.specs.Renaming.{ren}
use Rattle.zw_fresh.specs.CalmCode.{Plain}
use Rattle.zw_fresh.specs.Alike.{Setting}
use Rattle.zw_fresh.specs.Calm.{Handed}
use Rattle.zw_fresh.proofs.NameLemmas.{apart}
use Rattle.zw_fresh.proofs.PlainLaws.{always_plain, world_plain}
use Rattle.zw_fresh.specs.Naming.{NamesNone}
use Rattle.zw_fresh.proofs.EndLaws.{choose}
use Rattle.zw_fresh.proofs.ActLaws.{Alike, ends_alike, gives_alike, on_alike, then_alike, if_alike, paid_alike}
use Rattle.zw_fresh.proofs.FaultLaws.{makes_array_alike, on_module_alike}
use Rattle.zw_fresh.proofs.FrameLaws.{sets_local_alike}
use Rattle.zw_fresh.proofs.CallLaws.{Evaluates, statements_alike}
use Rattle.zw_fresh.proofs.ModuleRowLaws.{rows_alike}
use Rattle.zw_fresh.proofs.LoadLaws.{sets_alike}
use Rattle.zw_fresh.proofs.LookUpLaws.{unscoped_alike, scoped_alike, top_alike}
use Rattle.zw_fresh.proofs.DefinitionLaws.{defines_alike, defines_singleton_alike, base_alike, class_statement_alike, module_statement_alike}
use Rattle.zw_fresh.proofs.VariableLaws.{self_alike, local_alike, ivar_alike, to_ivar_alike, cvar_alike, to_cvar_alike, to_constant_alike, literal_alike, opposite_alike, chosen_alike, turns_alike}
use Rattle.zw_fresh.proofs.ControlLaws.{values_alike, perhaps_alike, joins_alike, ident_alike, calls_self_alike, calls_on_alike, to_attribute_alike, calls_next_alike, next_with_parameters_alike, after_body_alike, after_body_passes, ensured_alike, ensured_passes}

-- ---- nodes that set constants or define methods, classes or modules

abbrev is_defining : Tree → Bool
is_defining (set_const c e) = true
is_defining (set_scoped b c e) = true
is_defining (def_node x required optional body) = true
is_defining (sdef_node x required optional body) = true
is_defining (class_node base c superclass body) = true
is_defining (module_node base c body) = true
is_defining t = false

never_plain : (t : Tree) → is_defining t ≡ true → Plain true t → ⊥
never_plain (set_const c e) d g = g
never_plain (set_scoped b c e) d g = g
never_plain (def_node x required optional body) d g = g
never_plain (sdef_node x required optional body) d g = g
never_plain (class_node base c superclass body) d g = g
never_plain (module_node base c body) d g = g
never_plain t d g = apart (sym d)

module _ {S : Setting false} (n : ℕ) {go : Tree → Act} (E : Evaluates S go) (old : Text → Bool) where
  plainly_alike : (t : Tree) → is_defining t ≡ true → NamesNone old t → Alike S old (row_of n go t) (row_of n go t)
  plainly_alike (set_const c e) d h = on_alike (E.alike old e h (always_plain e)) (to_constant_alike c) (to_constant_keeps c)
  plainly_alike (set_scoped b c e) d h = on_alike (E.alike old b h.0 (always_plain b)) (λ base. on_alike (E.alike old e h.1 (always_plain e))
      (λ v. on_module_alike (λ i. sets i c v) (λ i. sets i c (ren S.lift v)) (λ i. sets_alike i c v) base)
      (λ v. on_module_or_fault_keeps (λ i. sets_keeps i c v) (ren S.lift base)))
      (λ base. on_keeps (E.spends e) (λ v. on_module_or_fault_keeps (λ i. sets_keeps i c v) base))
  plainly_alike (def_node x required optional body) d h = defines_alike x required optional body
  plainly_alike (sdef_node x required optional body) d h = defines_singleton_alike x required optional body
  plainly_alike (class_node base c superclass body) d h = base_alike E base h.0
      (class_statement_alike E c superclass h.1 body) (class_statement_keeps E.spends c superclass body)
  plainly_alike (module_node base c body) d h = base_alike E base h (module_statement_alike E c body)
      (module_statement_keeps E.spends c body)
  plainly_alike t d h = absurd (apart (sym d))

-- a calm setting has none of them
defining_alike : (calm : Bool) (S : Setting calm) (n : ℕ) {go : Tree → Act} → Evaluates S go → (old : Text → Bool) (t : Tree)
    → is_defining t ≡ true → NamesNone old t → Plain calm t → Alike S old (row_of n go t) (row_of n go t)
defining_alike true S n E old t d h g = absurd (never_plain t d g)
defining_alike false S n E old t d h g = plainly_alike n E old t d h

-- ---- all nodes

module _ {calm : Bool} {S : Setting calm} (n : ℕ) {go : Tree → Act} (E : Evaluates S go) (old : Text → Bool) where
  row_of_alike : (t : Tree) → NamesNone old t → Plain calm t → Alike S old (row_of n go t) (row_of n go t)
  row_of_alike nil_node h g = gives_alike nil
  row_of_alike true_node h g = gives_alike (truth true)
  row_of_alike false_node h g = gives_alike (truth false)
  row_of_alike self_node h g = self_alike gives_alike gives_keeps
  row_of_alike (int_node z) h g = gives_alike (int z)
  row_of_alike (str_node t) h g = literal_alike t
  row_of_alike (sym_node t) h g = gives_alike (symbol t)
  row_of_alike (interp_node parts) h g = joins_alike E (rows_alike S) parts h g []
  row_of_alike (array_node items) h g = values_alike E items h g makes_array makes_array makes_array_alike makes_array_keeps
  row_of_alike (local_node x) h g = local_alike x h
  row_of_alike (ident_node x) h g = ident_alike E (rows_alike S) x h g
  row_of_alike (ivar_node x) h g = ivar_alike x
  row_of_alike (cvar_node x) h g = cvar_alike x
  row_of_alike (const_node c) h g = unscoped_alike E c
  row_of_alike (scoped_node e c) h g = on_alike (E.alike old e h g) (on_module_alike (scoped go c) (scoped go c) (scoped_alike E c))
      (on_module_or_fault_keeps (scoped_keeps E.spends c))
  row_of_alike (top_const_node c) h g = top_alike E c
  row_of_alike (set_local x e) h g = on_alike (E.alike old e h.1 g) (sets_local_alike x) (sets_local_keeps x)
  row_of_alike (set_ivar x e) h g = on_alike (E.alike old e h g) (to_ivar_alike x) (to_ivar_keeps x)
  row_of_alike (set_cvar x e) h g = on_alike (E.alike old e h g) (to_cvar_alike x) (to_cvar_keeps x)
  row_of_alike (set_const c e) h g = defining_alike calm S n E old (set_const c e) refl h g
  row_of_alike (set_scoped b c e) h g = defining_alike calm S n E old (set_scoped b c e) refl h g
  row_of_alike (set_attr r x e) h g = to_attribute_alike E (rows_alike S) r x e h g
  row_of_alike (call_node r x args) h g = calls_on_alike E (rows_alike S) r x args h g
  row_of_alike (self_call x args) h g = values_alike E args h g.0 (calls_self go x) (calls_self go x)
      (calls_self_alike E (rows_alike S) x g.1) (calls_self_keeps E.spends x)
  row_of_alike (super_node args) h g = values_alike E args h g (calls_next go) (calls_next go)
      (calls_next_alike E (rows_alike S)) (calls_next_keeps E.spends)
  row_of_alike zsuper_node h g = next_with_parameters_alike E (rows_alike S)
  row_of_alike (not_node e) h g = on_alike (E.alike old e h g) opposite_alike opposite_keeps
  row_of_alike (and_node a b) h g = on_alike (E.alike old a h.0 g.0) (λ v. chosen_alike (E.alike old b h.1 g.1) (gives_alike v) v)
      (λ v. chosen_keeps (E.spends b) (gives_keeps v) v)
  row_of_alike (or_node a b) h g = on_alike (E.alike old a h.0 g.0) (λ v. chosen_alike (gives_alike v) (E.alike old b h.1 g.1) v)
      (λ v. chosen_keeps (gives_keeps v) (E.spends b) v)
  row_of_alike (if_node order c a b) h g = on_alike (E.alike old c h.0 g.0)
      (chosen_alike (statements_alike E old a h.1 g.1) (statements_alike E old b h.2 g.2))
      (chosen_keeps (statements_keep E.spends a) (statements_keep E.spends b))
  row_of_alike (while_node order c body) h g = turns_alike n (E.alike old c h.0 g.0) (statements_alike E old body h.1 g.1)
  row_of_alike break_node h g = ends_alike broken
  row_of_alike next_node h g = ends_alike skipped
  row_of_alike (return_node e) h g = perhaps_alike E e h g (λ v. ends_alike (returned v)) leaves_method_keeps
  row_of_alike (seq_node list) h g = statements_alike E old list h g
  row_of_alike (begin_node body clauses other last) h g =
      then_alike (choose calm (ensured_passes go last, ensured_passes go last) tt)
      (then_alike (choose calm (after_body_passes go clauses other, after_body_passes go clauses other) tt)
      (statements_alike E old body h.0 g.0) (after_body_alike E clauses h.1 g.1 other h.2 g.2)
      (after_body_keeps E.spends clauses other)) (ensured_alike E last h.3 g.3) (ensured_keeps E.spends last)
  row_of_alike (def_node x required optional body) h g = defining_alike calm S n E old (def_node x required optional body) refl h g
  row_of_alike (sdef_node x required optional body) h g = defining_alike calm S n E old (sdef_node x required optional body) refl h g
  row_of_alike (class_node base c superclass body) h g = defining_alike calm S n E old (class_node base c superclass body) refl h g
  row_of_alike (module_node base c body) h g = defining_alike calm S n E old (module_node base c body) refl h g

-- ---- evaluation

module _ {calm : Bool} {S : Setting calm} (H : Handed S) where
  -- what is known of the programs, with what is handed in
  evaluates_by : (n level : ℕ)
      → ((old : Text → Bool) (t : Tree) → NamesNone old t → Plain calm t → Alike S old (run n level t) (run n level t))
      → Evaluates S (run n level)
  evaluates_by n level alike = record {
    alike = alike;
    grows = run_keeps n level;
    spends = run_keeps n level;
    plain = H.plain;
    loads = H.loads n level (λ old t h g. (alike old t h g).acts);
  }

  run_alike : (n level : ℕ) (old : Text → Bool) (t : Tree) → NamesNone old t → Plain calm t
      → Alike S old (run n level t) (run n level t)
  unfolding run
  run_alike zero level old t h g = paid_alike 1 (ends_alike lost)
  run_alike (suc n) level old t h g = paid_alike 1 (if_alike (level == max_level) (ends_alike too_deep)
      (row_of_alike n (evaluates_by n (level + 1) (run_alike n (level + 1))) old t h g))

  pub run_evaluates : (n level : ℕ) → Evaluates S (run n level)
  run_evaluates n level = evaluates_by n level (run_alike n level)

-- a setting that is not calm needs nothing
pub none_handed : (S : Setting false) → Handed S
none_handed S = record { plain = λ w w' W. world_plain w; loads = λ n level e. tt }

pub evaluates_plainly : (S : Setting false) (n level : ℕ) → Evaluates S (run n level)
evaluates_plainly S n level = run_evaluates (none_handed S) n level
