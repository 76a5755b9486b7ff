-- What holds of each change, holds of evaluation: so steps are spent and never made, and what is written stays.
use Rattle.std.specs.Prelude.{ℕ, zero, suc, [], ◌++◌, ◌≤◌, ◌≡◌, ◌+◌, codes}
use Rattle.std.proofs.Common.{ap, sym, ◌∙◌, le_refl, le_trans, arith, append_assoc, append-nil}
use Rattle.zw_def.specs.Text.{Text}
use Rattle.zw_def_syntax.specs.Tree.{Tree, nil_node, true_node, false_node, self_node, int_node, str_node, sym_node, interp_node, array_node, local_node, ident_node, ivar_node, cvar_node, const_node, scoped_node, top_const_node, set_local, set_ivar, set_cvar, set_const, set_scoped, set_attr, call_node, self_call, super_node, zsuper_node, not_node, and_node, or_node, if_node, while_node, break_node, next_node, return_node, seq_node, begin_node, def_node, sdef_node, class_node, module_node}
use Rattle.zw_def_world.specs.Act.{Act, lost, Point}
use Rattle.zw_def_world.specs.Evaluation.{row_of, enters, run}
use Rattle.zw_def_world.specs.ModuleRows.{order}
use Rattle.zw_def_world.proofs.DefinitionLaws.{on_module_or_fault_keeps, defines_keeps, defines_singleton_keeps, base_act_keeps, class_statement_keeps, module_statement_keeps}
use Rattle.zw_def_world.proofs.EvolutionLaws.{Evolution, Keeps, keeping, paid_keeps, ends_keeps}
use Rattle.zw_def_world.proofs.FaultLaws.{makes_array_keeps}
use Rattle.zw_def_world.proofs.LoadLaws.{unscoped_keeps, scoped_keeps, resolves_keeps, sets_keeps}
use Rattle.zw_def_world.proofs.NodeLaws.{self_act_keeps, literal_keeps, joins_keeps, local_act_keeps, ident_act_keeps, ivar_act_keeps, cvar_act_keeps, to_ivar_keeps, to_cvar_keeps, to_constant_keeps, to_attribute_keeps, calls_on_keeps, calls_self_keeps, calls_next_keeps, next_with_parameters_keeps, chosen_keeps, turns_keeps, perhaps_keeps, after_body_keeps, ensured_keeps}

-- ---- nodes

pub row_of_keeps : {E : Evolution} (n : ℕ) {go : Tree → Act} (g : (t : Tree) → Keeps E (go t)) (z : Tree) →
    Keeps E (row_of n go z)
row_of_keeps n g nil_node = search keeping
row_of_keeps n g true_node = search keeping
row_of_keeps n g false_node = search keeping
row_of_keeps n g self_node = search (keeping, self_act_keeps)
row_of_keeps n g (int_node z) = search keeping
row_of_keeps n g (str_node t) = search (keeping, literal_keeps)
row_of_keeps n g (sym_node t) = search keeping
row_of_keeps n g (interp_node parts) = search (keeping, joins_keeps)
row_of_keeps n g (array_node items) = search (keeping, makes_array_keeps)
row_of_keeps n g (local_node x) = search (keeping, local_act_keeps)
row_of_keeps n g (ident_node x) = search (keeping, ident_act_keeps)
row_of_keeps n g (ivar_node x) = search (keeping, ivar_act_keeps)
row_of_keeps n g (cvar_node x) = search (keeping, cvar_act_keeps)
row_of_keeps n g (const_node c) = search (keeping, unscoped_keeps)
row_of_keeps n g (scoped_node e c) = search (keeping, on_module_or_fault_keeps, scoped_keeps)
row_of_keeps n g (top_const_node c) = search (keeping, resolves_keeps)
row_of_keeps n g (set_local x e) = search keeping
row_of_keeps n g (set_ivar x e) = search (keeping, to_ivar_keeps)
row_of_keeps n g (set_cvar x e) = search (keeping, to_cvar_keeps)
row_of_keeps n g (set_const c e) = search (keeping, to_constant_keeps)
row_of_keeps n g (set_scoped b c e) = search (keeping, on_module_or_fault_keeps, sets_keeps)
row_of_keeps n g (set_attr r x e) = search (keeping, to_attribute_keeps)
row_of_keeps n g (call_node r x args) = search (keeping, calls_on_keeps)
row_of_keeps n g (self_call x args) = search (keeping, calls_self_keeps)
row_of_keeps n g (super_node args) = search (keeping, calls_next_keeps)
row_of_keeps n g zsuper_node = search (keeping, next_with_parameters_keeps)
row_of_keeps n g (not_node e) = search keeping
row_of_keeps n g (and_node a b) = search (keeping, chosen_keeps)
row_of_keeps n g (or_node a b) = search (keeping, chosen_keeps)
row_of_keeps n g (if_node order c a b) = search (keeping, chosen_keeps)
row_of_keeps n g (while_node order c body) = search (keeping, turns_keeps)
row_of_keeps n g break_node = search keeping
row_of_keeps n g next_node = search keeping
row_of_keeps n g (return_node e) = search (keeping, perhaps_keeps)
row_of_keeps n g (seq_node list) = search keeping
row_of_keeps n g (begin_node body clauses other last) = search (keeping, after_body_keeps, ensured_keeps)
row_of_keeps n g (def_node x required optional body) = search (keeping, defines_keeps)
row_of_keeps n g (sdef_node x required optional body) = search (keeping, defines_singleton_keeps)
row_of_keeps n g (class_node base c superclass body) = search (keeping, base_act_keeps, class_statement_keeps)
row_of_keeps n g (module_node base c body) = search (keeping, base_act_keeps, module_statement_keeps)

pub enters_keeps : {E : Evolution} (level : ℕ) {m : Act} (a : Keeps E m) → Keeps E (enters level m)
enters_keeps level a = search keeping

pub run_keeps : {E : Evolution} (n level : ℕ) (node : Tree) → Keeps E (run n level node)
unfolding run
run_keeps zero level node = paid_keeps 1 (ends_keeps lost)
run_keeps (suc n) level node = paid_keeps 1 (enters_keeps level (row_of_keeps n (run_keeps n (level + 1)) node))

-- ---- steps

-- fewer steps are left, or as many
abbrev pub IsLess : Point → Point → Type 0
IsLess p q = q.left ≤ p.left

abbrev pub spending_evolves : Evolution
spending_evolves = record {
  relation = IsLess;
  none = λ p. le_refl p.left;
  both = λ p q r a b. le_trans b a;
  module_changed = λ p i g. le_refl p.left;
  object_changed = λ p i g. le_refl p.left;
  object_made = λ p o. le_refl p.left;
  module_made = λ p i n m. le_refl p.left;
  state_set = λ p q s. le_refl p.left;
  load_begun = λ p q. le_refl p.left;
  load_entered = λ p q. le_refl p.left;
  load_left = λ p. le_refl p.left;
  load_settled = λ p q i. le_refl p.left;
  load_taken_back = λ p q. le_refl p.left;
  met = λ p h n. le_refl p.left;
  in_other_frame = λ p f. le_refl p.left;
  spent = λ p n. omega arith;
  written = λ p t. le_refl p.left;
}

-- evaluation makes no steps
pub run_spends : (n level : ℕ) (node : Tree) (p : Point) → (run n level node p).at.left ≤ p.left
run_spends n level node p =
    let keeps : Keeps spending_evolves (run n level node) = run_keeps n level node in
    keeps.kept p

-- ---- what is written

-- what is written is a beginning of what is written later
abbrev pub IsMore : Point → Point → Type 0
IsMore p q = (o : Text) × (q.out ≡ p.out ++ o)

pub no_more : (t : Text) → (o : Text) × (t ≡ t ++ o)
no_more t = ([], sym (append-nil t))

abbrev pub writing_evolves : Evolution
writing_evolves = record {
  relation = IsMore;
  none = λ p. no_more p.out;
  both = λ p q r a b. (a.0 ++ b.0, b.1 ∙ ap (λ t. t ++ b.0) a.1 ∙ append_assoc p.out a.0 b.0);
  module_changed = λ p i g. no_more p.out;
  object_changed = λ p i g. no_more p.out;
  object_made = λ p o. no_more p.out;
  module_made = λ p i n m. no_more p.out;
  state_set = λ p q s. no_more p.out;
  load_begun = λ p q. no_more p.out;
  load_entered = λ p q. no_more p.out;
  load_left = λ p. no_more p.out;
  load_settled = λ p q i. no_more p.out;
  load_taken_back = λ p q. no_more p.out;
  met = λ p h n. no_more p.out;
  in_other_frame = λ p f. no_more p.out;
  spent = λ p n. no_more p.out;
  written = λ p t. (t ++ codes "\n", append_assoc p.out t (codes "\n"));
}

-- evaluation only adds lines
pub run_grows : (n level : ℕ) (node : Tree) (p : Point) → IsMore p (run n level node p).at
run_grows n level node p =
    let keeps : Keeps writing_evolves (run n level node) = run_keeps n level node in
    keeps.kept p
