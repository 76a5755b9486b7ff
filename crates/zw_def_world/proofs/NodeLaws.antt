-- What holds of each change, holds of variables, constants, texts, calls, loops, jumps and `begin`.
use Rattle.std.specs.Prelude.{ℕ, zero, suc, Bool, List, Option, Some, None, [], ◌∷◌}
use Rattle.zw_def.specs.Text.{Text}
use Rattle.zw_def_syntax.specs.Tree.{Tree, Parts, no_parts, text_then, program_then, Trees, Perhaps, absent, present, no_trees, tree_then, Rescues, no_rescues, rescue_then, Branch, no_branch, branch}
use Rattle.zw_def_world.specs.Act.{Act, Flow, gave, skipped, broken, raised, returned, out_of_steps, too_deep, lost}
use Rattle.zw_def_world.specs.Control.{joins, calls_self, calls_on, to_attribute, calls_next, next_with_parameters, opposite, chosen, after_turn, turns, perhaps, leaves_method, named_act, rescue_fault, matches_module, matches, either, matches_one, is_rescued, rescues, otherwise, after_body, ensured, literal}
use Rattle.zw_def_world.specs.Id.{Id}
use Rattle.zw_def_world.specs.Value.{Value, is_true, nil}
use Rattle.zw_def_world.specs.Variable.{self_act, local_act, calls_variable, ident_found, ident_act, ivar_act, to_ivar, in_class_scope, in_scope, no_class_variable, held_by, cvar_act, sets_class_variable, to_cvar, to_constant}
use Rattle.zw_def_world.proofs.CallLaws.{or_nil_keeps, calls_keeps, sets_variable_keeps, row_calls_keeps, calls_super_keeps}
use Rattle.zw_def_world.proofs.EvolutionLaws.{Evolution, Keeps, keeping, paid_keeps, ends_keeps, on_keeps, if_keeps, then_keeps, gives_keeps}
use Rattle.zw_def_world.proofs.FaultLaws.{no_variable_keeps, fails_keeps, unless_frozen_keeps, makes_text_keeps, no_method_keeps, too_long_keeps}
use Rattle.zw_def_world.proofs.LoadLaws.{sets_keeps}
use Rattle.zw_def_world.proofs.RowLaws.{with_text_keeps}

-- ---- variables and constants

pub self_act_keeps : {E : Evolution} {k : Value → Act} (b : (y : Value) → Keeps E (k y)) → Keeps E (self_act k)
self_act_keeps b = search keeping

pub local_act_keeps : {E : Evolution} (x : Text) → Keeps E (local_act x)
local_act_keeps x = search (keeping, or_nil_keeps)

pub calls_variable_keeps : {E : Evolution} {go : Tree → Act} (g : (t : Tree) → Keeps E (go t)) (x : Text) →
    Keeps E (calls_variable go x)
calls_variable_keeps g x = search (keeping, self_act_keeps, calls_keeps, no_variable_keeps)

pub ident_found_keeps : {E : Evolution} {go : Tree → Act} (g : (t : Tree) → Keeps E (go t)) (x : Text)
    (o : Option Value) → Keeps E (ident_found go x o)
ident_found_keeps g x (Some v) = search keeping
ident_found_keeps g x None = search (keeping, calls_variable_keeps)

pub ident_act_keeps : {E : Evolution} {go : Tree → Act} (g : (t : Tree) → Keeps E (go t)) (x : Text) → Keeps E
    (ident_act go x)
ident_act_keeps g x = search (keeping, ident_found_keeps)

pub ivar_act_keeps : {E : Evolution} (x : Text) → Keeps E (ivar_act x)
ivar_act_keeps x = search (keeping, self_act_keeps, or_nil_keeps)

pub to_ivar_keeps : {E : Evolution} (x : Text) (v : Value) → Keeps E (to_ivar x v)
to_ivar_keeps x v = search (keeping, self_act_keeps, sets_variable_keeps)

pub in_class_scope_keeps : {E : Evolution} {k : Id → Act} (b : (y : Id) → Keeps E (k y)) (z : List Id) → Keeps E
    (in_class_scope k z)
in_class_scope_keeps b [] = search (keeping, fails_keeps)
in_class_scope_keeps b (i ∷ is) = search keeping

pub in_scope_keeps : {E : Evolution} {k : Id → Act} (b : (y : Id) → Keeps E (k y)) → Keeps E (in_scope k)
in_scope_keeps b = search (keeping, in_class_scope_keeps)

pub no_class_variable_keeps : {E : Evolution} (x : Text) (i : Id) → Keeps E (no_class_variable x i)
no_class_variable_keeps x i = search (keeping, fails_keeps)

pub held_by_keeps : {E : Evolution} (x : Text) (i : Id) (z : Option Id) → Keeps E (held_by x i z)
held_by_keeps x i None = search (keeping, no_class_variable_keeps)
held_by_keeps x i (Some holder) = search (keeping, or_nil_keeps)

pub cvar_act_keeps : {E : Evolution} (x : Text) → Keeps E (cvar_act x)
cvar_act_keeps x = search (keeping, in_scope_keeps, held_by_keeps)

pub sets_class_variable_keeps : {E : Evolution} (x : Text) (v : Value) (i : Id) → Keeps E
    (sets_class_variable x v i)
sets_class_variable_keeps x v i = search (keeping, unless_frozen_keeps)

pub to_cvar_keeps : {E : Evolution} (x : Text) (v : Value) → Keeps E (to_cvar x v)
to_cvar_keeps x v = search (keeping, in_scope_keeps, sets_class_variable_keeps)

pub to_constant_keeps : {E : Evolution} (n : Text) (v : Value) → Keeps E (to_constant n v)
to_constant_keeps n v = search (keeping, sets_keeps)

-- ---- texts, calls, loops, jumps and `begin`

pub joins_keeps : {E : Evolution} {go : Tree → Act} (g : (t : Tree) → Keeps E (go t)) (z : Parts) (t : Text) →
    Keeps E (joins go z t)
joins_keeps g no_parts t = search (keeping, makes_text_keeps)
joins_keeps {E} {go} g (text_then part parts) t =
    let later : (t : Text) → Keeps E (joins go parts t) = λ t. joins_keeps g parts t in
    search (keeping, later)
joins_keeps {E} {go} g (program_then program parts) t =
    let later : (t : Text) → Keeps E (joins go parts t) = λ t. joins_keeps g parts t in
    search (keeping, with_text_keeps, row_calls_keeps, later)

pub calls_self_keeps : {E : Evolution} {go : Tree → Act} (g : (t : Tree) → Keeps E (go t)) (x : Text)
    (vs : List Value) → Keeps E (calls_self go x vs)
calls_self_keeps g x vs = search (keeping, self_act_keeps, calls_keeps, no_method_keeps)

pub calls_on_keeps : {E : Evolution} {go : Tree → Act} (g : (t : Tree) → Keeps E (go t)) (r : Tree) (x : Text)
    (args : Trees) → Keeps E (calls_on go r x args)
calls_on_keeps g r x args = search (keeping, calls_keeps, no_method_keeps)

pub to_attribute_keeps : {E : Evolution} {go : Tree → Act} (g : (t : Tree) → Keeps E (go t)) (r : Tree)
    (x : Text) (e : Tree) → Keeps E (to_attribute go r x e)
to_attribute_keeps g r x e = search (keeping, calls_keeps, no_method_keeps)

pub calls_next_keeps : {E : Evolution} {go : Tree → Act} (g : (t : Tree) → Keeps E (go t)) (vs : List Value) →
    Keeps E (calls_next go vs)
calls_next_keeps g vs = search (keeping, calls_super_keeps)

pub next_with_parameters_keeps : {E : Evolution} {go : Tree → Act} (g : (t : Tree) → Keeps E (go t)) → Keeps E
    (next_with_parameters go)
next_with_parameters_keeps g = search (keeping, calls_next_keeps)

pub opposite_keeps : {E : Evolution} (v : Value) → Keeps E (opposite v)
opposite_keeps v = search keeping

pub chosen_keeps : {E : Evolution} {m : Act} (a : Keeps E m) {m2 : Act} (a2 : Keeps E m2) (v : Value) → Keeps E
    (chosen m m2 v)
chosen_keeps a a2 v = search keeping

pub after_turn_keeps : {E : Evolution} {m : Act} (a : Keeps E m) (f : Flow) → Keeps E (after_turn m f)
after_turn_keeps a (gave v) = search keeping
after_turn_keeps a skipped = search keeping
after_turn_keeps a broken = search keeping
after_turn_keeps a (raised id) = search keeping
after_turn_keeps a (returned given) = search keeping
after_turn_keeps a out_of_steps = search keeping
after_turn_keeps a too_deep = search keeping
after_turn_keeps a lost = search keeping

pub turns_keeps : {E : Evolution} (n : ℕ) {test body : Act} (a : Keeps E test) (b : Keeps E body) → Keeps E
    (turns n test body)
turns_keeps zero a b = paid_keeps 1 (ends_keeps lost)
turns_keeps (suc n) a b =
    on_keeps a (λ v. if_keeps (is_true v) (then_keeps b (after_turn_keeps (turns_keeps n a b))) (gives_keeps nil))

pub perhaps_keeps : {E : Evolution} {go : Tree → Act} (g : (t : Tree) → Keeps E (go t)) (z : Perhaps)
    {k : Value → Act} (b : (y : Value) → Keeps E (k y)) → Keeps E (perhaps go z k)
perhaps_keeps g absent b = search keeping
perhaps_keeps g (present e) b = search keeping

pub leaves_method_keeps : {E : Evolution} (v : Value) → Keeps E (leaves_method v)
leaves_method_keeps v = search keeping

pub named_act_keeps : {E : Evolution} (z : Option Text) (i : Id) → Keeps E (named_act z i)
named_act_keeps None i = search keeping
named_act_keeps (Some x) i = search keeping

pub rescue_fault_keeps : {E : Evolution} → Keeps E rescue_fault
rescue_fault_keeps = search (keeping, fails_keeps)

pub matches_module_keeps : {E : Evolution} (i : Id) {k : Bool → Act} (b : (y : Bool) → Keeps E (k y))
    (z : Option Id) → Keeps E (matches_module i k z)
matches_module_keeps i b None = search (keeping, rescue_fault_keeps)
matches_module_keeps i b (Some class) = search keeping

pub matches_keeps : {E : Evolution} (i : Id) {k : Bool → Act} (b : (y : Bool) → Keeps E (k y)) (v : Value) →
    Keeps E (matches i k v)
matches_keeps i b v = search (keeping, matches_module_keeps)

pub either_keeps : {E : Evolution} {m : Act} (a : Keeps E m) {m2 : Act} (a2 : Keeps E m2) (t : Bool) → Keeps E
    (either m m2 t)
either_keeps a a2 t = search keeping

pub matches_one_keeps : {E : Evolution} {go : Tree → Act} (g : (t : Tree) → Keeps E (go t)) (i : Id) {m : Act}
    (a : Keeps E m) {m2 : Act} (a2 : Keeps E m2) (ts : Trees) → Keeps E (matches_one go i m m2 ts)
matches_one_keeps g i a a2 no_trees = search keeping
matches_one_keeps {E} {go} g i {m} a {m2} a2 (tree_then t ts) =
    let later : (i : Id) → Keeps E (matches_one go i m m2 ts) = λ i. matches_one_keeps g i a a2 ts in
    search (keeping, matches_keeps, either_keeps, later)

pub is_rescued_keeps : {E : Evolution} {go : Tree → Act} (g : (t : Tree) → Keeps E (go t)) (i : Id) {m : Act}
    (a : Keeps E m) {m2 : Act} (a2 : Keeps E m2) (ts : Trees) → Keeps E (is_rescued go i m m2 ts)
is_rescued_keeps g i a a2 no_trees = search (keeping, matches_module_keeps)
is_rescued_keeps g i a a2 (tree_then t ts) = search (keeping, matches_one_keeps)

pub rescues_keeps : {E : Evolution} {go : Tree → Act} (g : (t : Tree) → Keeps E (go t)) (i : Id) (z : Rescues) →
    Keeps E (rescues go i z)
rescues_keeps g i no_rescues = search keeping
rescues_keeps {E} {go} g i (rescue_then paths variable body clauses) =
    let later : (i : Id) → Keeps E (rescues go i clauses) = λ i. rescues_keeps g i clauses in
    search (keeping, is_rescued_keeps, named_act_keeps, later)

pub otherwise_keeps : {E : Evolution} {go : Tree → Act} (g : (t : Tree) → Keeps E (go t)) (z : Branch)
    (v : Value) → Keeps E (otherwise go z v)
otherwise_keeps g no_branch v = search keeping
otherwise_keeps g (branch body) v = search keeping

pub after_body_keeps : {E : Evolution} {go : Tree → Act} (g : (t : Tree) → Keeps E (go t)) (clauses : Rescues)
    (other : Branch) (f : Flow) → Keeps E (after_body go clauses other f)
after_body_keeps g clauses other (gave v) = search (keeping, otherwise_keeps)
after_body_keeps g clauses other (raised i) = search (keeping, rescues_keeps)
after_body_keeps g clauses other broken = search keeping
after_body_keeps g clauses other skipped = search keeping
after_body_keeps g clauses other (returned given) = search keeping
after_body_keeps g clauses other out_of_steps = search keeping
after_body_keeps g clauses other too_deep = search keeping
after_body_keeps g clauses other lost = search keeping

pub ensured_keeps : {E : Evolution} {go : Tree → Act} (g : (t : Tree) → Keeps E (go t)) (z : Branch) (f : Flow)
    → Keeps E (ensured go z f)
ensured_keeps g no_branch f = search keeping
ensured_keeps g (branch body) f = search keeping

pub literal_keeps : {E : Evolution} (t : Text) → Keeps E (literal t)
literal_keeps t = search (keeping, too_long_keeps)
