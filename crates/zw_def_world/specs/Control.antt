-- Texts with interpolations, calls, loops, jumps and `begin` (ISO/IEC 30170, 8.7.6.3, 11.3 and 11.5.2).
use Rattle.std.specs.Prelude.{ℕ, zero, suc, Bool, true, false, not, List, [], ◌∷◌, ◌++◌, codes, length, nat_lt, Option, Some, None, if◌then◌else◌}
use Rattle.std.specs.Option.{unwrap_or}
use Rattle.zw_def.specs.Text.{Text}
use Rattle.zw_def_syntax.specs.Tree.{Tree, Trees, Perhaps, Branch, Parts, Rescues, self_node, no_trees, tree_then, absent, present, no_branch, branch, no_parts, text_then, program_then, no_rescues, rescue_then}
use Rattle.zw_def_world.specs.Table.{Table, at}
use Rattle.zw_def_world.specs.Id.{Id}
use Rattle.zw_def_world.specs.CoreClass.{StandardError, TypeError}
use Rattle.zw_def_world.specs.Value.{Value, nil, truth, text, object_at, as_module, is_true}
use Rattle.zw_def_world.specs.MethodLine.{is_kind_of}
use Rattle.zw_def_world.specs.Making.{fails, makes_text, too_long, max_text}
use Rattle.zw_def_world.specs.Fault.{no_method}
use Rattle.zw_def_world.specs.TextOfValue.{with_text}
use Rattle.zw_def_world.specs.Call.{Written, unwritten, written_self, written_other, calls, row_calls, calls_super, sets_local}
use Rattle.zw_def_world.specs.Variable.{self_act}
use Rattle.zw_def_world.specs.Act.{Act, Flow, gave, raised, broken, skipped, returned, out_of_steps, too_deep, lost, ends, gives, ◌>>>◌, ◌>>=◌, ◌>>◌, reading, in_frame, paid, statements, values_of}

-- ---- texts

abbrev pub joins : (Tree → Act) → Parts → Text → Act
joins go no_parts t = makes_text t
joins go (text_then part parts) t = joins go parts (t ++ part)
joins go (program_then program parts) t =
    statements go program >>= (λ v. with_text (row_calls go) v (λ part. joins go parts (t ++ part)))

-- ---- calls

abbrev pub written_as : Tree → Written
written_as self_node = written_self
written_as t = written_other

abbrev pub calls_self : (Tree → Act) → Text → List Value → Act
calls_self go x vs = self_act (λ v. calls go unwritten no_method v x vs)

abbrev pub calls_on : (Tree → Act) → Tree → Text → Trees → Act
calls_on go r x args = go r >>= (λ v. values_of go args (λ vs. calls go (written_as r) no_method v x vs))

abbrev pub to_attribute : (Tree → Act) → Tree → Text → Tree → Act
to_attribute go r x e =
    go r >>= (λ v. go e >>= (λ u. calls go (written_as r) no_method v (x ++ codes "=") (u ∷ []) >> gives u))

abbrev pub calls_next : (Tree → Act) → List Value → Act
calls_next go vs = in_frame (λ f. f) (λ f. calls_super go f.self_value vs f.running)

abbrev pub values_at : Table Value → List Text → List Value
values_at locals [] = []
values_at locals (x ∷ xs) = unwrap_or (at x locals) nil ∷ values_at locals xs

abbrev pub next_with_parameters : (Tree → Act) → Act
next_with_parameters go = in_frame (λ f. values_at f.locals f.parameters) (calls_next go)

-- ---- control

abbrev pub opposite : Value → Act
opposite v = gives (truth (not (is_true v)))

abbrev pub chosen : Act → Act → Value → Act
chosen a b v = if is_true v then a else b

abbrev pub after_turn : Act → Flow → Act
after_turn again (gave v) = again
after_turn again skipped = again
after_turn again broken = gives nil
after_turn again f = ends f

-- at most n turns; each takes a step, so the number never decides
abbrev pub turns : ℕ → Act → Act → Act
turns zero test body = paid 1 (ends lost)
turns (suc n) test body = test >>= (λ v. if is_true v then body >>> after_turn (turns n test body) else gives nil)

abbrev pub perhaps : (Tree → Act) → Perhaps → (Value → Act) → Act
perhaps go absent k = k nil
perhaps go (present e) k = go e >>= k

abbrev pub leaves_method : Value → Act
leaves_method v = ends (returned v)

-- ---- begin

abbrev pub named_act : Option Text → Id → Act
named_act None i = gives nil
named_act (Some x) i = sets_local x (object_at i)

abbrev pub rescue_fault : Act
rescue_fault = fails TypeError (codes "class or module required for rescue clause")

abbrev pub matches_module : Id → (Bool → Act) → Option Id → Act
matches_module i k None = rescue_fault
matches_module i k (Some class) = reading (λ w. is_kind_of w (object_at i) class) k

abbrev pub matches : Id → (Bool → Act) → Value → Act
matches i k v = matches_module i k (as_module v)

abbrev pub either : Act → Act → Bool → Act
either a b t = if t then a else b

-- a clause's paths, in order; the first one that the exception is an instance of matches
abbrev pub matches_one : (Tree → Act) → Id → Act → Act → Trees → Act
matches_one go i found later no_trees = later
matches_one go i found later (tree_then t ts) = go t >>= matches i (either found (matches_one go i found later ts))

abbrev pub is_rescued : (Tree → Act) → Id → Act → Act → Trees → Act
is_rescued go i found later no_trees = matches_module i (either found later) (Some StandardError)
is_rescued go i found later (tree_then t ts) = matches_one go i found later (tree_then t ts)

abbrev pub rescues : (Tree → Act) → Id → Rescues → Act
rescues go i no_rescues = ends (raised i)
rescues go i (rescue_then paths variable body clauses) =
    is_rescued go i (named_act variable i >> statements go body) (rescues go i clauses) paths

abbrev pub otherwise : (Tree → Act) → Branch → Value → Act
otherwise go no_branch v = gives v
otherwise go (branch body) v = statements go body

abbrev pub after_body : (Tree → Act) → Rescues → Branch → Flow → Act
after_body go clauses other (gave v) = otherwise go other v
after_body go clauses other (raised i) = rescues go i clauses
after_body go clauses other f = ends f

-- none of these runs `ensure`
abbrev pub is_final : Flow → Bool
is_final out_of_steps = true
is_final too_deep = true
is_final lost = true
is_final f = false

abbrev pub ensured : (Tree → Act) → Branch → Flow → Act
ensured go no_branch f = ends f
ensured go (branch body) f = if is_final f then ends f else statements go body >> ends f

abbrev pub literal : Text → Act
literal t = if nat_lt max_text (length t) then too_long else gives (text t)
