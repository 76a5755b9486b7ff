-- What holds of each change, holds of calls.
use Rattle.std.specs.Prelude.{ℕ, Bool, false, List, Option, Some, None, [], ◌∷◌}
use Rattle.zw_def.specs.Text.{Text}
use Rattle.zw_def_syntax.specs.Tree.{Tree, Defaults, no_defaults, default_then}
use Rattle.zw_def_world.specs.Act.{Act, Flow, returned, gave, raised, broken, skipped, out_of_steps, too_deep, lost}
use Rattle.zw_def_world.specs.Call.{sets_local, binds, left_method, runs_code, runs_if_number, or_nil, sets_in_holder, sets_variable, reads, writes_to, runs_body, runs_found, calls_any, calls_none, site_with, row_calls, row_calls_new, node_site, Written, Absent, dispatched, is_bare, running_at, calls, runs_next, calls_super}
use Rattle.zw_def_world.specs.Frame.{Running}
use Rattle.zw_def_world.specs.MethodLine.{Found}
use Rattle.zw_def_world.specs.Record.{Code, Body, code, reader, writer, primitive}
use Rattle.zw_def_world.specs.Site.{Site, Call}
use Rattle.zw_def_world.specs.Value.{Value, Holder, no_holder, module_holder, object_holder}
use Rattle.zw_def_world.proofs.EvolutionLaws.{Evolution, Keeps, keeping, both_keep, on_keeps, if_keeps}
use Rattle.zw_def_world.proofs.FaultLaws.{wrong_number_keeps, unless_frozen_keeps, no_method_keeps, private_method_keeps, no_super_keeps}
use Rattle.zw_def_world.proofs.LoadLaws.{scoped_keeps}
use Rattle.zw_def_world.proofs.ModuleLaws.{row_act_keeps}
use Rattle.zw_def_world.proofs.RowLaws.{SiteKeeps, tested_keeps, CallKeeps}

-- ---- calls

pub sets_local_keeps : {E : Evolution} (x : Text) (v : Value) → Keeps E (sets_local x v)
sets_local_keeps x v = search keeping

pub binds_keeps : {E : Evolution} {go : Tree → Act} (g : (t : Tree) → Keeps E (go t)) (optional : Defaults)
    (vs : List Value) {m : Act} (a : Keeps E m) → Keeps E (binds go optional vs m)
binds_keeps g no_defaults vs a = a
binds_keeps g (default_then x e more) [] a =
    both_keep (on_keeps (g e) (sets_local_keeps x)) (binds_keeps g more [] a)
binds_keeps g (default_then x e more) (v ∷ vs) a = both_keep (sets_local_keeps x v) (binds_keeps g more vs a)

pub left_method_keeps : {E : Evolution} (f : Flow) → Keeps E (left_method f)
left_method_keeps (returned v) = search keeping
left_method_keeps (gave given) = search keeping
left_method_keeps (raised id) = search keeping
left_method_keeps broken = search keeping
left_method_keeps skipped = search keeping
left_method_keeps out_of_steps = search keeping
left_method_keeps too_deep = search keeping
left_method_keeps lost = search keeping

pub runs_code_keeps : {E : Evolution} {go : Tree → Act} (g : (t : Tree) → Keeps E (go t)) (receiver : Value)
    (running : Running) (c : Code) (vs : List Value) → Keeps E (runs_code go receiver running c vs)
runs_code_keeps g receiver running c vs = search (keeping, binds_keeps, left_method_keeps)

pub runs_if_number_keeps : {E : Evolution} {go : Tree → Act} (g : (t : Tree) → Keeps E (go t))
    (receiver : Value) (running : Running) (c : Code) (vs : List Value) (least : ℕ) (most : ℕ) → Keeps E
    (runs_if_number go receiver running c vs least most)
runs_if_number_keeps g receiver running c vs least most = search (keeping, runs_code_keeps, wrong_number_keeps)

pub or_nil_keeps : {E : Evolution} (o : Option Value) → Keeps E (or_nil o)
or_nil_keeps None = search keeping
or_nil_keeps (Some v) = search keeping

pub sets_in_holder_keeps : {E : Evolution} (x : Text) (v : Value) (h : Holder) → Keeps E (sets_in_holder x v h)
sets_in_holder_keeps x v no_holder = search keeping
sets_in_holder_keeps x v (module_holder i) = search keeping
sets_in_holder_keeps x v (object_holder i) = search keeping

pub sets_variable_keeps : {E : Evolution} (x : Text) (v : Value) (holder : Value) → Keeps E
    (sets_variable x v holder)
sets_variable_keeps x v holder = search (keeping, unless_frozen_keeps, sets_in_holder_keeps)

pub reads_keeps : {E : Evolution} (r : Value) (x : Text) (vs : List Value) → Keeps E (reads r x vs)
reads_keeps r x [] = search (keeping, or_nil_keeps)
reads_keeps r x (v ∷ vs) = search (keeping, wrong_number_keeps)

pub writes_to_keeps : {E : Evolution} (r : Value) (x : Text) (vs : List Value) → Keeps E (writes_to r x vs)
writes_to_keeps r x [] = search wrong_number_keeps
writes_to_keeps r x (v ∷ []) = sets_variable_keeps x v r
writes_to_keeps r x (v ∷ u ∷ more) = search wrong_number_keeps

pub runs_body_keeps : {E : Evolution} (s : Site) (of_s : SiteKeeps E s) {go : Tree → Act}
    (g : (t : Tree) → Keeps E (go t)) (r : Value) (running : Running) (vs : List Value) (z : Body) → Keeps E
    (runs_body s go r running vs z)
runs_body_keeps s of_s g r running vs (code c) = search (keeping, runs_if_number_keeps)
runs_body_keeps s of_s g r running vs (reader x) = search (keeping, reads_keeps)
runs_body_keeps s of_s g r running vs (writer x) = search (keeping, writes_to_keeps)
runs_body_keeps s of_s g r running vs (primitive row) = search (keeping, tested_keeps, row_act_keeps)

pub runs_found_keeps : {E : Evolution} (s : Site) (of_s : SiteKeeps E s) {go : Tree → Act}
    (g : (t : Tree) → Keeps E (go t)) (r : Value) (x : Text) (vs : List Value) (z : Option Found) → Keeps E
    (runs_found s go r x vs z)
runs_found_keeps s of_s g r x vs None = search (keeping, no_method_keeps)
runs_found_keeps s of_s g r x vs (Some f) = search (keeping, runs_body_keeps)

pub calls_any_keeps : {E : Evolution} (s : Site) (of_s : SiteKeeps E s) {go : Tree → Act}
    (g : (t : Tree) → Keeps E (go t)) (r : Value) (x : Text) (vs : List Value) → Keeps E (calls_any s go r x vs)
calls_any_keeps s of_s g r x vs = search (keeping, runs_found_keeps)

pub calls_none_keeps : {E : Evolution} (r : Value) (x : Text) (vs : List Value) → Keeps E (calls_none r x vs)
calls_none_keeps r x vs = search keeping

pub site_keeps : {E : Evolution} {go : Tree → Act} (g : (t : Tree) → Keeps E (go t)) {sends makes : Call}
    (c : CallKeeps E sends) (d : CallKeeps E makes) (bare : Bool) → SiteKeeps E (site_with go sends makes bare)
site_keeps g c d bare = record { sends = c; makes = d; constant = scoped_keeps g }

pub row_calls_keeps : {E : Evolution} {go : Tree → Act} (g : (t : Tree) → Keeps E (go t)) → CallKeeps E
    (row_calls go)
row_calls_keeps {E} {go} g =
    calls_any_keeps (site_with go calls_none calls_none false) (site_keeps g calls_none_keeps calls_none_keeps false) g

pub row_calls_new_keeps : {E : Evolution} {go : Tree → Act} (g : (t : Tree) → Keeps E (go t)) → CallKeeps E
    (row_calls_new go)
row_calls_new_keeps {E} {go} g =
    calls_any_keeps (site_with go (row_calls go) calls_none false) (site_keeps g (row_calls_keeps g) calls_none_keeps false) g

pub node_site_keeps : {E : Evolution} {go : Tree → Act} (g : (t : Tree) → Keeps E (go t)) (bare : Bool) →
    SiteKeeps E (node_site go bare)
node_site_keeps g bare = site_keeps g (row_calls_keeps g) (row_calls_new_keeps g) bare

pub dispatched_keeps : {E : Evolution} {go : Tree → Act} (g : (t : Tree) → Keeps E (go t)) (how : Written)
    {absent : Absent} (b : (r : Value) (x : Text) → Keeps E (absent r x)) (r : Value) (x : Text)
    (vs : List Value) (o : Option Found) → Keeps E (dispatched go how absent r x vs o)
dispatched_keeps g how b r x vs None = b r x
dispatched_keeps {E} {go} g how b r x vs (Some f) =
    if_keeps _ (private_method_keeps r x)
    (runs_body_keeps (node_site go (is_bare how)) (node_site_keeps g (is_bare how)) g r (running_at x f) vs f.method.body)

pub calls_keeps : {E : Evolution} {go : Tree → Act} (g : (t : Tree) → Keeps E (go t)) (how : Written)
    {absent : Absent} (b : (r : Value) (x : Text) → Keeps E (absent r x)) (r : Value) (x : Text)
    (vs : List Value) → Keeps E (calls go how absent r x vs)
calls_keeps g how b r x vs = search (keeping, dispatched_keeps)

pub runs_next_keeps : {E : Evolution} {go : Tree → Act} (g : (t : Tree) → Keeps E (go t)) (r : Value) (x : Text)
    (vs : List Value) (o : Option Found) → Keeps E (runs_next go r x vs o)
runs_next_keeps g r x vs None = no_super_keeps r x
runs_next_keeps {E} {go} g r x vs (Some f) =
    runs_body_keeps (node_site go false) (node_site_keeps g false) g r (running_at x f) vs f.method.body

pub calls_super_keeps : {E : Evolution} {go : Tree → Act} (g : (t : Tree) → Keeps E (go t)) (r : Value)
    (vs : List Value) (z : Option Running) → Keeps E (calls_super go r vs z)
calls_super_keeps g r vs None = search keeping
calls_super_keeps g r vs (Some running) = search (keeping, runs_next_keeps)
