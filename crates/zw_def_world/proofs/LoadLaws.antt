-- What holds of each change, holds of look-ups, loads and eager loading.
use Rattle.std.specs.Prelude.{List, Option, Some, None, Ok, Err, [], ◌∷◌, ◌++◌, codes}
use Rattle.zw_def.specs.ConstantPath.{constant_path_text, ConstantPath}
use Rattle.zw_def.specs.Expected.{WrongName}
use Rattle.zw_def.specs.Map.{Key, KeyKind, file_at, directory}
use Rattle.zw_def.specs.Path.{Path}
use Rattle.zw_def.specs.Text.{Text}
use Rattle.zw_def_syntax.specs.Program.{Parsed}
use Rattle.zw_def_syntax.specs.Token.{Fault}
use Rattle.zw_def_syntax.specs.Tree.{Tree, Program}
use Rattle.zw_def_world.specs.Act.{Act, Flow, gave, lost, raised, broken, skipped, returned, out_of_steps, too_deep}
use Rattle.zw_def_world.specs.Callback.{Callback}
use Rattle.zw_def_world.specs.Eager.{loads_unless_set, loads_at, loads_if_idle, loads_key, loads_all}
use Rattle.zw_def_world.specs.Id.{Id}
use Rattle.zw_def_world.specs.Load.{wrong_or_act, unless_wrong, makes_module, forgets, replaces, sets_in, sets, all_of, runs_program, runs, runs_file, runs_callback, runs_callbacks, after_loading, is_done, settles, takes_out, takes_back, finishes, leaves_load, loads_file, makes_namespace, loads_kind, loads, sought, known, asks, or_else, resolves, unscoped_from, unscoped, scoped}
use Rattle.zw_def_world.specs.Log.{logs_line, logs_each, opens}
use Rattle.zw_def_world.specs.Record.{Module}
use Rattle.zw_def_world.specs.Value.{Value}
use Rattle.zw_def_world.specs.World.{State}
use Rattle.zw_def_world.proofs.EvolutionLaws.{Evolution, Keeps, keeping, gives_keeps, both_keep, module_made_keeps, state_keeps, settled_keeps, taken_back_keeps, left_keeps, begun_keeps, entered_keeps, met_keeps}
use Rattle.zw_def_world.proofs.FaultLaws.{fails_keeps, no_constant_keeps}

-- ---- the log

pub logs_line_keeps : {E : Evolution} (line : Text) → Keeps E (logs_line line)
logs_line_keeps line = search keeping

pub logs_each_keeps : {E : Evolution} (keys : List Key) → Keeps E (logs_each keys)
logs_each_keeps [] = gives_keeps _
logs_each_keeps (k ∷ ks) =
    both_keep (logs_line_keeps (codes "autoload " ++ constant_path_text k.path)) (logs_each_keeps ks)

pub opens_keeps : {E : Evolution} (p : ConstantPath) → Keeps E (opens p)
opens_keeps p = search (keeping, logs_each_keeps)

-- ---- look-ups and loads

pub wrong_or_act_keeps : {E : Evolution} {m : Act} (a : Keeps E m) (z : Option WrongName) → Keeps E
    (wrong_or_act m z)
wrong_or_act_keeps a None = search keeping
wrong_or_act_keeps a (Some wrong) = search (keeping, fails_keeps)

pub unless_wrong_keeps : {E : Evolution} (p : ConstantPath) {m : Act} (a : Keeps E m) → Keeps E
    (unless_wrong p m)
unless_wrong_keeps p a = search (keeping, wrong_or_act_keeps)

pub makes_module_keeps : {E : Evolution} (made : Module) (i : Id) (n : Text) {k : Id → Act}
    (b : (y : Id) → Keeps E (k y)) → Keeps E (makes_module made i n k)
makes_module_keeps made i n b = search (keeping, module_made_keeps)

pub forgets_keeps : {E : Evolution} (z : Option Key) → Keeps E (forgets z)
forgets_keeps None = search keeping
forgets_keeps (Some k) = search (keeping, state_keeps)

pub replaces_keeps : {E : Evolution} (p : ConstantPath) (n : Text) (o : Option Value) → Keeps E (replaces p n o)
replaces_keeps p n None = search keeping
replaces_keeps p n (Some v) = search (keeping, logs_line_keeps)

pub sets_in_keeps : {E : Evolution} (i : Id) (n : Text) (v : Value) (m : Module) → Keeps E (sets_in i n v m)
sets_in_keeps i n v m = search (keeping, forgets_keeps, replaces_keeps)

pub sets_keeps : {E : Evolution} (i : Id) (n : Text) (v : Value) → Keeps E (sets i n v)
sets_keeps i n v = search (keeping, sets_in_keeps)

pub all_of_keeps : {E : Evolution} {go : Tree → Act} (g : (t : Tree) → Keeps E (go t)) (v : Value) (z : Program)
    → Keeps E (all_of go v z)
all_of_keeps g v [] = search keeping
all_of_keeps {E} {go} g v (s ∷ ss) =
    let later : (v : Value) → Keeps E (all_of go v ss) = λ v. all_of_keeps g v ss in
    search (keeping, later)

pub runs_program_keeps : {E : Evolution} {go : Tree → Act} (g : (t : Tree) → Keeps E (go t)) (program : Program)
    → Keeps E (runs_program go program)
runs_program_keeps g program = search (keeping, all_of_keeps)

pub runs_keeps : {E : Evolution} {go : Tree → Act} (g : (t : Tree) → Keeps E (go t))
    (fault_text : (Fault → Text)) (z : Parsed) → Keeps E (runs go fault_text z)
runs_keeps g fault_text (Ok program) = search (keeping, runs_program_keeps)
runs_keeps g fault_text (Err fault) = search (keeping, fails_keeps)

pub runs_file_keeps : {E : Evolution} {go : Tree → Act} (g : (t : Tree) → Keeps E (go t)) (path : Path) → Keeps
    E (runs_file go path)
runs_file_keeps g path = search (keeping, runs_keeps)

pub runs_callback_keeps : {E : Evolution} {go : Tree → Act} (g : (t : Tree) → Keeps E (go t)) (k : Key) (i : Id)
    (n : Text) (callback : Callback) → Keeps E (runs_callback go k i n callback)
runs_callback_keeps g k i n callback = search (keeping, runs_program_keeps)

pub runs_callbacks_keeps : {E : Evolution} {go : Tree → Act} (g : (t : Tree) → Keeps E (go t)) (k : Key)
    (i : Id) (n : Text) (z : List Callback) → Keeps E (runs_callbacks go k i n z)
runs_callbacks_keeps g k i n [] = search keeping
runs_callbacks_keeps {E} {go} g k i n (c ∷ cs) =
    let later : (k : Key) (i : Id) (n : Text) → Keeps E (runs_callbacks go k i n cs) =
    λ k i n. runs_callbacks_keeps g k i n cs in
    search (keeping, runs_callback_keeps, later)

pub after_loading_keeps : {E : Evolution} {go : Tree → Act} (g : (t : Tree) → Keeps E (go t)) (k : Key) (i : Id)
    (n : Text) → Keeps E (after_loading go k i n)
after_loading_keeps g k i n = search (keeping, runs_callbacks_keeps)

pub is_done_keeps : {E : Evolution} {go : Tree → Act} (g : (t : Tree) → Keeps E (go t)) (k : Key) (i : Id)
    (n : Text) → Keeps E (is_done go k i n)
is_done_keeps g k i n = search (keeping, settled_keeps, logs_line_keeps, after_loading_keeps)

pub settles_keeps : {E : Evolution} {go : Tree → Act} (g : (t : Tree) → Keeps E (go t)) (k : Key) (i : Id)
    (n : Text) (path : Path) (o : Option Value) → Keeps E (settles go k i n path o)
settles_keeps g k i n path (Some v) = search (keeping, is_done_keeps)
settles_keeps g k i n path None = search (keeping, state_keeps, fails_keeps)

pub takes_out_keeps : {E : Evolution} (q : ConstantPath) (i : Id) (n : Text) (o : Option Value) → Keeps E
    (takes_out q i n o)
takes_out_keeps q i n None = search keeping
takes_out_keeps q i n (Some v) = search (keeping, logs_line_keeps)

pub takes_back_keeps : {E : Evolution} (k : Key) (i : Id) (n : Text) → Keeps E (takes_back k i n)
takes_back_keeps k i n = search (keeping, takes_out_keeps, taken_back_keeps)

pub finishes_keeps : {E : Evolution} {go : Tree → Act} (g : (t : Tree) → Keeps E (go t)) (k : Key) (i : Id)
    (n : Text) (path : Path) (f : Flow) → Keeps E (finishes go k i n path f)
finishes_keeps g k i n path (gave v) = search (keeping, settles_keeps)
finishes_keeps g k i n path lost = search keeping
finishes_keeps g k i n path (raised id) = search (keeping, takes_back_keeps)
finishes_keeps g k i n path broken = search (keeping, takes_back_keeps)
finishes_keeps g k i n path skipped = search (keeping, takes_back_keeps)
finishes_keeps g k i n path (returned given) = search (keeping, takes_back_keeps)
finishes_keeps g k i n path out_of_steps = search (keeping, takes_back_keeps)
finishes_keeps g k i n path too_deep = search (keeping, takes_back_keeps)

pub leaves_load_keeps : {E : Evolution} (f : Flow) → Keeps E (leaves_load f)
leaves_load_keeps f = search (keeping, left_keeps)

pub loads_file_keeps : {E : Evolution} {go : Tree → Act} (g : (t : Tree) → Keeps E (go t)) (k : Key) (i : Id)
    (n : Text) (path : Path) → Keeps E (loads_file go k i n path)
loads_file_keeps g k i n path =
    search (keeping, begun_keeps, runs_file_keeps, finishes_keeps, leaves_load_keeps)

pub makes_namespace_keeps : {E : Evolution} {go : Tree → Act} (g : (t : Tree) → Keeps E (go t)) (k : Key)
    (i : Id) (n : Text) → Keeps E (makes_namespace go k i n)
makes_namespace_keeps g k i n =
    search (keeping, entered_keeps, makes_module_keeps, opens_keeps, is_done_keeps, leaves_load_keeps)

pub loads_kind_keeps : {E : Evolution} {go : Tree → Act} (g : (t : Tree) → Keeps E (go t)) (k : Key) (i : Id)
    (n : Text) (z : KeyKind) → Keeps E (loads_kind go k i n z)
loads_kind_keeps g k i n (file_at path) = search (keeping, loads_file_keeps)
loads_kind_keeps g k i n directory = search (keeping, unless_wrong_keeps, makes_namespace_keeps)

pub loads_keeps : {E : Evolution} {go : Tree → Act} (g : (t : Tree) → Keeps E (go t)) (k : Key) (i : Id)
    (n : Text) → Keeps E (loads go k i n)
loads_keeps g k i n = search (keeping, loads_kind_keeps)

pub sought_keeps : {E : Evolution} {go : Tree → Act} (g : (t : Tree) → Keeps E (go t)) (i : Id) (n : Text)
    {k : Option Value → Act} (b : (y : Option Value) → Keeps E (k y)) (z : Option Key) → Keeps E
    (sought go i n k z)
sought_keeps g i n b None = search keeping
sought_keeps g i n b (Some key) = search (keeping, loads_keeps)

pub known_keeps : {E : Evolution} {go : Tree → Act} (g : (t : Tree) → Keeps E (go t)) (i : Id) (n : Text)
    {k : Option Value → Act} (b : (y : Option Value) → Keeps E (k y)) (m : Module) (o : Option Value) → Keeps E
    (known go i n k m o)
known_keeps g i n b m (Some v) = search keeping
known_keeps g i n b m None = search (keeping, sought_keeps)

pub asks_keeps : {E : Evolution} {go : Tree → Act} (g : (t : Tree) → Keeps E (go t)) (i : Id) (n : Text)
    {k : Option Value → Act} (b : (y : Option Value) → Keeps E (k y)) → Keeps E (asks go i n k)
asks_keeps g i n b = search (keeping, met_keeps, known_keeps)

pub or_else_keeps : {E : Evolution} {m : Act} (a : Keeps E m) (o : Option Value) → Keeps E (or_else m o)
or_else_keeps a None = search keeping
or_else_keeps a (Some v) = search keeping

pub resolves_keeps : {E : Evolution} {go : Tree → Act} (g : (t : Tree) → Keeps E (go t)) (n : Text) (asked : Id)
    (z : List Id) → Keeps E (resolves go n asked z)
resolves_keeps g n asked [] = search (keeping, no_constant_keeps)
resolves_keeps {E} {go} g n asked (i ∷ is) =
    let later : (n : Text) (asked : Id) → Keeps E (resolves go n asked is) =
    λ n asked. resolves_keeps g n asked is in
    search (keeping, asks_keeps, or_else_keeps, later)

pub unscoped_from_keeps : {E : Evolution} {go : Tree → Act} (g : (t : Tree) → Keeps E (go t)) (n : Text)
    (scopes : List Id) → Keeps E (unscoped_from go n scopes)
unscoped_from_keeps g n scopes = search (keeping, resolves_keeps)

pub unscoped_keeps : {E : Evolution} {go : Tree → Act} (g : (t : Tree) → Keeps E (go t)) (n : Text) → Keeps E
    (unscoped go n)
unscoped_keeps g n = search (keeping, unscoped_from_keeps)

pub scoped_keeps : {E : Evolution} {go : Tree → Act} (g : (t : Tree) → Keeps E (go t)) (n : Text) (i : Id) →
    Keeps E (scoped go n i)
scoped_keeps g n i = search (keeping, resolves_keeps)

-- ---- eager loading

pub loads_unless_set_keeps : {E : Evolution} {go : Tree → Act} (g : (t : Tree) → Keeps E (go t)) (k : Key)
    (i : Id) (o : Option Value) → Keeps E (loads_unless_set go k i o)
loads_unless_set_keeps g k i None = search (keeping, loads_keeps)
loads_unless_set_keeps g k i (Some v) = search keeping

pub loads_at_keeps : {E : Evolution} {go : Tree → Act} (g : (t : Tree) → Keeps E (go t)) (k : Key)
    (z : Option Id) → Keeps E (loads_at go k z)
loads_at_keeps g k None = search keeping
loads_at_keeps g k (Some i) = search (keeping, loads_unless_set_keeps)

pub loads_if_idle_keeps : {E : Evolution} {go : Tree → Act} (g : (t : Tree) → Keeps E (go t)) (k : Key)
    (s : State) → Keeps E (loads_if_idle go k s)
loads_if_idle_keeps g k s = search (keeping, loads_at_keeps)

pub loads_key_keeps : {E : Evolution} {go : Tree → Act} (g : (t : Tree) → Keeps E (go t)) (k : Key) → Keeps E
    (loads_key go k)
loads_key_keeps g k = search (keeping, loads_if_idle_keeps)

pub loads_all_keeps : {E : Evolution} {go : Tree → Act} (g : (t : Tree) → Keeps E (go t)) (keys : List Key) →
    Keeps E (loads_all go keys)
loads_all_keeps g [] = gives_keeps _
loads_all_keeps g (k ∷ ks) = both_keep (loads_key_keeps g k) (loads_all_keeps g ks)
