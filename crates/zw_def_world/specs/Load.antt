-- How constants are set, opened, loaded and looked up (Zeitwerk README, "Autoloading", "Implicit namespaces", "Explicit
-- namespaces" and "Callbacks"; what stands after a load that failed is this project's own).
use Rattle.std.specs.Prelude.{false, List, [], ◌∷◌, ◌++◌, codes, Option, Some, None, Ok, Err, if◌then◌else◌, find}
use Rattle.std.specs.Option.{option_map, unwrap_or}
use Rattle.zw_def.specs.Text.{Text}
use Rattle.zw_def.specs.Path.{Path, same_path}
use Rattle.zw_def.specs.Tree.{Tree}
use Rattle.zw_def.specs.ConstantPath.{ConstantPath, constant_path_text}
use Rattle.zw_def.specs.Nesting.{child}
use Rattle.zw_def.specs.Expected.{WrongName, wrong_name_text}
use Rattle.zw_def.specs.Map.{Key, KeyKind, file_at, directory}
use Rattle.zw_def.specs.Wrong.{wrong_below}
use Rattle.zw_def_syntax.specs.Token.{Fault}
use Rattle.zw_def_syntax.specs.Tree.{Tree as Node, Program}
use Rattle.zw_def_syntax.specs.Program.{Parsed, program_of}
use Rattle.zw_def_world.specs.Table.{Table, at}
use Rattle.zw_def_world.specs.Id.{Id}
use Rattle.zw_def_world.specs.CoreClass.{SyntaxError, ZeitwerkNameError}
use Rattle.zw_def_world.specs.Value.{Value, nil, text}
use Rattle.zw_def_world.specs.Record.{Module, new_module, with_constant, without_constant}
use Rattle.zw_def_world.specs.World.{gone, key_of, is_idle, with_state, fresh, begun, entered, left_load, settled, taken_back, with_module}
use Rattle.zw_def_world.specs.Callback.{Callback, on_load, callbacks_for}
use Rattle.zw_def_world.specs.Frame.{top_frame, innermost_scope}
use Rattle.zw_def_world.specs.Making.{fails}
use Rattle.zw_def_world.specs.Fault.{no_constant}
use Rattle.zw_def_world.specs.Log.{logs_line, opens, loaded_text, place_text, syntax_text_in, not_defined_text}
use Rattle.zw_def_world.specs.LookUp.{unscoped_modules, scoped_modules, loadable}
use Rattle.zw_def_world.specs.Meeting.{with_meeting}
use Rattle.zw_def_world.specs.Act.{Act, Flow, gave, lost, ends, gives, ◌>>>◌, ◌>>=◌, ◌>>◌, reading, in_world, in_module, in_frame, changing, changing_module, framed, paid}

-- ---- namespaces

abbrev pub wrong_or_act : Act → Option WrongName → Act
wrong_or_act act None = act
wrong_or_act act (Some wrong) = fails ZeitwerkNameError (wrong_name_text wrong)

-- the act, unless a name directly below the namespace is wrong
abbrev pub unless_wrong : ConstantPath → Act → Act
unless_wrong p act = in_world (λ w. wrong_below w.setting.layout w.tree p) (wrong_or_act act)

-- ---- making and setting

-- a module is made, and set as a constant of a module that is there
abbrev pub makes_module : Module → Id → Text → (Id → Act) → Act
makes_module made i n k = in_module i (λ m. in_world fresh (λ j. changing (with_module i n made) nil >> k j))

-- a key that is idle becomes gone where its constant is set
abbrev pub forgets : Option Key → Act
forgets None = gives nil
forgets (Some k) =
    in_world (λ w. w.states k.path) (λ s. if is_idle s then changing (with_state k.path gone) nil else gives nil)

abbrev pub replaces : ConstantPath → Text → Option Value → Act
replaces p n None = gives nil
replaces p n (Some v) = logs_line (codes "replaced " ++ constant_path_text (child p n))

-- sets the constant in the module's own table, and gives the value
abbrev pub sets_in : Id → Text → Value → Module → Act
sets_in i n v m =
    in_world (λ w. key_of w m.home n) forgets
    >> replaces m.path n (at n m.constants)
    >> changing_module i (with_constant n v) v

abbrev pub sets : Id → Text → Value → Act
sets i n v = in_module i (sets_in i n v)

-- ---- programs and files

-- the statements of a program
abbrev pub all_of : (Node → Act) → Value → Program → Act
all_of go v [] = gives v
all_of go v (s ∷ ss) = go s.tree >>= (λ u. all_of go u ss)

abbrev pub runs_program : (Node → Act) → Program → Act
runs_program go program = all_of go nil program

-- a text that is no program is told by `fault_text`
abbrev pub runs : (Node → Act) → (Fault → Text) → Parsed → Act
runs go fault_text (Ok program) = runs_program go program
runs go fault_text (Err fault) = fails SyntaxError (fault_text fault)

abbrev pub text_of : Tree → Path → Option Text
text_of tree path = option_map (λ f. f.text) (find (λ f. same_path f.path path) tree)

-- a file runs at top level, without variables
abbrev pub runs_file : (Node → Act) → Path → Act
runs_file go path =
    reading (λ w. text_of w.tree path) (λ t.
    framed (top_frame []) (runs go (syntax_text_in path) (program_of [] t)))

-- ---- callbacks of a key

-- what a callback of a key knows: the key's path, its value in the parent's table, and its file or first directory
abbrev pub callback_locals : Key → Option Value → Table Value
callback_locals k found =
    (codes "cpath", text (constant_path_text k.path))
    ∷ (codes "value", unwrap_or found nil)
    ∷ (codes "path", text (place_text k k.kind))
    ∷ []

-- a callback runs at top level; `i` is the module in whose table the key's constant stands
abbrev pub runs_callback : (Node → Act) → Key → Id → Text → Callback → Act
runs_callback go k i n callback =
    in_module i (λ m. framed (top_frame (callback_locals k (at n m.constants))) (runs_program go callback.program))

-- the first one that ends without a value passes its end on
abbrev pub runs_callbacks : (Node → Act) → Key → Id → Text → List Callback → Act
runs_callbacks go k i n [] = gives nil
runs_callbacks go k i n (c ∷ cs) = runs_callback go k i n c >> runs_callbacks go k i n cs

abbrev pub after_loading : (Node → Act) → Key → Id → Text → Act
after_loading go k i n = in_world (λ w. callbacks_for on_load k.path w.setting.callbacks) (runs_callbacks go k i n)

-- ---- loads

-- the key joins the load order, the log tells it, and its callbacks run
abbrev pub is_done : (Node → Act) → Key → Id → Text → Act
is_done go k i n =
    changing (settled k.path i) nil >> logs_line (loaded_text k.path k.kind) >> after_loading go k i n

-- a load that ended with a value has to have set the constant
abbrev pub settles : (Node → Act) → Key → Id → Text → Path → Option Value → Act
settles go k i n path (Some v) = is_done go k i n
settles go k i n path None =
    changing (with_state k.path gone) nil >> fails ZeitwerkNameError (not_defined_text k.path path)

abbrev pub takes_out : ConstantPath → Id → Text → Option Value → Act
takes_out q i n None = gives nil
takes_out q i n (Some v) =
    changing_module i (without_constant n) nil >> logs_line (codes "took back " ++ constant_path_text q)

abbrev pub takes_back : Key → Id → Text → Act
takes_back k i n =
    in_module i (λ m. takes_out k.path i n (at n m.constants)) >> changing (taken_back k.path) nil

-- after a file's run; what is lost stays lost
abbrev pub finishes : (Node → Act) → Key → Id → Text → Path → Flow → Act
finishes go k i n path (gave v) = in_module i (λ m. settles go k i n path (at n m.constants))
finishes go k i n path lost = ends lost
finishes go k i n path f = takes_back k i n >> ends f

-- the load is no more in progress
abbrev pub leaves_load : Flow → Act
leaves_load f = changing left_load nil >> ends f

abbrev pub loads_file : (Node → Act) → Key → Id → Text → Path → Act
loads_file go k i n path =
    ((changing (begun k.path) nil >> runs_file go path) >>> finishes go k i n path) >>> leaves_load

-- a module is made for a directory, as part of its load
abbrev pub makes_namespace : (Node → Act) → Key → Id → Text → Act
makes_namespace go k i n =
    changing (entered k.path) nil
    >> makes_module (new_module false k.path None (Some k.path)) i n (λ j. opens k.path >> is_done go k i n)
    >>> leaves_load

abbrev pub loads_kind : (Node → Act) → Key → Id → Text → KeyKind → Act
loads_kind go k i n (file_at path) = loads_file go k i n path
loads_kind go k i n directory = unless_wrong k.path (makes_namespace go k i n)

-- a load takes one step before all else
abbrev pub loads : (Node → Act) → Key → Id → Text → Act
loads go k i n = paid 1 (loads_kind go k i n k.kind)

-- ---- look-ups

-- the value at a module, or None; an idle key is loaded first
abbrev pub sought : (Node → Act) → Id → Text → (Option Value → Act) → Option Key → Act
sought go i n k None = k None
sought go i n k (Some key) = loads go key i n >> in_module i (λ m. k (at n m.constants))

abbrev pub known : (Node → Act) → Id → Text → (Option Value → Act) → Module → Option Value → Act
known go i n k m (Some v) = k (Some v)
known go i n k m None = in_world (λ w. loadable w m.home n) (sought go i n k)

abbrev pub asks : (Node → Act) → Id → Text → (Option Value → Act) → Act
asks go i n k = in_module i (λ m. changing (with_meeting m.home n) nil >> known go i n k m (at n m.constants))

abbrev pub or_else : Act → Option Value → Act
or_else later None = later
or_else later (Some v) = gives v

-- the first of the modules that has the name; `asked` is named in the fault
abbrev pub resolves : (Node → Act) → Text → Id → List Id → Act
resolves go n asked [] = no_constant asked n
resolves go n asked (i ∷ is) = asks go i n (or_else (resolves go n asked is))

abbrev pub unscoped_from : (Node → Act) → Text → List Id → Act
unscoped_from go n scopes = reading (λ w. unscoped_modules w scopes) (resolves go n (innermost_scope scopes))

abbrev pub unscoped : (Node → Act) → Text → Act
unscoped go n = in_frame (λ f. f.scopes) (unscoped_from go n)

abbrev pub scoped : (Node → Act) → Text → Id → Act
scoped go n i = reading (λ w. scoped_modules w i) (resolves go n i)
