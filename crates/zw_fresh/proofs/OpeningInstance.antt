-- The premises of the law for two processes can be met: by processes whose roots are of Object and that have no boot
-- file or an empty one, over any folder whose listing is taken, such as one with a root, a file in it and a boot file.
use Rattle.std.specs.Prelude.{ℕ, zero, suc, Bool, ◌≡◌, ◌||◌, cond, not, true, false, List, [], ◌∷◌, ◌++◌, codes, Option, Some, None, Ok, Err}
use Rattle.std.specs.List.{find, list_any}
use Rattle.std.specs.Str.{chars, is_utf8}
use Rattle.std.specs.Char.{encode_utf8}
use Rattle.std.specs.Option.{option_map_or}
use Rattle.std.proofs.Common.{refl, sym, ap, ◌∙◌, subst}
use Rattle.zw_def.specs.Path.{Path, path_text}
use Rattle.zw_def.specs.Tree.{Tree}
use Rattle.zw_def.specs.Folder.{Listing, bytes_at}
use Rattle.zw_def.specs.ConstantPath.{constant_path_text}
use Rattle.zw_def.specs.Inflector.{default_inflector}
use Rattle.zw_def.specs.Layout.{Root}
use Rattle.zw_def_syntax.specs.Scan.{scanned}
use Rattle.zw_def_syntax.specs.Lexed.{lexed, settled, without_ends_before}
use Rattle.zw_def_syntax.specs.Program.{Parsed, parsed, parsed_from, program_of}
use Rattle.zw_def_world.specs.World.{World}
use Rattle.zw_def_world.specs.Reload.{unloaded}
use Rattle.zw_def_world.specs.Log.{syntax_text_in}
use Rattle.zw_def_world.specs.Load.{runs}
use Rattle.zw_def_world.specs.Session.{Session, evaluates, acted}
use Rattle.zw_def_session.specs.Commands.{Command, put, del, run, reload, eager, eager_dir, eager_ns, load, expect, shadows, check, Stream, Reading, reads, refuses, skips, ends_here, over, next_command}
use Rattle.zw_def_session.specs.Commands as command
use Rattle.zw_def_session.specs.Opening as opening
use Rattle.zw_def_session.specs.Opening.{Opened, opens_with, Words, Configuration, first_session, bad_configuration, after_boot, leads, with_namespaces, booted, boots_file, boots, listed_tree, fixed_paths, opened_over, opened}
use Rattle.zw_def_session.specs.Whole.{served, sets_up}
use Rattle.zw_def_session.specs.Answers.{answer}
use Rattle.zw_fresh.specs.Law.{answered, WritesAlike}
use Rattle.zw_fresh.specs.Named.{parsed_names_one, names_one, NameNone, reading_names_one, stream_names_one, StreamNamesNone}
use Rattle.zw_fresh.specs.Served.{OutcomesAlike}
use Rattle.zw_fresh.specs.Again.{SameBoot}
use Rattle.zw_fresh.proofs.AnswerLaws.{sets_up_within}
use Rattle.zw_fresh.proofs.AgainLaws.{reload_is_opening}
use Rattle.zw_fresh.proofs.StreamLaws.{reload_serves}

-- ---- openings without a boot file, or with an empty one

abbrev core_opening : Words → Configuration → Tree → Session
core_opening words c tree = after_boot (first_session words c tree)

abbrev OfObject : List Root → Type 0
OfObject [] = Unit {0}
OfObject (root ∷ roots) = (root.namespace ≡ []) × OfObject roots

all_lead : (w : World) (roots : List Root) → OfObject roots → find (λ root. not (leads w root.namespace)) roots ≡ None
all_lead w [] h = refl
all_lead w (r ∷ roots) h =
    ap (λ p. cond (not (leads w p)) (Some r) (find (λ root. not (leads w root.namespace)) roots)) h.0
    ∙ all_lead w roots h.1

abbrev EmptyBoot : Listing → Option Path → Type 0
EmptyBoot folder None = Unit {0}
EmptyBoot folder (Some path) = bytes_at (path_text path) folder.files ≡ Some []

empty_program : program_of [] [] ≡ Ok []
unfolding program_of lexed settled scanned parsed parsed_from without_ends_before chars is_utf8 encode_utf8
empty_program = refl

boots_empty : (words : Words) (c : Configuration) (folder : Listing) (tree : Tree) (o : Option Path)
    → EmptyBoot folder o → boots c folder o (first_session words c tree) ≡ with_namespaces c (core_opening words c tree)
boots_empty words c folder tree None h = refl
boots_empty words c folder tree (Some path) h =
    let s = first_session words c tree in
    ap (λ o. boots_file c path o s) h
    ∙ ap (λ parsed. booted c s (acted (runs (evaluates s) (syntax_text_in path) parsed) s)) empty_program

opens_core : (words : Words) (c : Configuration) (folder : Listing) (tree : Tree)
    → listed_tree (fixed_paths c) folder ≡ Ok tree → OfObject c.layout.roots → EmptyBoot folder c.boot
    → opened words c folder ≡ opens_with (core_opening words c tree)
opens_core words c folder tree listed roots boot =
    ap (opened_over words c folder) listed ∙ boots_empty words c folder tree c.boot boot
    ∙ ap namespaces (all_lead (core_opening words c tree).world c.layout.roots roots)
  where
    namespaces : Option Root → Opened
    namespaces o =
        let s = core_opening words c tree in
        option_map_or
        (λ root. opening.refuses (bad_configuration (codes "namespace " ++ constant_path_text root.namespace)) s)
        o (opens_with s)

-- ---- commands, where no variable has a value

parsed_names_none : (parsed : Parsed) → parsed_names_one [] parsed ≡ false
parsed_names_none (Ok program) = refl
parsed_names_none (Err fault) = refl

names_none : (c : Command) → names_one [] c ≡ false
names_none (put path text) = refl
names_none (del path) = refl
names_none (run text) = parsed_names_none (program_of [] text)
names_none eager = refl
names_none command.map = refl
names_none reload = refl
names_none (eager_dir path) = refl
names_none (eager_ns p) = refl
names_none (load path) = refl
names_none (expect path) = refl
names_none shadows = refl
names_none check = refl

all_name_none : (cs : List Command) → NameNone [] cs
all_name_none [] = refl
all_name_none (c ∷ cs) = ap (λ b. b || list_any (names_one []) cs) (names_none c) ∙ all_name_none cs

reading_names_none : (more : Stream → Bool) → ((rest : Stream) → more rest ≡ false) → (reading : Reading)
    → reading_names_one more [] reading ≡ false
reading_names_none more h (reads command rest) = ap (λ b. b || more rest) (names_none command) ∙ h rest
reading_names_none more h (refuses reason rest) = h rest
reading_names_none more h (skips rest) = h rest
reading_names_none more h ends_here = refl
reading_names_none more h over = refl

stream_names_none : (n : ℕ) (stream : Stream) → StreamNamesNone [] n stream
stream_names_none zero stream = refl
stream_names_none (suc n) stream =
    reading_names_none (stream_names_one [] n) (stream_names_none n) (next_command stream)

-- ---- instances

same_boot : (o : Option Path) (folder : Listing) → SameBoot o folder folder
same_boot None folder = tt
same_boot (Some path) folder = refl

-- such a process may reload at once, and then answer any commands
pub core_reload : (words : Words) (c : Configuration) (folder : Listing) (tree : Tree)
    → listed_tree (fixed_paths c) folder ≡ Ok tree → OfObject c.layout.roots → EmptyBoot folder c.boot
    → c.reloading ≡ true
    → (commands : List Command) → let s = sets_up (core_opening words c tree) in
    WritesAlike (core_opening words c tree).out ((unloaded s).out ++ codes "reloaded" ++ codes "\n")
    (answered commands s) (answered (reload ∷ commands) s)
core_reload words c folder tree listed roots boot may_reload commands =
    let s = core_opening words c tree in
    let opens = opens_core words c folder tree listed roots boot in
    reload_is_opening words c folder folder s s opens opens (same_boot c.boot folder) may_reload [] 0 commands
    (sym (sets_up_within s).staged)
    (subst (λ variables. NameNone variables commands) (sym (sets_up_within s).variables) (all_name_none commands))

-- and serve any stream
pub core_serves : (words : Words) (c : Configuration) (folder : Listing) (tree : Tree)
    → listed_tree (fixed_paths c) folder ≡ Ok tree → OfObject c.layout.roots → EmptyBoot folder c.boot
    → c.reloading ≡ true → (n : ℕ) (stream : Stream) → let s = sets_up (core_opening words c tree) in
    OutcomesAlike (core_opening words c tree).out ((unloaded s).out ++ codes "reloaded" ++ codes "\n")
    (served n s stream) (served n (answer reload s) stream)
core_serves words c folder tree listed roots boot may_reload n stream =
    let s = core_opening words c tree in
    let opens = opens_core words c folder tree listed roots boot in
    reload_serves words c folder folder s s opens opens (same_boot c.boot folder) may_reload [] 0 n stream
    (sym (sets_up_within s).staged)
    (subst (λ variables. StreamNamesNone variables n stream) (sym (sets_up_within s).variables)
    (stream_names_none n stream))

-- one root and boot
abbrev one_root : Configuration
one_root = record {
  path = codes "zw.toml" ∷ [];
  layout = record {
    roots = record { path = codes "lib" ∷ []; namespace = [] } ∷ [];
    ignore = [];
    collapse = [];
    no_eager = [];
    inflector = default_inflector [];
  };
  callbacks = [];
  reloading = true;
  eager = true;
  boot = Some (codes "boot.rb" ∷ []);
}

-- and one file in it, beside the boot file
abbrev one_file : Listing
one_file = record { files = (codes "boot.rb", []) ∷ (codes "lib/a.rb", codes "A = 1") ∷ []; place = 0 }

abbrev one_tree : Tree
one_tree = record { path = codes "lib" ∷ codes "a.rb" ∷ []; text = codes "A = 1" } ∷ []

one_listed : listed_tree (fixed_paths one_root) one_file ≡ Ok one_tree
unfolding chars is_utf8 encode_utf8
one_listed = refl

pub one_root_serves : (words : Words) (n : ℕ) (stream : Stream)
    → let s = sets_up (core_opening words one_root one_tree) in
    OutcomesAlike [] ((unloaded s).out ++ codes "reloaded" ++ codes "\n")
    (served n s stream) (served n (answer reload s) stream)
one_root_serves words n stream = core_serves words one_root one_file one_tree one_listed (refl, tt) refl refl n stream

pub one_root_reload : (words : Words) (commands : List Command)
    → let s = sets_up (core_opening words one_root one_tree) in
    WritesAlike [] ((unloaded s).out ++ codes "reloaded" ++ codes "\n")
    (answered commands s) (answered (reload ∷ commands) s)
one_root_reload words commands = core_reload words one_root one_file one_tree one_listed (refl, tt) refl refl commands
