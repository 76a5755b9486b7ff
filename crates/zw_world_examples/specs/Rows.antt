-- How a row says what a session writes.
use Prim.Native.String.{String}
use Rattle.std.specs.Prelude.{◌≡◌, ℕ, ◌+◌, Bool, true, false, List, [], ◌∷◌, ◌++◌, codes, map, Option, Some, None, Ok, Err, if◌then◌else◌}
use Rattle.std.specs.Str.{bytes_eq, encode_utf8_all}
use Rattle.zw_def.specs.Text.{Text}
use Rattle.zw_def.specs.Line.{lines_of}
use Rattle.zw_def.specs.Path.{Path, components}
use Rattle.zw_def.specs.Folder.{Listing}
use Rattle.zw_def.specs.ConstantPath.{ConstantPath, constant_path_of}
use Rattle.zw_def.specs.Inflector.{Overrides, default_inflector, gem_inflector}
use Rattle.zw_def.specs.Layout.{Layout, Root}
use Rattle.zw_def_syntax.specs.Tree.{Program}
use Rattle.zw_def_syntax.specs.Program.{Parsed, program_of}
use Rattle.zw_def_world.specs.Callback.{Callback, Moment, on_setup, on_load, on_unload}
use Rattle.zw_def_session.specs.Opening.{Configuration, Words, Status, done, refused_configuration, limit}
use Rattle.zw_def_session.specs.Plain.{is_straight}
use Rattle.zw_def_session.specs.Whole.{Outcome, output}

-- the bytes of a text that stands in a row
abbrev pub bytes_of : String → Text
bytes_of text = encode_utf8_all (codes text)

abbrev pub path : String → Path
path text = components (bytes_of text)

-- ---- the folder

-- lines, each with LF
abbrev pub text_of_lines : List String → Text
text_of_lines [] = []
text_of_lines (l ∷ ls) = bytes_of l ++ codes "\n" ++ text_of_lines ls

abbrev pub file : String → List String → Text × Text
file p lines = (bytes_of p, text_of_lines lines)

-- with these bytes and no others
abbrev pub raw_file : String → String → Text × Text
raw_file p text = (bytes_of p, bytes_of text)

abbrev pub folder_of : List (Text × Text) → Listing
folder_of files = record { files = files; place = 0 }

-- ---- the words

abbrev pub plain_words : Words
plain_words = record { budget = 100000; logs = false; steps = false; eager = false }

abbrev pub with_log : Words → Words
with_log w = record w { logs = true }

abbrev pub with_step_lines : Words → Words
with_step_lines w = record w { steps = true }

abbrev pub with_budget : ℕ → Words → Words
with_budget n w = record w { budget = n }

abbrev pub with_eager : Words → Words
with_eager w = record w { eager = true }

-- ---- the configuration

abbrev pub root_in : String → ConstantPath → Root
root_in p namespace = record { path = path p; namespace = namespace }

abbrev pub root : String → Root
root p = root_in p []

abbrev pub layout_of : List Root → Layout
layout_of roots = record {
  roots = roots;
  ignore = [];
  collapse = [];
  no_eager = [];
  inflector = default_inflector [];
}

-- `reloading = true`, these roots, and nothing else
abbrev pub with_roots : List Root → Configuration
with_roots roots = record {
  path = path "zw.toml";
  layout = layout_of roots;
  callbacks = [];
  reloading = true;
  eager = false;
  boot = None;
}

-- one root `m`
abbrev pub one_root : Configuration
one_root = with_roots (root "m" ∷ [])

abbrev pub ignoring : List String → Configuration → Configuration
ignoring patterns c = record c { layout = record c.layout { ignore = map path patterns } }

abbrev pub collapsing : List String → Configuration → Configuration
collapsing patterns c = record c { layout = record c.layout { collapse = map path patterns } }

abbrev pub not_eager : List String → Configuration → Configuration
not_eager patterns c = record c { layout = record c.layout { no_eager = map path patterns } }

abbrev pub override : String → String → Text × Text
override base name = (bytes_of base, bytes_of name)

abbrev pub inflecting : Overrides → Configuration → Configuration
inflecting overrides c = record c { layout = record c.layout { inflector = default_inflector overrides } }

abbrev pub of_gem : String → Overrides → Configuration → Configuration
of_gem main overrides c = record c { layout = record c.layout { inflector = gem_inflector overrides (path main) } }

abbrev pub booting : String → Configuration → Configuration
booting p c = record c { boot = Some (path p) }

abbrev pub without_reloading : Configuration → Configuration
without_reloading c = record c { reloading = false }

abbrev pub eager_by_itself : Configuration → Configuration
eager_by_itself c = record c { eager = true }

-- ---- callbacks

abbrev pub program_in : Parsed → Program
program_in (Ok program) = program
program_in (Err fault) = []

-- what a callback of a key knows
abbrev pub known_to_callbacks : List Text
known_to_callbacks = codes "cpath" ∷ codes "value" ∷ codes "path" ∷ []

abbrev pub callback_for : Moment → Option ConstantPath → List Text → String → Callback
callback_for moment target known text =
    record { moment = moment; target = target; program = program_in (program_of known (bytes_of text)) }

abbrev pub at_setup : String → Callback
at_setup text = callback_for on_setup None [] text

abbrev pub at_load : String → Callback
at_load text = callback_for on_load None known_to_callbacks text

abbrev pub at_load_of : String → String → Callback
at_load_of target text =
    callback_for on_load (constant_path_of (bytes_of target)) known_to_callbacks text

abbrev pub at_unload : String → Callback
at_unload text = callback_for on_unload None known_to_callbacks text

abbrev pub at_unload_of : String → String → Callback
at_unload_of target text =
    callback_for on_unload (constant_path_of (bytes_of target)) known_to_callbacks text

abbrev pub calling : List Callback → Configuration → Configuration
calling callbacks c = record c { callbacks = callbacks }

-- ---- what is written

abbrev pub number_of : Status → ℕ
number_of done = 0
number_of refused_configuration = 3
number_of limit = 8

-- the first line that differs, as the definition computes it, and the number of lines before it
abbrev pub first_other : ℕ → List Text → List Text → Option (ℕ × Text)
first_other n [] [] = None
first_other n (e ∷ es) [] = Some (n, [])
first_other n [] (l ∷ ls) = Some (n, l)
first_other n (e ∷ es) (l ∷ ls) =
    let later = first_other (n + 1) es ls in
    if bytes_eq e l then later else Some (n, l)

abbrev pub differs_at : List Text → Outcome → Option (ℕ × Text) × ℕ
differs_at lines outcome = (first_other 0 lines (lines_of outcome.out), number_of outcome.status)

-- over these bytes of the stream the session writes these lines, and ends with the status
abbrev pub Answers : ℕ → Words → Configuration → List (Text × Text) → Text → List String → Type 0
Answers status words c files bytes lines =
    differs_at (map bytes_of lines) (output words c (folder_of files) bytes) ≡ (None, status)

abbrev pub Ends : ℕ → Words → Configuration → List (Text × Text) → List String → List String → Type 0
Ends status words c files stream lines = Answers status words c files (text_of_lines stream) lines

abbrev pub Writes : Words → Configuration → List (Text × Text) → List String → List String → Type 0
Writes words c files stream lines = Ends 0 words c files stream lines

-- ---- straight sessions

abbrev pub straight_by : Parsed → Parsed → Bool
straight_by (Ok boot) (Ok file) = is_straight boot (file ∷ [])
straight_by boot file = false

-- a session with this boot and one file
abbrev pub is_straight_over : String → String → Bool
is_straight_over boot file = straight_by (program_of [] (bytes_of boot)) (program_of [] (bytes_of file))
