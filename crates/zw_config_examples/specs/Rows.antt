-- How a row says what a configuration's text is: what it says, or the line that it prints.
use Prim.Native.String.{String}
use Rattle.std.specs.Prelude.{◌≡◌, true, false, List, [], ◌∷◌, ◌++◌, codes, map, Option, Some, None, Result, Ok, Err}
use Rattle.zw_def.specs.Text.{Text}
use Rattle.zw_def.specs.Path.{Path, components}
use Rattle.zw_def.specs.ConstantPath.{ConstantPath}
use Rattle.zw_def.specs.Inflector.{Overrides, default_inflector, gem_inflector}
use Rattle.zw_def.specs.Layout.{Root}
use Rattle.zw_def_syntax.specs.Tree.{Program, Tree}
use Rattle.zw_def_world.specs.Callback.{Callback, Moment}
use Rattle.zw_def_session.specs.Opening.{Configuration, refused_configuration}
use Rattle.zw_def_config.specs.Configuration.{configured}

-- lines, each with LF
abbrev pub text_of : List String → Text
text_of [] = []
text_of (line ∷ lines) = codes line ++ codes "\n" ++ text_of lines

abbrev pub path : String → Path
path text = components (codes text)

abbrev pub own_path : Path
own_path = path "zw.toml"

-- the lines say the configuration
abbrev pub Says : List String → Configuration → Type 0
Says lines c = configured own_path (text_of lines) ≡ Ok c

-- the lines are refused with this line, and the status of a refused configuration
abbrev pub IsRefused : List String → String → Type 0
IsRefused lines line =
    configured own_path (text_of lines) ≡ Err (record { line = codes line; status = refused_configuration })

-- ---- short words for configurations

abbrev pub root_in : String → ConstantPath → Root
root_in text namespace = record { path = path text; namespace = namespace }

abbrev pub root : String → Root
root text = root_in text []

-- no key is given but these roots
abbrev pub with_roots : List Root → Configuration
with_roots roots = record {
  path = own_path;
  layout = record { roots = roots; ignore = []; collapse = []; no_eager = []; inflector = default_inflector [] };
  callbacks = [];
  reloading = false;
  eager = false;
  boot = None;
}

abbrev pub empty : Configuration
empty = with_roots []

abbrev pub reloading : Configuration → Configuration
reloading c = record c { reloading = true }

abbrev pub eager : Configuration → Configuration
eager c = record c { eager = true }

abbrev pub booting : String → Configuration → Configuration
booting text c = record c { boot = Some (path text) }

abbrev pub ignoring : List String → Configuration → Configuration
ignoring patterns c = record c { layout = record c.layout { ignore = map path patterns } }

abbrev pub collapsing : List String → Configuration → Configuration
collapsing patterns c = record c { layout = record c.layout { collapse = map path patterns } }

abbrev pub not_eager : List String → Configuration → Configuration
not_eager patterns c = record c { layout = record c.layout { no_eager = map path patterns } }

abbrev pub override : String → String → Text × Text
override base name = (codes base, codes name)

abbrev pub inflecting : Overrides → Configuration → Configuration
inflecting overrides c = record c { layout = record c.layout { inflector = default_inflector overrides } }

abbrev pub of_gem : String → Overrides → Configuration → Configuration
of_gem main overrides c = record c { layout = record c.layout { inflector = gem_inflector overrides (path main) } }

-- a callback of one statement, on the first line
abbrev pub callback : Moment → Option ConstantPath → Tree → Callback
callback moment target tree =
    record { moment = moment; target = target; program = record { line = 1; tree = tree } ∷ [] }

abbrev pub calling : List Callback → Configuration → Configuration
calling callbacks c = record c { callbacks = callbacks }
