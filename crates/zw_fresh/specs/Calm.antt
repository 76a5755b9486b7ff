-- The induction over evaluation, and what is handed in of a setting: that worlds have plain methods, and the load of a
-- stated key.
use Rattle.std.specs.Prelude.{◌≡◌, ℕ, Bool, true, false, List, Some, None, Ok}
use Rattle.zw_def.specs.Text.{Text}
use Rattle.zw_def.specs.Map.{Key}
use Rattle.zw_def_syntax.specs.Tree.{Tree, Program}
use Rattle.zw_def_syntax.specs.Program.{program_of}
use Rattle.zw_def_world.specs.Id.{Id}
use Rattle.zw_def_world.specs.Value.{Value, nil}
use Rattle.zw_def_world.specs.Table.{at}
use Rattle.zw_def_world.specs.Record.{Module}
use Rattle.zw_def_world.specs.World.{World}
use Rattle.zw_def_world.specs.LookUp.{loadable}
use Rattle.zw_def_world.specs.Load.{runs_program, loads}
use Rattle.zw_def_world.specs.Act.{Point, End, Act, gave, gives}
use Rattle.zw_def_world.specs.Evaluation.{run}
use Rattle.zw_def_session.specs.Plain.{is_plain}
use Rattle.zw_fresh.specs.CalmCode.{Plain, PlainWorld}
use Rattle.zw_fresh.specs.Naming.{NamesNone, ProgramNamesNone}
use Rattle.zw_fresh.specs.Alike.{Setting, IsThere, Worlds, Points, Ends, Acts}

-- from points alike, each plain program that names no older variable comes to ends alike
abbrev pub Evaluating : {calm : Bool} → Setting calm → (Tree → Act) → Type 0
Evaluating {calm} S go =
    (old : Text → Bool) (t : Tree) → NamesNone old t → Plain calm t → Acts calm S old (go t) (go t)

-- ---- what is handed in

-- A load that ended so is owed there: where it ends with a value, the constant stands in the module, and the points are
-- alike although nothing was done there; where steps are wanting here, less are left there than all loads cost.
pub record IsOwed (S : Setting true) (old : Text → Bool) (i : Id) (n : Text) (e : End) (p' : Point) : Type 0 where
  pub ends : Ends true S old e (gives nil p')
  pub there : (v : Value) → e.flow ≡ gave v → (m : Module) → e.at.world.modules i ≡ Some m → IsThere (at n m.constants)

-- where a module lacks a constant here, and a key would be loaded for it, the key is stated, and its load is owed
abbrev pub LoadsAreOwed : Setting true → (Tree → Act) → Type 0
LoadsAreOwed S go =
    (old : Text → Bool) (p p' : Point) → Points true S old p p' → (i : Id) (m : Module) (n : Text) (k : Key)
    → p.world.modules i ≡ Some m → at n m.constants ≡ None → loadable p.world m.home n ≡ Some k
    → (S.stated k.path ≡ true) × IsOwed S old i n (loads go k i n p) p'

-- a setting that is not calm needs no such thing
abbrev pub LoadsHanded : (calm : Bool) → Setting calm → (Tree → Act) → Type 0
LoadsHanded true S go = LoadsAreOwed S go
LoadsHanded false S go = Unit {0}

-- a load may use what is evaluated below it
pub record Handed {calm : Bool} (S : Setting calm) : Type 0 where
  pub plain : (w w' : World) → Worlds calm S w w' → PlainWorld calm w
  pub loads : (n level : ℕ) → Evaluating S (run n level) → LoadsHanded calm S (run n level)

-- ---- the law

-- each plain tree comes to ends alike, however deep it stands and whatever bounds it
abbrev pub PlainIsAlike : Setting true → Type 0
PlainIsAlike S = (n level : ℕ) → Evaluating S (run n level)

-- and so does each text's program that assigns no constant, opens no class or module and calls none of the special
-- methods
abbrev pub PlainProgramsAreAlike : Setting true → Type 0
PlainProgramsAreAlike S =
    (n level : ℕ) (old : Text → Bool) (known : List Text) (text : Text) (program : Program)
    → program_of known text ≡ Ok program → is_plain program ≡ true → ProgramNamesNone old program
    → Acts true S old (runs_program (run n level) program) (runs_program (run n level) program)
