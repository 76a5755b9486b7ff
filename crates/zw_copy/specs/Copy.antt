-- What a copy is: it stands for the same, by whatever names, and holds the same names. Texts lie in memory of their
-- own, so that a copy is not the same value.
use Rattle.std.specs.Prelude.{◌≡◌, ℕ, List, [], ◌∷◌, Option, map}
use Rattle.std.specs.Option.{option_map}
use Rattle.zw_def.specs.Text.{Text}
use Rattle.zw_def_syntax.specs.Tree.{Parts}
use Rattle.zw_ast.specs.declared.node.Node.{Node}
use Rattle.zw_ast.specs.declared.node.Part.{Part}
use Rattle.zw_ast.specs.declared.node.Rescue.{Rescue}
use Rattle.zw_ast.specs.declared.node.Default.{Default}
use Rattle.zw_ast.specs.declared.node.Base.{Base}
use Rattle.zw_ast.specs.declared.program.Program.{Program}
use Rattle.zw_ast.specs.declared.program.Statement.{Statement}
use Rattle.zw_ast.specs.Named.{bound_of, greatest, part_names, rescue_names, default_names, base_names}
use Rattle.zw_ast.specs.Node.{tree_seen, parts_of, part_seen, rescue_seen, default_seen, base_seen}
use Rattle.zw_ast.specs.Program.{program_seen, statement_seen, statement_names}

-- the new one stands for the same as the old one, where these tell what each stands for and which names it holds
pub record IsSame {A X N : Type 0} (tell : List Text → A → X) (holds : A → N) (old new : A) : Type 0 where
  pub told : (names : List Text) → tell names new ≡ tell names old
  pub named : holds new ≡ holds old

abbrev pub IsCopy : Node → Node → Type 0
IsCopy = IsSame tree_seen bound_of

-- ---- rows, and what may be absent

abbrev pub AreSame : {A X : Type 0} → (List Text → A → X) → (A → ℕ) → List A → List A → Type 0
AreSame tell holds = IsSame (λ names xs. map (tell names) xs) (map holds)

abbrev pub AreCopies : List Node → List Node → Type 0
AreCopies = AreSame tree_seen bound_of

abbrev pub IsCopyIfAny : Option Node → Option Node → Type 0
IsCopyIfAny = IsSame (λ names o. option_map (tree_seen names) o) (option_map bound_of)

abbrev pub AreCopiesIfAny : Option (List Node) → Option (List Node) → Type 0
AreCopiesIfAny =
    IsSame (λ names o. option_map (map (tree_seen names)) o) (option_map (map bound_of))

-- ---- what stands beside nodes

abbrev pub part_told : List Text → Part Node → Parts
part_told names part = parts_of (part_seen names part ∷ [])

abbrev pub IsPartCopy : Part Node → Part Node → Type 0
IsPartCopy = IsSame part_told part_names

abbrev pub ArePartCopies : List (Part Node) → List (Part Node) → Type 0
ArePartCopies = AreSame part_told part_names

abbrev pub IsRescueCopy : Rescue Node → Rescue Node → Type 0
IsRescueCopy = IsSame rescue_seen rescue_names

abbrev pub AreRescueCopies : List (Rescue Node) → List (Rescue Node) → Type 0
AreRescueCopies = AreSame rescue_seen rescue_names

abbrev pub IsDefaultCopy : Default Node → Default Node → Type 0
IsDefaultCopy = IsSame default_seen default_names

abbrev pub AreDefaultCopies : List (Default Node) → List (Default Node) → Type 0
AreDefaultCopies = AreSame default_seen default_names

abbrev pub IsBaseCopy : Base Node → Base Node → Type 0
IsBaseCopy = IsSame base_seen base_names

-- ---- programs

abbrev pub AreStatementCopies : List Statement → List Statement → Type 0
AreStatementCopies = AreSame statement_seen statement_names

-- a number that no name of the program reaches
abbrev pub program_names : Program → ℕ
program_names program = greatest statement_names program.statements.items

abbrev pub IsProgramCopy : Program → Program → Type 0
IsProgramCopy = IsSame program_seen program_names
