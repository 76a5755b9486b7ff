-- Two trees, and the paths that were put or taken out in the one since the other was made equal to it.
use Rattle.std.specs.Prelude.{◌≡◌, ℕ, Bool, true, false, not, ◌||◌, ◌≤◌, nat_lt, List, [], ◌∷◌, ◌++◌, length, if◌then◌else◌, Option, Some, None, Result, MatchResult}
use Rattle.std.specs.List.{list_any, AllByRecursion}
use Rattle.std.specs.Option.{option_or}
use Rattle.std.specs.declared.cmp.Ordering.TheVariants.{Less}
use Rattle.zw_def.specs.Text.{Text}
use Rattle.zw_def.specs.Path.{Path, same_path, path_cmp}
use Rattle.zw_def.specs.Tree.{Tree, is_ruby_path, size_of}
use Rattle.zw_tree.specs.Text.{text_at}
use Rattle.zw_tree.specs.Edit.{is_file_of, is_blocked, without_file, tree_with}
use Rattle.zw_tree.specs.declared.fault.TreeFault.{TreeFault}
use Rattle.zw_tree.specs.declared.fault.TreeFault.TheVariants.{Fixed, NotRuby, InTheWay, Missing, TooLarge}

-- the paths that no edit may name, the tree that is edited, the one that is mounted, and the paths that were edited
-- since, in the order of the edits
pub record Stage : Type 0 where
  pub fixed : List Path
  pub staged : Tree
  pub mounted : Tree
  pub touched : List Path

-- ---- limits

-- the files of a tree
unfoldable pub max_files : ℕ
max_files = 100000

-- the bytes of one file
unfoldable pub max_file : ℕ
max_file = 1048576

-- the bytes of a tree together
unfoldable pub max_tree : ℕ
max_tree = 268435456

abbrev pub is_too_large : Tree → Text → Bool
is_too_large tree text =
    nat_lt max_files (length tree) || nat_lt max_file (length text) || nat_lt max_tree (size_of tree)

-- ---- edits

abbrev pub is_fixed : Stage → Path → Bool
is_fixed s path = list_any (same_path path) s.fixed

-- the first reason for which no edit may name the path
abbrev pub path_refusal : Stage → Path → Option TreeFault
path_refusal s path =
    if is_fixed s path then Some Fixed else if not (is_ruby_path path) then Some NotRuby else None

-- the first reason for which a text is not put
abbrev pub put_refusal : Stage → Path → Text → Option TreeFault
put_refusal s path text =
    option_or (path_refusal s path)
    (if is_blocked s.staged path then Some InTheWay
    else if is_too_large (tree_with s.staged path text) text then Some TooLarge
    else None)

-- the first reason for which a file is not taken out
abbrev pub del_refusal : Stage → Path → Option TreeFault
del_refusal s path =
    option_or (path_refusal s path) (if not (is_file_of s.staged path) then Some Missing else None)

abbrev pub put_stage : Stage → Path → Text → Stage
put_stage s path text =
    record s { staged = tree_with s.staged path text; touched = s.touched ++ path ∷ [] }

abbrev pub del_stage : Stage → Path → Stage
del_stage s path = record s { staged = without_file s.staged path; touched = s.touched ++ path ∷ [] }

-- the path is among those
abbrev pub touches : List Path → Path → Bool
touches paths path = list_any (λ p. same_path p path) paths

-- in path order, each once
abbrev pub IsRising : List Path → Type 0
IsRising [] = Unit {0}
IsRising (p ∷ ps) = AllByRecursion (λ q. path_cmp p q ≡ Less) ps × IsRising ps

-- the trees agree where nothing was touched
abbrev pub AgreeBut : List Path → Tree → Tree → Type 0
AgreeBut paths tree other = (q : Path) → touches paths q ≡ false → text_at q tree ≡ text_at q other

-- they agree at these paths
abbrev pub AgreeOn : List Path → Tree → Tree → Type 0
AgreeOn paths tree other = (q : Path) → touches paths q ≡ true → text_at q tree ≡ text_at q other

-- the tree has no file at these paths
abbrev pub LacksAll : List Path → Tree → Type 0
LacksAll paths tree = (q : Path) → touches paths q ≡ true → text_at q tree ≡ None

-- the same paths, in any order and any number
abbrev pub AreSame : List Path → List Path → Type 0
AreSame paths others = (q : Path) → touches paths q ≡ touches others q

-- each file of the one is in the other
abbrev pub IsPartOf : Tree → Tree → Type 0
IsPartOf tree other = (q : Path) (text : Text) → text_at q tree ≡ Some text → text_at q other ≡ Some text

-- the staged tree is within the limits, and the trees agree where nothing was touched
pub record IsStage (s : Stage) : Type 0 where
  pub files : length s.staged ≤ max_files
  pub size : size_of s.staged ≤ max_tree
  pub settled : AgreeBut s.touched s.mounted s.staged

-- the files and bytes of the staged tree after a text of this size is put, or why it is not put
abbrev pub Grows : Stage → Path → ℕ → Result (ℕ × ℕ) TreeFault → Type 0
Grows s path size result = (text : Text) → length text ≡ size → MatchResult result
    (λ n. (put_refusal s path text ≡ None)
    × (n.0 ≡ length (tree_with s.staged path text))
    × (n.1 ≡ size_of (tree_with s.staged path text)))
    (λ fault. put_refusal s path text ≡ Some fault)
