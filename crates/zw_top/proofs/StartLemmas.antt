-- The files of a tree, by their paths.
use Rattle.std.proofs.Common.{◌≡◌, List, [], ◌∷◌, ◌++◌, length, Option, Some, None, Ok, Err, cond, refl, sym, ap, append-nil, ◌∙◌}
use Rattle.std.specs.List.{find, filter_map, cons_option, AllByRecursion}
use Rattle.std.specs.Option.{option_map, option_map_or}
use Rattle.std.proofs.lemmas.List.{nil_from_length}
use Rattle.std.specs.Ordering.{is_eq}
use Rattle.zw_def.specs.Text.{Text}
use Rattle.zw_def.specs.Path.{Path, same_path}
use Rattle.zw_def.specs.Tree.{File, Tree}
use Rattle.zw_def.specs.Visible.{keys_of}
use Rattle.zw_def.proofs.PathLemmas.{same_path-Decides}
use Rattle.zw_def.proofs.PathOrderLemmas.{same_tied}
use Rattle.zw_def_thin.specs.Refusal.{bad_namespace}
use Rattle.zw_def_thin.specs.Root.{Plan}
use Rattle.zw_def_thin.specs.Session.{boot_world, session_of, stray_of, with_namespaces}
use Rattle.zw_tree.specs.Strict.{Apart, IsTree}
use Rattle.zw_tree.specs.Text.{text_at}

-- the file at the path, if there is one
abbrev pub file_at : Tree → Path → Option File
file_at tree path = option_map (λ text. record { path = path; text = text }) (text_at path tree)

-- the file is found by its path
abbrev IsFound : Tree → File → Type 0
IsFound tree f = text_at f.path tree ≡ Some f.text

found_behind : (f : File) (fs gs : Tree) → AllByRecursion (Apart f) gs → AllByRecursion (IsFound fs) gs → AllByRecursion (IsFound (f ∷ fs)) gs
found_behind f fs [] apart found = tt
found_behind f fs (g ∷ gs) apart found = (
  ap (λ b. option_map (λ h. h.text) (cond b (Some f) (find (λ h. same_path h.path g.path) fs))) (same_tied f.path g.path ∙ ap is_eq apart.0.rises) ∙ found.0,
  found_behind f fs gs apart.1 found.1,
)

all_found : (tree : Tree) → IsTree tree → AllByRecursion (IsFound tree) tree
all_found [] is = tt
all_found (f ∷ fs) is = (
  ap (λ b. option_map (λ h. h.text) (cond b (Some f) (find (λ h. same_path h.path f.path) fs))) ((same_path-Decides f.path f.path).1 refl),
  found_behind f fs fs is.0 (all_found fs is.1),
)

files_among : (tree fs : Tree) → AllByRecursion (IsFound tree) fs → filter_map (file_at tree) (keys_of fs) ≡ fs
files_among tree [] found = refl
files_among tree (f ∷ fs) found =
    ap (λ o. cons_option (option_map (λ text. record { path = f.path; text = text }) o) (filter_map (file_at tree) (keys_of fs))) found.0
    ∙ ap (λ gs. f ∷ gs) (files_among tree fs found.1)

-- a tree is the files at its paths
pub files_by_path : (tree : Tree) → IsTree tree → filter_map (file_at tree) (keys_of tree) ≡ tree
files_by_path tree is = files_among tree tree (all_found tree is)

-- all paths are read
pub files_done : (tree : Tree) (made : List File) (left : List Path) → length left ≡ 0 → IsTree tree → made ++ filter_map (file_at tree) left ≡ filter_map (file_at tree) (keys_of tree) → made ≡ tree
files_done tree made left none is told =
    sym (append-nil made) ∙ ap (λ l. made ++ filter_map (file_at tree) l) (sym (nil_from_length left none)) ∙ told ∙ files_by_path tree is

-- ---- namespaces

-- no namespace is missing, or the first one that is is told
pub all_lead : (path : Path) (plan : Plan) (tree : Tree) → stray_of (boot_world plan.layout) plan.layout ≡ None → with_namespaces path plan tree ≡ Ok (session_of path plan tree)
all_lead path plan tree none = ap (λ o. option_map_or (λ text. Err (bad_namespace text)) o (Ok (session_of path plan tree))) none

pub one_strays : (path : Path) (plan : Plan) (tree : Tree) (text : Text) → stray_of (boot_world plan.layout) plan.layout ≡ Some text → with_namespaces path plan tree ≡ Err (bad_namespace text)
one_strays path plan tree text is = ap (λ o. option_map_or (λ t. Err (bad_namespace t)) o (Ok (session_of path plan tree))) is
