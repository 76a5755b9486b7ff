-- Expected paths, component by component.
use Rattle.std.proofs.Common.{◌≡◌, ℕ, zero, suc, ◌+◌, ◌<◌, ◌≤◌, true, false, cond, List, [], ◌∷◌, ◌++◌, length, take, drop, get_or, Option, Some, None, option_map, Result, Ok, Err, IfSome, refl, ap, sym, subst, ◌∙◌, arith, length-take-le}
use Rattle.std.specs.List.{last_or, Contains}
use Rattle.std.proofs.lemmas.List.Elements.{All-contains}
use Rattle.std.specs.Option.{unwrap_or}
use Rattle.std.specs.Result.{IsErrAnd}
use Rattle.std.proofs.lemmas.List.{get_or-take, take_more, drop_all}
use Rattle.zw_lemmas.proofs.ListLemmas.{drop-at}
use Rattle.zw_base.specs.declared.fault.Fault.{Fault}
use Rattle.zw_base.specs.declared.fault.Fault.TheVariants.{Refused, Memory}
use Rattle.zw_def.specs.Text.{Text}
use Rattle.zw_def.specs.Path.{Path}
use Rattle.zw_def.specs.Base.{base_of}
use Rattle.zw_def.specs.ConstantPath.{ConstantPath}
use Rattle.zw_def.specs.Layout.{is_collapsed}
use Rattle.zw_def.specs.Layout as defined
use Rattle.zw_def.specs.Names.{AreNamed, OnlyGrows, texts_of}
use Rattle.zw_def.specs.Nesting.{parent_of}
use Rattle.zw_def.specs.Expected.{Expected, named, named_by, named_directory, then_named, namespace_from, namespace_of, last_part, expected_of_file, expected_path, directory_path}
use Rattle.zw_def.proofs.NameLemmas.{OnlyGrows-same, AreNamed-grown, texts_of-grown}
use Rattle.zw_inflect.specs.declared.layout.Layout.{Layout}
use Rattle.zw_inflect.specs.declared.layout.Root.{Root}
use Rattle.zw_inflect.specs.Layout.{layout_seen, root_seen}
use Rattle.zw_layout.specs.declared.expected.WrongName.{WrongName}
use Rattle.zw_layout.specs.Above.{namespace_above}
use Rattle.zw_layout.specs.Deepest.{deepest}
use Rattle.zw_layout.proofs.DeepestLemmas.{deepest_seen, deepest_among}
use Rattle.zw_layout.specs.Expects.{Tells, ExpectsAny, AreNamespacesNamed, IsWrongAt}

-- ---- one name

pub tells_named : (fault : Fault WrongName) (path : Path) (p : ConstantPath) (name : Text) (told : Result Text Text) → told ≡ Err name → IsWrongAt fault name path → Tells fault (named_by p path told)
tells_named (Refused wrong) path p name told is at = ap (named_by p path) is ∙ ap Err (sym at)
tells_named Memory path p name told is at = tt

-- the last component
pub last_part-at : (path : Path) (i : ℕ) (d : Text) → suc i ≡ length path → last_part path ≡ get_or path i d
last_part-at [] i d is = absurd (omega (arith, is))
last_part-at (x ∷ xs) i d is = from x xs i is where
  from : (y : Text) (ys : Path) (k : ℕ) → suc k ≡ length (y ∷ ys) → unwrap_or (last_or (Some y) ys) [] ≡ get_or (y ∷ ys) k d
  from y [] k e = ap (λ n. get_or (y ∷ []) n d) (let z : 0 ≡ k = omega (arith, e) in z)
  from y (z ∷ zs) zero e = absurd (omega (arith, e))
  from y (z ∷ zs) (suc k) e = from z zs k (omega (arith, e))

-- ---- a directory, which is collapsed or not

pub collapsed_directory : (layout : defined.Layout) (directory : Path) (p : ConstantPath) → is_collapsed layout directory ≡ true → named_directory layout directory p ≡ Ok p
collapsed_directory layout directory p is = ap (λ b. cond b (Ok p) (named layout (last_part directory) directory p)) is

pub plain_directory : (layout : defined.Layout) (directory : Path) (p : ConstantPath) → is_collapsed layout directory ≡ false → named_directory layout directory p ≡ named layout (last_part directory) directory p
plain_directory layout directory p is = ap (λ b. cond b (Ok p) (named layout (last_part directory) directory p)) is

-- ---- one directory after the other

-- the names of the roots' namespaces play no part
pub namespace_from-names : (a b : List Text) (layout : Layout) (directory rest : Path) (p : ConstantPath) → namespace_from (layout_seen a layout) directory rest p ≡ namespace_from (layout_seen b layout) directory rest p
namespace_from-names a b layout directory [] p = refl
namespace_from-names a b layout directory (c ∷ cs) p = λ i. then_named (λ q. namespace_from-names a b layout (directory ++ c ∷ []) cs q i) (named_directory (layout_seen a layout) (directory ++ c ∷ []) p)

-- the namespace of the files of a directory, from the texts that the root's names had before others were made
pub namespace_whole : (old new : List Text) (layout : Layout) (root : Root) (directory : Path) → OnlyGrows old new → AreNamed old root.namespace
    → namespace_of (layout_seen new layout) (root_seen new root) directory ≡ namespace_from (layout_seen [] layout) root.path (drop (length root.path) directory) (texts_of old root.namespace)
namespace_whole old new layout root directory grows named =
    namespace_from-names new [] layout root.path (drop (length root.path) directory) (texts_of new root.namespace)
    ∙ ap (namespace_from (layout_seen [] layout) root.path (drop (length root.path) directory)) (texts_of-grown old new root.namespace grows named)

-- the next directory of those up to the end
pub namespace_next : (layout : defined.Layout) (path : Path) (end i : ℕ) (p : ConstantPath) (told : Expected) → i < end → end ≤ length path → named_directory layout (take (i + 1) path) p ≡ told
    → namespace_from layout (take i path) (drop i (take end path)) p ≡ then_named (namespace_from layout (take (i + 1) path) (drop (i + 1) (take end path))) told
namespace_next layout path end i p told lt within is =
    let size = length-take-le end path within in
    let rest = drop (i + 1) (take end path) in
    let cut : drop i (take end path) ≡ get_or path i [] ∷ rest = drop-at (take end path) i (i + 1) [] (omega (arith, size, lt)) (omega arith) ∙ ap (λ c. c ∷ rest) (get_or-take end path i [] lt) in
    let here : take i path ++ get_or path i [] ∷ [] ≡ take (i + 1) path = sym (take_more path i [] (omega (arith, lt, within))) in
    ap (λ cs. namespace_from layout (take i path) cs p) cut
    ∙ (λ j. then_named (namespace_from layout (here j) rest) (named_directory layout (here j) p))
    ∙ ap (then_named (namespace_from layout (take (i + 1) path) rest)) is

-- nothing is left at the end
pub namespace_end : (layout : defined.Layout) (directory path : Path) (end i : ℕ) (p : ConstantPath) → end ≤ i → end ≤ length path → namespace_from layout directory (drop i (take end path)) p ≡ Ok p
namespace_end layout directory path end i p le within = ap (λ cs. namespace_from layout directory cs p) (drop_all i (take end path) (omega (arith, le, length-take-le end path within)))

-- a wrong name ends it
pub tells_all : (fault : Fault WrongName) (next : ConstantPath → Expected) (told all : Expected) → all ≡ then_named next told → Tells fault told → Tells fault all
tells_all (Refused wrong) next told all is at = is ∙ ap (then_named next) at
tells_all Memory next told all is at = tt

pub err_is : {X E : Type 0} (r : Result X E) (fault : E) → IsErrAnd r (λ e. e ≡ fault) → r ≡ Err fault
err_is (Ok x) fault is = absurd is
err_is (Err e) fault is = ap Err is

-- ---- a file

pub parent-front : (path : Path) (n : ℕ) → n + 1 ≡ length path → take n path ≡ parent_of path
parent-front [] n is = absurd (omega (arith, is))
parent-front (x ∷ []) n is = ap (λ k. take k (x ∷ [])) (let z : n ≡ 0 = omega (arith, is) in z)
parent-front (x ∷ y ∷ more) zero is = absurd (omega (arith, is))
parent-front (x ∷ y ∷ more) (suc n) is = ap (λ p. x ∷ p) (parent-front (y ∷ more) n (omega (arith, is)))

pub file_below : (layout : defined.Layout) (root : defined.Root) (path : Path) → Some root ≡ defined.root_of layout path → expected_path layout path ≡ Some (expected_of_file layout root path)
file_below layout root path is = ap (option_map (λ r. expected_of_file layout r path)) (sym is)

pub directory_below : (layout : defined.Layout) (root : defined.Root) (path : Path) → Some root ≡ defined.root_of layout path → directory_path layout path ≡ Some (namespace_of layout root path)
directory_below layout root path is = ap (option_map (λ r. namespace_of layout r path)) (sym is)

pub namespace_below : (layout : defined.Layout) (root : defined.Root) (path : Path) → Some root ≡ defined.root_of layout path → namespace_above layout path ≡ Some (namespace_of layout root (parent_of path))
namespace_below layout root path is = ap (option_map (λ r. namespace_of layout r (parent_of path))) (sym is)

-- the names of the directory are told before that of the file is made
pub file_named : (old new : List Text) (layout : Layout) (root : Root) (path : Path) (n : ℕ) (p : ConstantPath) → OnlyGrows old new → AreNamed old root.namespace → n + 1 ≡ length path
    → namespace_of (layout_seen old layout) (root_seen old root) (take n path) ≡ Ok p → expected_of_file (layout_seen new layout) (root_seen new root) path ≡ named (layout_seen new layout) (base_of path) path p
file_named old new layout root path n p grows named_before size is =
    let later = namespace_whole old new layout root (parent_of path) grows named_before in
    let before = namespace_whole old old layout root (parent_of path) (OnlyGrows-same old) named_before in
    ap (then_named (named (layout_seen new layout) (base_of path) path)) (later ∙ sym before ∙ ap (namespace_of (layout_seen old layout) (root_seen old root)) (sym (parent-front path n size)) ∙ is)

-- a wrong name above it
pub file_unnamed : (fault : Fault WrongName) (names : List Text) (layout : Layout) (root : Root) (path : Path) (n : ℕ) → n + 1 ≡ length path
    → Tells fault (namespace_of (layout_seen names layout) (root_seen names root) (take n path)) → Tells fault (expected_of_file (layout_seen names layout) (root_seen names root) path)
file_unnamed fault names layout root path n size told =
    tells_all fault (named (layout_seen names layout) (base_of path) path) (namespace_of (layout_seen names layout) (root_seen names root) (take n path)) _ (ap (λ d. then_named (named (layout_seen names layout) (base_of path) path) (namespace_of (layout_seen names layout) (root_seen names root) d)) (sym (parent-front path n size))) told

pub any_fault : (names : List Text) (r : Result (Option (List ℕ)) (Fault WrongName)) (fault : Fault WrongName) (told : Expected) (any : Option Expected) → r ≡ Err fault → any ≡ Some told → Tells fault told → ExpectsAny names r any
any_fault names r (Refused wrong) told any is some at = subst (λ x. ExpectsAny names x any) (sym is) (some ∙ ap Some at)
any_fault names r Memory told any is some at = subst (λ x. ExpectsAny names x any) (sym is) tt

pub root_named : (names : List Text) (layout : Layout) (root : Root) → AreNamespacesNamed names layout → Contains layout.roots.items root → AreNamed names root.namespace
root_named names layout root named_all among = All-contains (λ r. AreNamed names r.namespace) layout.roots.items root named_all among

-- ---- names that are made later

-- what a file or a directory below a root is expected to define, whatever names are there
of_root : {X : Type 0} (old new : List Text) (layout : Layout) (path : Path) (f : defined.Layout → defined.Root → X) → ((root : Root) → AreNamed old root.namespace → f (layout_seen new layout) (root_seen new root) ≡ f (layout_seen old layout) (root_seen old root)) → AreNamespacesNamed old layout
    → option_map (f (layout_seen new layout)) (defined.root_of (layout_seen new layout) path) ≡ option_map (f (layout_seen old layout)) (defined.root_of (layout_seen old layout) path)
of_root old new layout path f same named_all =
    ap (option_map (f (layout_seen new layout))) (sym (deepest_seen new path layout.roots.items))
    ∙ by (deepest path layout.roots.items) (deepest_among path layout.roots.items)
    ∙ ap (option_map (f (layout_seen old layout))) (deepest_seen old path layout.roots.items)
  where
    by : (o : Option Root) → IfSome o (Contains layout.roots.items) → option_map (f (layout_seen new layout)) (option_map (root_seen new) o) ≡ option_map (f (layout_seen old layout)) (option_map (root_seen old) o)
    by None among = refl
    by (Some root) among = ap Some (same root (root_named old layout root named_all among))

namespace_later : (old new : List Text) (layout : Layout) (root : Root) (directory : Path) → OnlyGrows old new → AreNamed old root.namespace → namespace_of (layout_seen new layout) (root_seen new root) directory ≡ namespace_of (layout_seen old layout) (root_seen old root) directory
namespace_later old new layout root directory grows named_before =
    namespace_whole old new layout root directory grows named_before ∙ sym (namespace_whole old old layout root directory (OnlyGrows-same old) named_before)

pub file_later : (old new : List Text) (layout : Layout) (path : Path) → OnlyGrows old new → AreNamespacesNamed old layout → expected_path (layout_seen new layout) path ≡ expected_path (layout_seen old layout) path
file_later old new layout path grows named_all =
    of_root old new layout path (λ l root. expected_of_file l root path) (λ root n. ap (then_named (named (layout_seen old layout) (base_of path) path)) (namespace_later old new layout root (parent_of path) grows n)) named_all

pub directory_later : (old new : List Text) (layout : Layout) (path : Path) → OnlyGrows old new → AreNamespacesNamed old layout → directory_path (layout_seen new layout) path ≡ directory_path (layout_seen old layout) path
directory_later old new layout path grows named_all =
    of_root old new layout path (λ l root. namespace_of l root path) (λ root n. namespace_later old new layout root path grows n) named_all

pub above_later : (old new : List Text) (layout : Layout) (path : Path) → OnlyGrows old new → AreNamespacesNamed old layout → namespace_above (layout_seen new layout) path ≡ namespace_above (layout_seen old layout) path
above_later old new layout path grows named_all =
    of_root old new layout path (λ l root. namespace_of l root (parent_of path)) (λ root n. namespace_later old new layout root (parent_of path) grows n) named_all

pub namespaces_grown : (old new : List Text) (layout : Layout) → OnlyGrows old new → AreNamespacesNamed old layout → AreNamespacesNamed new layout
namespaces_grown old new layout grows named_all k root lt = AreNamed-grown old new _ grows (named_all k root lt)
