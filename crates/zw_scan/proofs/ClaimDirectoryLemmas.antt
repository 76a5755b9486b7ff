-- What the directories of a tree are expected to define, root by root.
use Rattle.std.proofs.Common.{◌≡◌, ℕ, ◌+◌, ◌<◌, Bool, true, false, not, cond, List, [], ◌∷◌, ◌++◌, map, filter_map, length, take, get_or, Option, Some, None, is_some, refl, ap, sym, ◌∙◌, append_assoc, append-nil}
use Rattle.std.specs.List.{AllByRecursion, cons_option, filter, flat_map}
use Rattle.std.proofs.lemmas.Bool.{and_parts}
use Rattle.std.proofs.lemmas.List.{map-append, take_more}
use Rattle.std.proofs.lemmas.List.Elements.{filter_map-append}
use Rattle.zw_def.specs.Path.{Path}
use Rattle.zw_def.specs.Tree.{File, Tree}
use Rattle.zw_def.specs.Layout.{Layout, Root, root_of, is_ignored, is_collapsed, belongs_to}
use Rattle.zw_def.specs.Visible.{is_visible, keys_of, visible_files, counting_directories}
use Rattle.zw_def.specs.Expected.{directory_path}
use Rattle.zw_tree.specs.Strict.{Apart as FilesApart, IsTree}
use Rattle.zw_scan.specs.Directories.{directories_below}
use Rattle.zw_scan.specs.ClaimTold.{told_at, directory_told, directories_told, directories_above_told}
use Rattle.zw_scan.proofs.AmongLemmas.{rising_filter}
use Rattle.zw_scan.proofs.BeginningLemmas.{Before}
use Rattle.zw_scan.proofs.AboveLemmas.{Apart, Spread, Follow}
use Rattle.zw_scan.proofs.RootLemmas.{root_is}
use Rattle.zw_scan.proofs.DirectoryLemmas.{counted-is}

-- ---- lists

pub flat_map-append : {X Y : Type 0} (f : X → List Y) (xs ys : List X) → flat_map f (xs ++ ys) ≡ flat_map f xs ++ flat_map f ys
flat_map-append f [] ys = refl
flat_map-append f (x ∷ xs) ys = ap (λ l. f x ++ l) (flat_map-append f xs ys) ∙ sym (append_assoc (f x) (flat_map f xs) (flat_map f ys))

-- one more of what is told
pub flat_map_more : {A X Y : Type 0} (g : A → X) (f : X → List Y) (xs : List A) (i : ℕ) (x : A) → i < length xs → x ≡ get_or xs i x → flat_map f (map g (take (i + 1) xs)) ≡ flat_map f (map g (take i xs)) ++ f (g x)
flat_map_more g f xs i x lt at =
    ap (λ l. flat_map f (map g l)) (take_more xs i x lt)
    ∙ ap (flat_map f) (map-append g (take i xs) (get_or xs i x ∷ []))
    ∙ flat_map-append f (map g (take i xs)) (g (get_or xs i x) ∷ [])
    ∙ ap (λ l. flat_map f (map g (take i xs)) ++ l) (append-nil (f (g (get_or xs i x))))
    ∙ ap (λ y. flat_map f (map g (take i xs)) ++ f (g y)) (sym at)

pub filter_map-flat : {X Y Z : Type 0} (g : Y → Option Z) (f : X → List Y) (xs : List X) → filter_map g (flat_map f xs) ≡ flat_map (λ x. filter_map g (f x)) xs
filter_map-flat g f [] = refl
filter_map-flat g f (x ∷ xs) = filter_map-append g (f x) (flat_map f xs) ∙ ap (λ l. filter_map g (f x) ++ l) (filter_map-flat g f xs)

filter_map-unless : {X Y : Type 0} (test : X → Bool) (g : X → Option Y) (xs : List X) → filter_map g (filter (λ x. not (test x)) xs) ≡ filter_map (λ x. cond (test x) None (g x)) xs
filter_map-unless test g [] = refl
filter_map-unless test g (x ∷ xs) = by (test x) (filter_map-unless test g xs) where
  by : (b : Bool) → filter_map g (filter (λ y. not (test y)) xs) ≡ filter_map (λ y. cond (test y) None (g y)) xs → filter_map g (cond (not b) (x ∷ filter (λ y. not (test y)) xs) (filter (λ y. not (test y)) xs)) ≡ cons_option (cond b None (g x)) (filter_map (λ y. cond (test y) None (g y)) xs)
  by true more = more
  by false more = ap (cons_option (g x)) more

-- ---- trees

paths_apart : (f : File) (fs : Tree) → AllByRecursion (FilesApart f) fs → AllByRecursion (Apart f.path) (keys_of fs)
paths_apart f [] all = tt
paths_apart f (g ∷ fs) all = ((all.0.rises, all.0.apart), paths_apart f fs all.1)

keys_spread : (tree : Tree) → IsTree tree → Spread (keys_of tree)
keys_spread [] is = tt
keys_spread (f ∷ fs) is = (paths_apart f fs is.0, keys_spread fs is.1)

pub visible_spread : (layout : Layout) (tree : Tree) → IsTree tree → Spread (visible_files layout tree)
visible_spread layout tree is = rising_filter Apart (is_visible layout) (keys_of tree) (keys_spread tree is)

visible_some : (layout : Layout) (p : Path) → is_visible layout p ≡ true → Before [] p
visible_some layout (c ∷ p) is = refl
visible_some layout [] is = by (root_of layout []) refl (and_parts (is_some (root_of layout [])) (not (is_ignored layout [])) is).0 where
  by : (o : Option Root) → root_of layout [] ≡ o → is_some o ≡ true → Before [] []
  by None e h = cc
  by (Some r) e h = (let bad : false ≡ true = (root_is layout [] r e).below in cc)

follow_visible : (layout : Layout) (ps : List Path) → Follow [] (filter (is_visible layout) ps)
follow_visible layout [] = tt
follow_visible layout (p ∷ ps) = by (is_visible layout p) refl (follow_visible layout ps) where
  by : (b : Bool) → is_visible layout p ≡ b → Follow [] (filter (is_visible layout) ps) → Follow [] (cond b (p ∷ filter (is_visible layout) ps) (filter (is_visible layout) ps))
  by true e more = (visible_some layout p e, more)
  by false e more = more

-- ---- what they are expected to define

module _ (layout : Layout) (tree : Tree) (is : IsTree tree) where
  abbrev is_named : Path → Bool
  is_named d = not (is_collapsed layout d)

  one : (root : Root) → filter_map (directory_told layout) (directories_below layout root (visible_files layout tree)) ≡ filter_map (told_at (directory_path layout)) (filter (belongs_to layout root) (filter is_named (counting_directories layout tree)))
  one root =
      sym (filter_map-unless (is_collapsed layout) (told_at (directory_path layout)) (directories_below layout root (visible_files layout tree)))
      ∙ sym (ap (filter_map (told_at (directory_path layout))) (counted-is layout (visible_files layout tree) (visible_spread layout tree is) (follow_visible layout (keys_of tree)) is_named root))

  pub directories_told-is : (files : List Path) → files ≡ visible_files layout tree → directories_above_told layout files ≡ directories_told layout tree
  directories_told-is files same =
      ap (directories_above_told layout) same
      ∙ ap (λ f. flat_map f layout.roots) (λ i root. one root i)
      ∙ sym (filter_map-flat (told_at (directory_path layout)) (λ root. filter (belongs_to layout root) (filter is_named (counting_directories layout tree))) layout.roots)
