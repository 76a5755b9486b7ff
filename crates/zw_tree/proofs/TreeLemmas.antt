-- Trees that have the same texts are the same, and sound rows tell a tree.
use Rattle.std.proofs.Common.{◌≡◌, Bool, true, false, ◌&&◌, cond, Some, None, List, [], ◌∷◌, ◌++◌, map, refl, ap, sym, ◌∙◌, subst}
use Rattle.std.specs.List.{AllByRecursion}
use Rattle.std.specs.Ordering.{is_eq, ordering_then, ordering_reverse}
use Rattle.std.specs.Cmp.Lexicographic.{lists_equiv, nat_list_eq_equiv}
use Rattle.std.specs.declared.cmp.Ordering.{Ordering}
use Rattle.std.specs.declared.cmp.Ordering.TheVariants.{Less, Equal, Greater}
use Rattle.zw_def.specs.Text.{Text}
use Rattle.zw_def.specs.Path.{Path, same_path, is_below, path_cmp, precedes}
use Rattle.zw_def.specs.Tree.{File, Tree, with_file}
use Rattle.zw_def.proofs.PathLemmas.{same_path-Decides}
use Rattle.zw_def.proofs.PathOrderLemmas.{path_total, same_tied}
use Rattle.zw_tree.specs.Row.{Node, Rows, Row, file, folder, no_rows, row, listed, rows_of, below, told, told_rows}
use Rattle.zw_tree.specs.Sound.{IsWhole, AreSound, IsSound}
use Rattle.zw_tree.specs.Strict.{Apart, IsTree}
use Rattle.zw_tree.specs.Text.{text_at}
use Rattle.zw_tree.specs.Edit.{without_file, tree_with}
use Rattle.zw_tree.specs.Middle.{inner, BeginsAfter, AllBegin}
use Rattle.zw_tree.proofs.NameLemmas.{cmp-same, eq-after, below-below}
use Rattle.zw_tree.proofs.RowLemmas.{told_rows-of, told-listed, files_under-inner, begins_after}
use Rattle.zw_tree.proofs.SoundLemmas.{sound_rows}
use Rattle.zw_tree.proofs.MiddleLemmas.{text-first, without-other, without-same}

-- ---- rows tell a tree

apart_below : (c : Text) (f g : File) → Apart f g → Apart (below c f) (below c g)
apart_below c f g h = record { rises = ap (λ o. ordering_then o (path_cmp f.path g.path)) (cmp-same c) ∙ h.rises; apart = below-below c g.path f.path ∙ h.apart }

apart_after : (c : Text) (f : File) (ys : Tree) → AllBegin (BeginsAfter c) ys → AllByRecursion (Apart (below c f)) ys
apart_after c f [] all = tt
apart_after c f (g ∷ gs) all = (by g.path g.text all.0, apart_after c f gs all.1) where
  by : (p : Path) (text : Text) → BeginsAfter c p → Apart (below c f) record { path = p; text = text }
  by [] text e = absurd e
  by (d ∷ ds) text e = record { rises = ap (λ o. ordering_then o (path_cmp f.path ds)) e; apart = ap (λ x. x && is_below ds f.path) (eq-after d c e) }

apart_more : (c : Text) (f : File) (tree ys : Tree) → AllByRecursion (Apart f) tree → AllByRecursion (Apart (below c f)) ys → AllByRecursion (Apart (below c f)) (map (below c) tree ++ ys)
apart_more c f [] ys all more = more
apart_more c f (g ∷ gs) ys all more = (apart_below c f g all.0, apart_more c f gs ys all.1 more)

tree_append : (c : Text) (tree ys : Tree) → IsTree tree → AllBegin (BeginsAfter c) ys → IsTree ys → IsTree (map (below c) tree ++ ys)
tree_append c [] ys is after more = more
tree_append c (f ∷ fs) ys is after more = (apart_more c f fs ys is.0 (apart_after c f ys after), tree_append c fs ys is.1 after more)

mutual
  tree_rows : (rows : Rows) → AreSound rows → IsTree (told_rows rows)
  tree_rows no_rows sound = tt
  tree_rows (row name node more) sound =
      subst (λ t. IsTree (t ++ told_rows more)) (sym (files_under-inner name node)) (tree_append name (inner node) (told_rows more) (tree_node node sound.0) (subst (AllBegin (BeginsAfter name)) (told-listed more) (begins_after name (listed more) sound.1)) (tree_rows more sound.2))

  tree_node : (node : Node) → IsWhole node → IsTree (inner node)
  tree_node (file text) whole = (tt, tt)
  tree_node (folder rows) whole = tree_rows rows whole.1

pub tree_told : (rows : List Row) → IsSound rows → IsTree (told rows)
tree_told rows sound = subst IsTree (told_rows-of rows) (tree_rows (rows_of rows) (sound_rows rows sound))

-- ---- texts tell a tree

-- a path that stands before each file has no text
absent : (p : Path) (fs : Tree) → AllByRecursion (λ (g : File). path_cmp p g.path ≡ Less) fs → text_at p fs ≡ None
absent p [] all = refl
absent p (g ∷ gs) all = text-first g gs p false (same_tied g.path p ∙ ap is_eq (path_total.antisymm g.path p ∙ ap ordering_reverse all.0)) ∙ absent p gs all.1

risen : (f : File) (fs : Tree) → AllByRecursion (Apart f) fs → AllByRecursion (λ (g : File). path_cmp f.path g.path ≡ Less) fs
risen f [] all = tt
risen f (g ∷ gs) all = (all.0.rises, risen f gs all.1)

before_all : (p : Path) (f : File) (fs : Tree) → path_cmp p f.path ≡ Less → AllByRecursion (Apart f) fs → AllByRecursion (λ (g : File). path_cmp p g.path ≡ Less) fs
before_all p f [] e all = tt
before_all p f (g ∷ gs) e all = (path_total.trans p f.path g.path e all.0.rises, before_all p f gs e all.1)

own : (f : File) (fs : Tree) → text_at f.path (f ∷ fs) ≡ Some f.text
own f fs = text-first f fs f.path true ((same_path-Decides f.path f.path).1 refl)

pub same_trees : (t u : Tree) → IsTree t → IsTree u → ((p : Path) → text_at p t ≡ text_at p u) → t ≡ u
same_trees [] [] a b e = refl
same_trees [] (g ∷ gs) a b e = (let h : None ≡ Some g.text = e g.path ∙ own g gs in cc)
same_trees (f ∷ fs) [] a b e = (let h : Some f.text ≡ None = sym (own f fs) ∙ e f.path in cc)
same_trees (f ∷ fs) (g ∷ gs) a b e = by (path_cmp f.path g.path) refl (same_trees fs gs a.1 b.1) where
  by : (o : Ordering) → path_cmp f.path g.path ≡ o → (((p : Path) → text_at p fs ≡ text_at p gs) → fs ≡ gs) → (f ∷ fs) ≡ (g ∷ gs)
  by Less o more = (let h : Some f.text ≡ None = sym (own f fs) ∙ e f.path ∙ absent f.path (g ∷ gs) (o, before_all f.path g gs o b.0) in cc)
  by Greater o more =
      let turned : path_cmp g.path f.path ≡ Less = path_total.antisymm g.path f.path ∙ ap ordering_reverse o in
      let h : None ≡ Some g.text = sym (absent g.path (f ∷ fs) (turned, before_all g.path f fs turned a.0)) ∙ e g.path ∙ own g gs in
      cc
  by Equal o more =
      let path : f.path ≡ g.path = (same_path-Decides f.path g.path).0 (same_tied f.path g.path ∙ ap is_eq o) in
      let texts : Some f.text ≡ Some g.text = sym (own f fs) ∙ e f.path ∙ ap (λ p. text_at p (g ∷ gs)) path ∙ own g gs in
      let text : f.text ≡ g.text = cc in
      let rest : (p : Path) → text_at p fs ≡ text_at p gs = λ p. at p (same_path f.path p) refl path in
      (λ i. record { path = path i; text = text i } ∷ more rest i) where
        at : (p : Path) (b' : Bool) → same_path f.path p ≡ b' → f.path ≡ g.path → text_at p fs ≡ text_at p gs
        at p true s path =
            let is : f.path ≡ p = (same_path-Decides f.path p).0 s in
            ap (λ q. text_at q fs) (sym is) ∙ absent f.path fs (risen f fs a.0) ∙ sym (ap (λ q. text_at q gs) (sym (sym path ∙ is)) ∙ absent g.path gs (risen g gs b.0))
        at p false s path = sym (text-first f fs p false s) ∙ e p ∙ text-first g gs p false (ap (λ q. same_path q p) (sym path) ∙ s)

-- ---- texts after an edit

pub text_without : (tree : Tree) (p q : Path) → text_at q (without_file tree p) ≡ cond (same_path p q) None (text_at q tree)
text_without [] p q = by (same_path p q) where
  by : (b : Bool) → text_at q [] ≡ cond b None (text_at q [])
  by true = refl
  by false = refl
text_without (f ∷ fs) p q = at (same_path f.path p) refl (same_path f.path q) refl (text_without fs p q) where
  at : (a : Bool) → same_path f.path p ≡ a → (b : Bool) → same_path f.path q ≡ b → text_at q (without_file fs p) ≡ cond (same_path p q) None (text_at q fs) → text_at q (without_file (f ∷ fs) p) ≡ cond (same_path p q) None (text_at q (f ∷ fs))
  at true e b h more =
      let is : f.path ≡ p = (same_path-Decides f.path p).0 e in
      let same : same_path p q ≡ b = ap (λ x. same_path x q) (sym is) ∙ h in
      ap (text_at q) (without-same f fs p e) ∙ more ∙ (λ i. cond (same i) None (text_at q fs)) ∙ chosen b ∙ (λ i. cond (sym same i) None (sym (text-first f fs q b h) i)) where
        chosen : (x : Bool) → cond x None (text_at q fs) ≡ cond x None (cond x (Some f.text) (text_at q fs))
        chosen true = refl
        chosen false = refl
  at false e true h more =
      let is : f.path ≡ q = (same_path-Decides f.path q).0 h in
      let other : same_path p q ≡ false = (lists_equiv nat_list_eq_equiv).symm p q ∙ ap (λ x. same_path x p) (sym is) ∙ e in
      ap (text_at q) (without-other f fs p e) ∙ text-first f (without_file fs p) q true h ∙ (λ i. cond (sym other i) None (sym (text-first f fs q true h) i))
  at false e false h more = ap (text_at q) (without-other f fs p e) ∙ text-first f (without_file fs p) q false h ∙ more ∙ ap (cond (same_path p q) None) (sym (text-first f fs q false h))

module _ (p : Path) (text : Text) where
  abbrev new : File
  new = record { path = p; text = text }

  text_with_new : (tree : Tree) (q : Path) → text_at p tree ≡ None → text_at q (with_file tree p text) ≡ cond (same_path p q) (Some text) (text_at q tree)
  text_with_new [] q none = text-first new [] q (same_path p q) refl
  text_with_new (f ∷ fs) q none = at (same_path f.path p) refl (text_with_new fs q) where
    at : (a : Bool) → same_path f.path p ≡ a → (text_at p fs ≡ None → text_at q (with_file fs p text) ≡ cond (same_path p q) (Some text) (text_at q fs)) → text_at q (with_file (f ∷ fs) p text) ≡ cond (same_path p q) (Some text) (text_at q (f ∷ fs))
    at true e more = (let h : Some f.text ≡ None = sym (text-first f fs p true e) ∙ none in cc)
    at false e more = by (precedes p f.path) (more (sym (text-first f fs p false e) ∙ none)) where
      by : (b : Bool) → text_at q (with_file fs p text) ≡ cond (same_path p q) (Some text) (text_at q fs) → text_at q (cond b (new ∷ f ∷ fs) (f ∷ with_file fs p text)) ≡ cond (same_path p q) (Some text) (text_at q (f ∷ fs))
      by true m = text-first new (f ∷ fs) q (same_path p q) refl
      by false m = here (same_path f.path q) refl where
        here : (h : Bool) → same_path f.path q ≡ h → text_at q (f ∷ with_file fs p text) ≡ cond (same_path p q) (Some text) (text_at q (f ∷ fs))
        here true k =
            let is : f.path ≡ q = (same_path-Decides f.path q).0 k in
            let other : same_path p q ≡ false = (lists_equiv nat_list_eq_equiv).symm p q ∙ ap (λ x. same_path x p) (sym is) ∙ e in
            text-first f (with_file fs p text) q true k ∙ (λ i. cond (sym other i) (Some text) (sym (text-first f fs q true k) i))
        here false k = text-first f (with_file fs p text) q false k ∙ m ∙ ap (cond (same_path p q) (Some text)) (sym (text-first f fs q false k))

  pub text_with : (tree : Tree) (q : Path) → text_at q (tree_with tree p text) ≡ cond (same_path p q) (Some text) (text_at q tree)
  text_with tree q =
      let gone = text_without tree p p ∙ ap (λ b. cond b None (text_at p tree)) ((same_path-Decides p p).1 refl) in
      text_with_new (without_file tree p) q gone ∙ ap (cond (same_path p q) (Some text)) (text_without tree p q) ∙ by (same_path p q) where
        by : (b : Bool) → cond b (Some text) (cond b None (text_at q tree)) ≡ cond b (Some text) (text_at q tree)
        by true = refl
        by false = refl
