-- What an edit and a look-up do at a path, by the files of the path's first name.
use Rattle.std.proofs.Common.{◌≡◌, Bool, true, false, not, ◌&&◌, ◌||◌, cond, Some, None, [], ◌∷◌, ◌++◌, map, refl, ap, sym, ◌∙◌}
use Rattle.std.specs.List.{find}
use Rattle.std.specs.Option.{option_map}
use Rattle.std.specs.Str.{bytes_eq}
use Rattle.std.specs.Cmp.Lexicographic.{nat_list_eq_equiv}
use Rattle.std.proofs.lemmas.List.{append-nil}
use Rattle.zw_def.specs.Text.{Text}
use Rattle.zw_def.specs.Path.{Path, same_path, is_below, precedes}
use Rattle.zw_def.specs.Tree.{File, Tree, with_file}
use Rattle.zw_tree.specs.Row.{below}
use Rattle.zw_tree.specs.Text.{text_at}
use Rattle.zw_tree.specs.Edit.{without_file, tree_with, is_blocked}
use Rattle.zw_tree.specs.Middle.{middle, BeginsBefore, BeginsAfter, AllBegin}
use Rattle.zw_tree.proofs.NameLemmas.{eq-before, eq-after, precedes-below, precedes-before, precedes-after, same-below, same-other, below-below}

-- the path begins with another name
abbrev pub BeginsOther : Text → Path → Type 0
BeginsOther name [] = ⊥
BeginsOther name (c ∷ cs) = bytes_eq c name ≡ false

pub other_before : (c : Text) (fs : Tree) → AllBegin (BeginsBefore c) fs → AllBegin (BeginsOther c) fs
other_before c [] all = tt
other_before c (f ∷ fs) all = (by f.path all.0, other_before c fs all.1) where
  by : (p : Path) → BeginsBefore c p → BeginsOther c p
  by [] e = e
  by (d ∷ ds) e = eq-before d c e

pub other_after : (c : Text) (fs : Tree) → AllBegin (BeginsAfter c) fs → AllBegin (BeginsOther c) fs
other_after c [] all = tt
other_after c (f ∷ fs) all = (by f.path all.0, other_after c fs all.1) where
  by : (p : Path) → BeginsAfter c p → BeginsOther c p
  by [] e = absurd e
  by (d ∷ ds) e = eq-after d c e

-- ---- a list of files, by its first

pub without-other : (f : File) (fs : Tree) (p : Path) → same_path f.path p ≡ false → without_file (f ∷ fs) p ≡ f ∷ without_file fs p
without-other f fs p e = ap (λ b. cond (not b) (f ∷ without_file fs p) (without_file fs p)) e

pub without-same : (f : File) (fs : Tree) (p : Path) → same_path f.path p ≡ true → without_file (f ∷ fs) p ≡ without_file fs p
without-same f fs p e = ap (λ b. cond (not b) (f ∷ without_file fs p) (without_file fs p)) e

pub text-first : (f : File) (fs : Tree) (p : Path) (b : Bool) → same_path f.path p ≡ b → text_at p (f ∷ fs) ≡ cond b (Some f.text) (text_at p fs)
text-first f fs p b e = ap (λ x. option_map (λ (g : File). g.text) (cond x (Some f) (find (λ (g : File). same_path g.path p) fs))) e ∙ by b where
  by : (x : Bool) → option_map (λ (g : File). g.text) (cond x (Some f) (find (λ (g : File). same_path g.path p) fs)) ≡ cond x (Some f.text) (text_at p fs)
  by true = refl
  by false = refl

-- ---- the files of a name

module _ (c : Text) (cs : Path) where
  same_other : (p : Path) → BeginsOther c p → same_path p (c ∷ cs) ≡ false
  same_other [] e = absurd e
  same_other (d ∷ ds) e = same-other d c ds cs e

  -- a text put
  module _ (text : Text) where
    abbrev new : File
    new = record { path = c ∷ cs; text = text }

    with_at : (f : File) (fs : Tree) (b : Bool) → precedes (c ∷ cs) f.path ≡ b → with_file (f ∷ fs) (c ∷ cs) text ≡ cond b (new ∷ f ∷ fs) (f ∷ with_file fs (c ∷ cs) text)
    with_at f fs b e = ap (λ x. cond x (new ∷ f ∷ fs) (f ∷ with_file fs (c ∷ cs) text)) e

    pub with_past : (xs ys : Tree) → AllBegin (BeginsBefore c) xs → with_file (xs ++ ys) (c ∷ cs) text ≡ xs ++ with_file ys (c ∷ cs) text
    with_past [] ys all = refl
    with_past (f ∷ fs) ys all = with_at f (fs ++ ys) false (by f.path all.0) ∙ ap (λ t. f ∷ t) (with_past fs ys all.1) where
      by : (p : Path) → BeginsBefore c p → precedes (c ∷ cs) p ≡ false
      by [] e = absurd e
      by (d ∷ ds) e = precedes-after c d cs ds e

    pub with_before : (ys : Tree) → AllBegin (BeginsAfter c) ys → with_file ys (c ∷ cs) text ≡ new ∷ ys
    with_before [] all = refl
    with_before (f ∷ fs) all = with_at f fs true (by f.path all.0) where
      by : (p : Path) → BeginsAfter c p → precedes (c ∷ cs) p ≡ true
      by [] e = absurd e
      by (d ∷ ds) e = precedes-before c d cs ds e

    pub with_within : (tree ys : Tree) → AllBegin (BeginsAfter c) ys → with_file (map (below c) tree ++ ys) (c ∷ cs) text ≡ map (below c) (with_file tree cs text) ++ ys
    with_within [] ys all = with_before ys all
    with_within (f ∷ fs) ys all = with_at (below c f) (map (below c) fs ++ ys) (precedes cs f.path) (precedes-below c cs f.path) ∙ by (precedes cs f.path) (with_within fs ys all) where
      by : (b : Bool) → with_file (map (below c) fs ++ ys) (c ∷ cs) text ≡ map (below c) (with_file fs cs text) ++ ys → cond b (new ∷ below c f ∷ map (below c) fs ++ ys) (below c f ∷ with_file (map (below c) fs ++ ys) (c ∷ cs) text) ≡ map (below c) (cond b (record { path = cs; text = text } ∷ f ∷ fs) (f ∷ with_file fs cs text)) ++ ys
      by true e = refl
      by false e = ap (λ t. below c f ∷ t) e

  -- a file taken out
  pub without_past : (xs ys : Tree) → AllBegin (BeginsOther c) xs → without_file (xs ++ ys) (c ∷ cs) ≡ xs ++ without_file ys (c ∷ cs)
  without_past [] ys all = refl
  without_past (f ∷ fs) ys all = without-other f (fs ++ ys) (c ∷ cs) (same_other f.path all.0) ∙ ap (λ t. f ∷ t) (without_past fs ys all.1)

  pub without_none : (ys : Tree) → AllBegin (BeginsOther c) ys → without_file ys (c ∷ cs) ≡ ys
  without_none [] all = refl
  without_none (f ∷ fs) all = without-other f fs (c ∷ cs) (same_other f.path all.0) ∙ ap (λ t. f ∷ t) (without_none fs all.1)

  pub without_within : (tree ys : Tree) → AllBegin (BeginsOther c) ys → without_file (map (below c) tree ++ ys) (c ∷ cs) ≡ map (below c) (without_file tree cs) ++ ys
  without_within [] ys all = without_none ys all
  without_within (f ∷ fs) ys all = by (same_path f.path cs) refl (without_within fs ys all) where
    by : (b : Bool) → same_path f.path cs ≡ b → without_file (map (below c) fs ++ ys) (c ∷ cs) ≡ map (below c) (without_file fs cs) ++ ys → without_file (map (below c) (f ∷ fs) ++ ys) (c ∷ cs) ≡ map (below c) (without_file (f ∷ fs) cs) ++ ys
    by true e more = without-same (below c f) (map (below c) fs ++ ys) (c ∷ cs) (same-below c f.path cs ∙ e) ∙ more ∙ ap (λ t. map (below c) t ++ ys) (sym (without-same f fs cs e))
    by false e more = without-other (below c f) (map (below c) fs ++ ys) (c ∷ cs) (same-below c f.path cs ∙ e) ∙ ap (λ t. below c f ∷ t) more ∙ ap (λ t. map (below c) t ++ ys) (sym (without-other f fs cs e))

  -- a text found
  text_past : (xs ys : Tree) → AllBegin (BeginsOther c) xs → text_at (c ∷ cs) (xs ++ ys) ≡ text_at (c ∷ cs) ys
  text_past [] ys all = refl
  text_past (f ∷ fs) ys all = text-first f (fs ++ ys) (c ∷ cs) false (same_other f.path all.0) ∙ text_past fs ys all.1

  text_none : (ys : Tree) → AllBegin (BeginsOther c) ys → text_at (c ∷ cs) ys ≡ None
  text_none [] all = refl
  text_none (f ∷ fs) all = text-first f fs (c ∷ cs) false (same_other f.path all.0) ∙ text_none fs all.1

  text_within : (tree ys : Tree) → AllBegin (BeginsOther c) ys → text_at (c ∷ cs) (map (below c) tree ++ ys) ≡ text_at cs tree
  text_within [] ys all = text_none ys all
  text_within (f ∷ fs) ys all =
      text-first (below c f) (map (below c) fs ++ ys) (c ∷ cs) (same_path f.path cs) (same-below c f.path cs)
      ∙ ap (cond (same_path f.path cs) (Some f.text)) (text_within fs ys all)
      ∙ sym (text-first f fs cs (same_path f.path cs) refl)

  -- what is in the way
  blocked_past : (xs ys : Tree) → AllBegin (BeginsOther c) xs → is_blocked (xs ++ ys) (c ∷ cs) ≡ is_blocked ys (c ∷ cs)
  blocked_past [] ys all = refl
  blocked_past (f ∷ fs) ys all = ap (λ b. b || is_blocked (fs ++ ys) (c ∷ cs)) (by f.path all.0) ∙ blocked_past fs ys all.1 where
    by : (p : Path) → BeginsOther c p → (is_below p (c ∷ cs) || is_below (c ∷ cs) p) ≡ false
    by [] e = absurd e
    by (d ∷ ds) e = (λ i. (e i && is_below ds cs) || ((nat_list_eq_equiv.symm c d ∙ e) i && is_below cs ds))

  blocked_within : (tree ys : Tree) → AllBegin (BeginsOther c) ys → is_blocked (map (below c) tree ++ ys) (c ∷ cs) ≡ is_blocked tree cs
  blocked_within [] ys all = ap (λ t. is_blocked t (c ∷ cs)) (sym (append-nil ys)) ∙ blocked_past ys [] all
  blocked_within (f ∷ fs) ys all = (λ i. (below-below c f.path cs i || below-below c cs f.path i) || blocked_within fs ys all i)

-- ---- all three parts

module _ (c : Text) (front back : Tree) (before : AllBegin (BeginsBefore c) front) (after : AllBegin (BeginsAfter c) back) where
  pub middle_without : (tree : Tree) (cs : Path) → without_file (middle front c tree back) (c ∷ cs) ≡ middle front c (without_file tree cs) back
  middle_without tree cs = without_past c cs front (map (below c) tree ++ back) (other_before c front before) ∙ ap (λ t. front ++ t) (without_within c cs tree back (other_after c back after))

  pub middle_with : (tree : Tree) (cs : Path) (text : Text) → tree_with (middle front c tree back) (c ∷ cs) text ≡ middle front c (tree_with tree cs text) back
  middle_with tree cs text =
      ap (λ t. with_file t (c ∷ cs) text) (middle_without tree cs)
      ∙ with_past c cs text front (map (below c) (without_file tree cs) ++ back) before
      ∙ ap (λ t. front ++ t) (with_within c cs text (without_file tree cs) back after)

  pub middle_text : (tree : Tree) (cs : Path) → text_at (c ∷ cs) (middle front c tree back) ≡ text_at cs tree
  middle_text tree cs = text_past c cs front (map (below c) tree ++ back) (other_before c front before) ∙ text_within c cs tree back (other_after c back after)

  pub middle_blocked : (tree : Tree) (cs : Path) → is_blocked (middle front c tree back) (c ∷ cs) ≡ is_blocked tree cs
  middle_blocked tree cs = blocked_past c cs front (map (below c) tree ++ back) (other_before c front before) ∙ blocked_within c cs tree back (other_after c back after)
