-- Two trees, of which one is edited.
use Rattle.std.proofs.Common.{◌≡◌, ℕ, zero, suc, ◌+◌, ◌-◌, ◌<◌, ◌≤◌, Bool, true, false, not, ◌&&◌, ◌||◌, cond, Option, Some, None, List, [], ◌∷◌, ◌++◌, length, take, get_or, refl, ap, sym, ◌∙◌, arith}
use Rattle.std.specs.Prelude.{is_some, nat_lt}
use Rattle.std.specs.List.{AllByRecursion, list_any}
use Rattle.std.specs.Option.{option_or}
use Rattle.std.proofs.lemmas.List.Sums.{sum_by-cons}
use Rattle.std.specs.Ordering.{is_lt, is_eq}
use Rattle.std.specs.declared.cmp.Ordering.TheVariants.{Less}
use Rattle.zw_lemmas.proofs.AnyLemmas.{list_any-or}
use Rattle.zw_def.specs.Text.{Text}
use Rattle.zw_def.specs.Path.{Path, same_path, is_below, path_cmp, precedes}
use Rattle.zw_def.specs.Tree.{File, Tree, with_file, is_in_the_way, size_of}
use Rattle.zw_def.proofs.PathLemmas.{same_path-Decides}
use Rattle.zw_def.proofs.PathOrderLemmas.{within_behind, same_tied}
use Rattle.std.specs.Str.{bytes_eq}
use Rattle.zw_tree.specs.Text.{text_at}
use Rattle.zw_tree.specs.Strict.{Apart, IsTree}
use Rattle.zw_tree.specs.Edit.{is_file_of, is_blocked, without_file, tree_with}
use Rattle.zw_tree.specs.Stage.{Stage, touches, AgreeBut, IsPartOf, max_files, max_file, max_tree, path_refusal, put_refusal, del_refusal, is_too_large}
use Rattle.zw_tree.specs.Held.{files_in, bytes_in}
use Rattle.zw_tree.specs.declared.fault.TreeFault.{TreeFault}
use Rattle.zw_tree.specs.declared.fault.TreeFault.TheVariants.{InTheWay, Missing, TooLarge}
use Rattle.std.proofs.lemmas.Bool.Decides.{nat_tests}
use Rattle.zw_tree.proofs.MiddleLemmas.{text-first, without-other, without-same}
use Rattle.zw_tree.proofs.TreeLemmas.{text_without, text_with, same_trees}

-- ---- files and texts

pub file_is : (tree : Tree) (p : Path) → is_file_of tree p ≡ is_some (text_at p tree)
file_is [] p = refl
file_is (f ∷ fs) p = ap (λ b. same_path f.path p || b) (file_is fs p) ∙ by (same_path f.path p) ∙ ap is_some (sym (text-first f fs p (same_path f.path p) refl)) where
  by : (b : Bool) → (b || is_some (text_at p fs)) ≡ is_some (cond b (Some f.text) (text_at p fs))
  by true = refl
  by false = refl

or_assoc : (a b d : Bool) → ((a || b) || d) ≡ (a || (b || d))
or_assoc true b d = refl
or_assoc false b d = refl

pub in_the_way : (tree : Tree) (p : Path) → is_in_the_way tree p ≡ (is_some (text_at p tree) || is_blocked tree p)
in_the_way tree p =
    (λ i. list_any (λ (f : File). or_assoc (same_path f.path p) (is_below f.path p) (is_below p f.path) i) tree)
    ∙ list_any-or (λ (f : File). same_path f.path p) (λ (f : File). is_below f.path p || is_below p f.path) tree
    ∙ ap (λ b. b || is_blocked tree p) (file_is tree p)

-- ---- paths that were touched

pub touches_more : (paths : List Path) (n : ℕ) (p : Path) → n < length paths → p ≡ get_or paths n p → (q : Path) → touches (take (n + 1) paths) q ≡ (touches (take n paths) q || same_path p q)
touches_more paths n p lt is q = ap (λ k. touches (take k paths) q) one ∙ by paths n lt is where
  one : n + 1 ≡ suc n
  one = omega arith

  or_none : (b : Bool) → (b || false) ≡ b
  or_none true = refl
  or_none false = refl

  by : (ps : List Path) (k : ℕ) → k < length ps → p ≡ get_or ps k p → touches (take (suc k) ps) q ≡ (touches (take k ps) q || same_path p q)
  by [] k lt is = absurd (omega arith)
  by (x ∷ ps) zero lt is = or_none (same_path x q) ∙ ap (λ y. same_path y q) (sym is)
  by (x ∷ ps) (suc k) lt is = ap (λ b. same_path x q || b) (by ps k (omega arith) is) ∙ sym (or_assoc (same_path x q) (touches (take k ps) q) (same_path p q))

pub touches_front : (paths : List Path) (n : ℕ) (q : Path) → touches paths q ≡ false → touches (take n paths) q ≡ false
touches_front paths zero q none = refl
touches_front [] (suc n) q none = refl
touches_front (p ∷ ps) (suc n) q none = by (same_path p q) (touches ps q) (touches (take n ps) q) (touches_front ps n q) none where
  by : (a b d : Bool) → (b ≡ false → d ≡ false) → (a || b) ≡ false → (a || d) ≡ false
  by true b d more h = cc
  by false b d more h = more h

pub touches_end : (ps : List Path) (p q : Path) → touches (ps ++ p ∷ []) q ≡ (same_path p q || touches ps q)
touches_end [] p q = refl
touches_end (r ∷ ps) p q = ap (λ b. same_path r q || b) (touches_end ps p q) ∙ by (same_path r q) (same_path p q) (touches ps q) where
  by : (a b d : Bool) → (a || (b || d)) ≡ (b || (a || d))
  by true true d = refl
  by true false d = refl
  by false b d = refl

-- ---- what is taken out so far, and what is put in

-- the text that a path has, where those of these paths were replaced
abbrev pub replaced : Bool → Option Text → Option Text → Option Text
replaced touched new old = cond touched new old

pub out_more : (paths : List Path) (n : ℕ) (p : Path) (old now : Tree) → n < length paths → p ≡ get_or paths n p → ((q : Path) → text_at q now ≡ cond (touches (take n paths) q) None (text_at q old)) → (q : Path) → text_at q (without_file now p) ≡ cond (touches (take (n + 1) paths) q) None (text_at q old)
out_more paths n p old now lt is so q =
    text_without now p q
    ∙ ap (cond (same_path p q) None) (so q)
    ∙ by (same_path p q) (touches (take n paths) q)
    ∙ ap (λ b. cond b None (text_at q old)) (sym (touches_more paths n p lt is q)) where
      by : (a b : Bool) → cond a None (cond b None (text_at q old)) ≡ cond (b || a) None (text_at q old)
      by true true = refl
      by true false = refl
      by false true = refl
      by false false = refl

pub in_more : (paths : List Path) (n : ℕ) (p : Path) (old now staged : Tree) (text : Text) → n < length paths → p ≡ get_or paths n p → ((q : Path) → text_at q now ≡ cond (touches (take n paths) q) (text_at q staged) (text_at q old)) → text_at p staged ≡ Some text → (q : Path) → text_at q (tree_with now p text) ≡ cond (touches (take (n + 1) paths) q) (text_at q staged) (text_at q old)
in_more paths n p old now staged text lt is so has q =
    text_with p text now q
    ∙ by (same_path p q) refl (touches (take n paths) q) refl
    ∙ ap (λ b. cond b (text_at q staged) (text_at q old)) (sym (touches_more paths n p lt is q)) where
      by : (a : Bool) → same_path p q ≡ a → (b : Bool) → touches (take n paths) q ≡ b → cond a (Some text) (text_at q now) ≡ cond (b || a) (text_at q staged) (text_at q old)
      by true e true h = sym has ∙ ap (λ r. text_at r staged) ((same_path-Decides p q).0 e)
      by true e false h = sym has ∙ ap (λ r. text_at r staged) ((same_path-Decides p q).0 e)
      by false e true h = so q ∙ ap (λ b. cond b (text_at q staged) (text_at q old)) h
      by false e false h = so q ∙ ap (λ b. cond b (text_at q staged) (text_at q old)) h

-- where the staged tree has no file there
pub in_none : (paths : List Path) (n : ℕ) (p : Path) (old now staged : Tree) → n < length paths → p ≡ get_or paths n p → IsPartOf old staged → ((q : Path) → text_at q now ≡ cond (touches (take n paths) q) (text_at q staged) (text_at q old)) → text_at p staged ≡ None → (q : Path) → text_at q now ≡ cond (touches (take (n + 1) paths) q) (text_at q staged) (text_at q old)
in_none paths n p old now staged lt is part so none q =
    so q
    ∙ by (same_path p q) refl (touches (take n paths) q)
    ∙ ap (λ b. cond b (text_at q staged) (text_at q old)) (sym (touches_more paths n p lt is q)) where
      absent : (r : Path) → text_at r staged ≡ None → text_at r old ≡ None
      absent r none = at (text_at r old) refl where
        at : (o : Option Text) → text_at r old ≡ o → text_at r old ≡ None
        at None e = e
        at (Some x) e = (let h : Some x ≡ None = sym (part r x e) ∙ none in cc)

      by : (a : Bool) → same_path p q ≡ a → (b : Bool) → cond b (text_at q staged) (text_at q old) ≡ cond (b || a) (text_at q staged) (text_at q old)
      by a e true = refl
      by false e false = refl
      by true e false =
          let here : text_at q staged ≡ None = ap (λ r. text_at r staged) (sym ((same_path-Decides p q).0 e)) ∙ none in
          absent q here ∙ sym here

pub in_part : (paths : List Path) (n : ℕ) (old now staged : Tree) → IsPartOf old staged → ((q : Path) → text_at q now ≡ cond (touches (take n paths) q) (text_at q staged) (text_at q old)) → IsPartOf now staged
in_part paths n old now staged part so q text has = by (touches (take n paths) q) refl where
  by : (b : Bool) → touches (take n paths) q ≡ b → text_at q staged ≡ Some text
  by true e = sym (so q ∙ ap (λ b. cond b (text_at q staged) (text_at q old)) e) ∙ has
  by false e = part q text (sym (so q ∙ ap (λ b. cond b (text_at q staged) (text_at q old)) e) ∙ has)

-- ---- nothing is in the way of a file of a tree in a part of it

not_below_self : (p : Path) → is_below p p ≡ false
not_below_self [] = refl
not_below_self (c ∷ cs) = by (is_below cs cs) (not_below_self cs) where
  by : (b : Bool) → b ≡ false → (bytes_eq c c && b) ≡ false
  by true e = cc
  by false e = and_none (bytes_eq c c) where
    and_none : (a : Bool) → (a && false) ≡ false
    and_none true = refl
    and_none false = refl

-- an earlier path stands below no later one
earlier : (p q : Path) → path_cmp p q ≡ Less → is_below p q ≡ false
earlier p q less = none (same_path p q) (is_below p q) (within_behind q p (ap is_lt less)) where
  none : (a b : Bool) → (a || b) ≡ false → b ≡ false
  none true b e = cc
  none false b e = e

later_apart : (f : File) (fs : Tree) (q : Path) (b : Text) → AllByRecursion (Apart f) fs → text_at q fs ≡ Some b → (is_below f.path q ≡ false) × (is_below q f.path ≡ false)
later_apart f [] q b all has = cc
later_apart f (g ∷ gs) q b all has = by (same_path g.path q) refl (later_apart f gs q b all.1) where
  by : (s : Bool) → same_path g.path q ≡ s → (text_at q gs ≡ Some b → (is_below f.path q ≡ false) × (is_below q f.path ≡ false)) → (is_below f.path q ≡ false) × (is_below q f.path ≡ false)
  by true e more =
      let is : g.path ≡ q = (same_path-Decides g.path q).0 e in
      (ap (is_below f.path) (sym is) ∙ earlier f.path g.path all.0.rises, ap (λ r. is_below r f.path) (sym is) ∙ all.0.apart)
  by false e more = more (sym (text-first g gs q false e) ∙ has)

files_apart : (tree : Tree) (p q : Path) (a b : Text) → IsTree tree → text_at p tree ≡ Some a → text_at q tree ≡ Some b → is_below p q ≡ false
files_apart [] p q a b is has other = cc
files_apart (f ∷ fs) p q a b is has other = by (same_path f.path p) refl (same_path f.path q) refl (files_apart fs p q a b is.1) where
  by : (s : Bool) → same_path f.path p ≡ s → (t : Bool) → same_path f.path q ≡ t → (text_at p fs ≡ Some a → text_at q fs ≡ Some b → is_below p q ≡ false) → is_below p q ≡ false
  by true e true h more = (λ i. is_below (sym ((same_path-Decides f.path p).0 e) i) (sym ((same_path-Decides f.path q).0 h) i)) ∙ not_below_self f.path
  by true e false h more = ap (λ r. is_below r q) (sym ((same_path-Decides f.path p).0 e)) ∙ (later_apart f fs q b is.0 (sym (text-first f fs q false h) ∙ other)).0
  by false e true h more = ap (is_below p) (sym ((same_path-Decides f.path q).0 h)) ∙ (later_apart f fs p a is.0 (sym (text-first f fs p false e) ∙ has)).1
  by false e false h more = more (sym (text-first f fs p false e) ∙ has) (sym (text-first f fs q false h) ∙ other)

later_other : (f : File) (fs : Tree) (q : Path) (b : Text) → AllByRecursion (Apart f) fs → text_at q fs ≡ Some b → same_path f.path q ≡ false
later_other f [] q b all has = cc
later_other f (g ∷ gs) q b all has = by (same_path g.path q) refl (later_other f gs q b all.1) where
  by : (s : Bool) → same_path g.path q ≡ s → (text_at q gs ≡ Some b → same_path f.path q ≡ false) → same_path f.path q ≡ false
  by true e more = ap (same_path f.path) (sym ((same_path-Decides g.path q).0 e)) ∙ same_tied f.path g.path ∙ ap is_eq all.0.rises
  by false e more = more (sym (text-first g gs q false e) ∙ has)

free_all : (tree : Tree) (p : Path) → ((q : Path) (b : Text) → text_at q tree ≡ Some b → (is_below q p ≡ false) × (is_below p q ≡ false)) → is_blocked tree p ≡ false
free_all [] p free = refl
free_all (f ∷ fs) p free =
    let first = free f.path f.text (text-first f fs f.path true ((same_path-Decides f.path f.path).1 refl)) in
    (λ i. (first.0 i || first.1 i) || free_all fs p rest i) where
      rest : (q : Path) (b : Text) → text_at q fs ≡ Some b → (is_below q p ≡ false) × (is_below p q ≡ false)
      rest q b has = by (same_path f.path q) refl where
        by : (s : Bool) → same_path f.path q ≡ s → (is_below q p ≡ false) × (is_below p q ≡ false)
        by true e = free q f.text (text-first f fs q true e)
        by false e = free q b (text-first f fs q false e ∙ has)

pub free_part : (now staged : Tree) (p : Path) (text : Text) → IsTree staged → IsPartOf now staged → text_at p staged ≡ Some text → is_blocked now p ≡ false
free_part now staged p text is part has = free_all now p (λ q b at. (files_apart staged q p b text is (part q b at) has, files_apart staged p q text b is has (part q b at)))

-- ---- how many files and bytes there are

length_with-file : (tree : Tree) (p : Path) (text : Text) → length (with_file tree p text) ≡ length tree + 1
length_with-file [] p text = omega arith
length_with-file (f ∷ fs) p text = by (precedes p f.path) (length_with-file fs p text) where
  by : (b : Bool) → length (with_file fs p text) ≡ length fs + 1 → length (cond b (record { path = p; text = text } ∷ f ∷ fs) (f ∷ with_file fs p text)) ≡ length (f ∷ fs) + 1
  by true e = omega arith
  by false e = omega (arith, e)

size-more : (f : File) (fs : Tree) → size_of (f ∷ fs) ≡ length f.text + size_of fs
size-more f fs = sum_by-cons (λ (g : File). length g.text) f fs

size_with-file : (tree : Tree) (p : Path) (text : Text) → size_of (with_file tree p text) ≡ size_of tree + length text
size_with-file [] p text = omega (arith, size-more (record { path = p; text = text }) [])
size_with-file (f ∷ fs) p text = by (precedes p f.path) (size_with-file fs p text) where
  by : (b : Bool) → size_of (with_file fs p text) ≡ size_of fs + length text → size_of (cond b (record { path = p; text = text } ∷ f ∷ fs) (f ∷ with_file fs p text)) ≡ size_of (f ∷ fs) + length text
  by true e = omega (arith, size-more (record { path = p; text = text }) (f ∷ fs), size-more f fs)
  by false e = omega (arith, e, size-more f fs, size-more f (with_file fs p text))

none_without : (tree : Tree) (p : Path) → text_at p tree ≡ None → without_file tree p ≡ tree
none_without [] p none = refl
none_without (f ∷ fs) p none = by (same_path f.path p) refl (none_without fs p) where
  by : (b : Bool) → same_path f.path p ≡ b → (text_at p fs ≡ None → without_file fs p ≡ fs) → without_file (f ∷ fs) p ≡ f ∷ fs
  by true e more = (let h : Some f.text ≡ None = sym (text-first f fs p true e) ∙ none in cc)
  by false e more = without-other f fs p e ∙ ap (λ t. f ∷ t) (more (sym (text-first f fs p false e) ∙ none))

-- what a tree has, by the file that is taken out of it
record Counts (tree : Tree) (p : Path) : Type 0 where
  pub files : length tree ≡ length (without_file tree p) + files_in (text_at p tree)
  pub bytes : size_of tree ≡ size_of (without_file tree p) + bytes_in (text_at p tree)

counts : (tree : Tree) (p : Path) → IsTree tree → Counts tree p
counts [] p is = record { files = omega arith; bytes = omega arith }
counts (f ∷ fs) p is = by (same_path f.path p) refl (counts fs p is.1) where
  gone : (q : Path) → f.path ≡ q → text_at q fs ≡ None
  gone q e = at (text_at q fs) refl where
    at : (o : Option Text) → text_at q fs ≡ o → text_at q fs ≡ None
    at None h = h
    at (Some b) h = (let apart = later_other f fs q b is.0 h in let same = (same_path-Decides f.path q).1 e in cc)

  by : (b : Bool) → same_path f.path p ≡ b → Counts fs p → Counts (f ∷ fs) p
  by true e more =
      let path = (same_path-Decides f.path p).0 e in
      let rest : without_file (f ∷ fs) p ≡ fs = without-same f fs p e ∙ none_without fs p (gone p path) in
      let text : text_at p (f ∷ fs) ≡ Some f.text = text-first f fs p true e in
      record { files = omega (arith, ap length rest, ap files_in text); bytes = omega (arith, ap size_of rest, ap bytes_in text, size-more f fs) }
  by false e more =
      let rest : without_file (f ∷ fs) p ≡ f ∷ without_file fs p = without-other f fs p e in
      let text : text_at p (f ∷ fs) ≡ text_at p fs = text-first f fs p false e in
      record { files = omega (arith, ap length rest, ap files_in text, more.files); bytes = omega (arith, ap size_of rest, ap bytes_in text, more.bytes, size-more f fs, size-more f (without_file fs p)) }

module _ (tree : Tree) (p : Path) (is : IsTree tree) where
  pub files_with : (text : Text) → length (tree_with tree p text) + files_in (text_at p tree) ≡ length tree + 1
  files_with text = omega (arith, length_with-file (without_file tree p) p text, (counts tree p is).files)

  pub bytes_with : (text : Text) → size_of (tree_with tree p text) + bytes_in (text_at p tree) ≡ size_of tree + length text
  bytes_with text = omega (arith, size_with-file (without_file tree p) p text, (counts tree p is).bytes)

  pub files_without : length (without_file tree p) + files_in (text_at p tree) ≡ length tree
  files_without = omega (arith, (counts tree p is).files)

  pub bytes_without : size_of (without_file tree p) + bytes_in (text_at p tree) ≡ size_of tree
  bytes_without = omega (arith, (counts tree p is).bytes)

-- ---- the trees agree where nothing was touched

pub settled_put : (ps : List Path) (staged mounted : Tree) (p : Path) (text : Text) → AgreeBut ps mounted staged → AgreeBut (ps ++ p ∷ []) mounted (tree_with staged p text)
settled_put ps staged mounted p text settled q e = by (same_path p q) refl (sym (touches_end ps p q) ∙ e) where
  by : (b : Bool) → same_path p q ≡ b → (same_path p q || touches ps q) ≡ false → text_at q mounted ≡ text_at q (tree_with staged p text)
  by true s h = (let g : (true || touches ps q) ≡ false = ap (λ b. b || touches ps q) (sym s) ∙ h in cc)
  by false s h = settled q (ap (λ b. b || touches ps q) (sym s) ∙ h) ∙ sym (text_with p text staged q ∙ ap (λ b. cond b (Some text) (text_at q staged)) s)

pub settled_del : (ps : List Path) (staged mounted : Tree) (p : Path) → AgreeBut ps mounted staged → AgreeBut (ps ++ p ∷ []) mounted (without_file staged p)
settled_del ps staged mounted p settled q e = by (same_path p q) refl (sym (touches_end ps p q) ∙ e) where
  by : (b : Bool) → same_path p q ≡ b → (same_path p q || touches ps q) ≡ false → text_at q mounted ≡ text_at q (without_file staged p)
  by true s h = (let g : (true || touches ps q) ≡ false = ap (λ b. b || touches ps q) (sym s) ∙ h in cc)
  by false s h = settled q (ap (λ b. b || touches ps q) (sym s) ∙ h) ∙ sym (text_without staged p q ∙ ap (λ b. cond b None (text_at q staged)) s)

-- ---- refusals

-- a text that is put stays within the limits
pub within_limits : (s : Stage) (p : Path) (text : Text) → put_refusal s p text ≡ None → (length (tree_with s.staged p text) ≤ max_files) × (size_of (tree_with s.staged p text) ≤ max_tree)
within_limits s p text none = by (path_refusal s p) (is_blocked s.staged p) (nat_lt max_files (length (tree_with s.staged p text))) refl (nat_lt max_file (length text)) (nat_lt max_tree (size_of (tree_with s.staged p text))) refl none where
  by : (o : Option TreeFault) (a b : Bool) → nat_lt max_files (length (tree_with s.staged p text)) ≡ b → (d e : Bool) → nat_lt max_tree (size_of (tree_with s.staged p text)) ≡ e → option_or o (cond a (Some InTheWay) (cond (b || d || e) (Some TooLarge) None)) ≡ None → (length (tree_with s.staged p text) ≤ max_files) × (size_of (tree_with s.staged p text) ≤ max_tree)
  by (Some f) a b be d e ee h = cc
  by None true b be d e ee h = cc
  by None false true be d e ee h = cc
  by None false false be true e ee h = cc
  by None false false be false true ee h = cc
  by None false false be false false ee h = (grind (arith, nat_tests), grind (arith, nat_tests))

-- the files and bytes after a put, as the code counts them
module _ (s : Stage) (p : Path) (files size old_files old_size n : ℕ) (is : IsTree s.staged) (all : files ≡ length s.staged) (bytes : size ≡ size_of s.staged) (here : old_files ≡ files_in (text_at p s.staged)) (held : old_size ≡ bytes_in (text_at p s.staged)) where
  pub fewer_files : old_files ≤ files
  fewer_files = omega (arith, all, here, files_without s.staged p is)

  pub fewer_bytes : old_size ≤ size
  fewer_bytes = omega (arith, bytes, held, bytes_without s.staged p is)

  module _ (text : Text) (so : length text ≡ n) where
    pub grown_files : files - old_files + 1 ≡ length (tree_with s.staged p text)
    grown_files = omega (arith, all, here, files_without s.staged p is, files_with s.staged p is text)

    pub grown_bytes : size - old_size + n ≡ size_of (tree_with s.staged p text)
    grown_bytes = omega (arith, so, bytes, held, bytes_without s.staged p is, bytes_with s.staged p is text)

    pub refused_as : (large : Bool) → path_refusal s p ≡ None → is_blocked s.staged p ≡ false → large ≡ (nat_lt max_files (files - old_files + 1) || nat_lt max_file n || nat_lt max_tree (size - old_size + n)) → put_refusal s p text ≡ cond large (Some TooLarge) None
    refused_as large path free is_large =
        (λ i. option_or (path i) (cond (free i) (Some InTheWay) (cond (is_too_large (tree_with s.staged p text) text) (Some TooLarge) None)))
        ∙ ap (λ b. cond b (Some TooLarge) None) (sym (is_large ∙ (λ i. nat_lt max_files (grown_files i) || nat_lt max_file (sym so i) || nat_lt max_tree (grown_bytes i))))

-- ---- a mount

pub mounted_same : (ps first second : List Path) (staged mounted out new : Tree) → first ≡ ps → second ≡ ps → IsTree staged → IsTree new → AgreeBut ps mounted staged → AgreeBut first out mounted → AgreeBut second new out → ((q : Path) → touches second q ≡ true → text_at q new ≡ text_at q staged) → new ≡ staged
mounted_same ps first second staged mounted out new one two is now settled kept again same = same_trees new staged now is (λ q. at q (touches ps q) refl) where
  at : (q : Path) (b : Bool) → touches ps q ≡ b → text_at q new ≡ text_at q staged
  at q true e = same q (ap (λ xs. touches xs q) two ∙ e)
  at q false e = again q (ap (λ xs. touches xs q) two ∙ e) ∙ kept q (ap (λ xs. touches xs q) one ∙ e) ∙ settled q e

-- ---- a file taken out

pub del_none : (s : Stage) (p : Path) → path_refusal s p ≡ None → text_at p s.staged ≡ None → del_refusal s p ≡ Some Missing
del_none s p path none = (λ i. option_or (path i) (cond (not (file_is s.staged p i)) (Some Missing) None)) ∙ ap (λ o. cond (not (is_some o)) (Some Missing) None) none

pub del_some : (s : Stage) (p : Path) (text : Text) → path_refusal s p ≡ None → text_at p s.staged ≡ Some text → del_refusal s p ≡ None
del_some s p text path has = (λ i. option_or (path i) (cond (not (file_is s.staged p i)) (Some Missing) None)) ∙ ap (λ o. cond (not (is_some o)) (Some Missing) None) has
