-- The entries of a directory are its rows.
use Rattle.std.proofs.Common.{◌≡◌, ℕ, zero, suc, ◌<◌, true, false, cond, Option, Some, None, List, [], ◌∷◌, ◌++◌, length, map, refl, ap, sym, ◌∙◌, arith, subst}
use Rattle.std.specs.List.{slice_get}
use Rattle.std.specs.Option.{option_map, option_and_then}
use Rattle.std.specs.declared.cmp.Ordering.TheVariants.{Less}
use Rattle.std.proofs.lemmas.Option.{slice_get-map}
use Rattle.std.proofs.lemmas.List.{append-nil}
use Rattle.zw_def.specs.Text.{Text}
use Rattle.zw_def.specs.Path.{Path}
use Rattle.zw_def.specs.Tree.{File, Tree}
use Rattle.zw_tree.specs.Row.{Node, Rows, Row, file, folder, listed, rows_of, below, files_under, told, told_rows}
use Rattle.zw_tree.specs.Sound.{text_cmp, IsWhole, AllAfter, AllBefore, IsSound}
use Rattle.zw_tree.specs.Entries.{Listed, joined, with_first, first_names, cut, cut_file, child_at, tree_below}
use Rattle.zw_tree.specs.RowListed.{is_folder as is_directory, row_listed}
use Rattle.zw_tree.specs.Lookup.{folder_at, rows_in}
use Rattle.zw_tree.specs.Places.{Found, Gap}
use Rattle.zw_tree.specs.Middle.{AllBegin}
use Rattle.zw_tree.proofs.NameLemmas.{eq-same, eq-before}
use Rattle.zw_tree.proofs.RowLemmas.{told_rows-of, told-listed, told_middle, told_gap, begins_before, begins_after, paths_some-within, folder_found}
use Rattle.zw_tree.proofs.SoundLemmas.{sound_at, sound_listed}
use Rattle.zw_tree.proofs.SeekLemmas.{is_folder}
use Rattle.zw_tree.proofs.MiddleLemmas.{BeginsOther, other_before, other_after}

-- ---- names

joined_new : (e : Listed) (rows : List Row) → AllAfter e.name rows → joined e (map row_listed rows) ≡ e ∷ map row_listed rows
joined_new e [] after = refl
joined_new e (r ∷ rs) after = ap (λ b. cond b (map row_listed (r ∷ rs)) (e ∷ map row_listed (r ∷ rs))) (eq-before e.name r.name after.0)

joined_again : (e : Listed) (es : List Listed) → joined e (e ∷ es) ≡ e ∷ es
joined_again e es = ap (λ b. cond b (e ∷ es) (e ∷ e ∷ es)) (eq-same e.name)

first_below : (name : Text) (p : Path) (es : List Listed) → 0 < length p → with_first (name ∷ p) es ≡ joined record { name = name; is_dir = true } es
first_below name [] es some = absurd (omega arith)
first_below name (q ∷ more) es some = refl

names_folder : (name : Text) (f : File) (fs ys : Tree) (rows : List Row) → first_names ys ≡ map row_listed rows → AllAfter name rows → AllBegin (λ p. 0 < length p) (f ∷ fs) → first_names (map (below name) (f ∷ fs) ++ ys) ≡ record { name = name; is_dir = true } ∷ map row_listed rows
names_folder name f [] ys rows e after all = first_below name f.path (first_names ys) all.0 ∙ ap (joined record { name = name; is_dir = true }) e ∙ joined_new record { name = name; is_dir = true } rows after
names_folder name f (g ∷ gs) ys rows e after all =
    first_below name f.path (first_names (map (below name) (g ∷ gs) ++ ys)) all.0
    ∙ ap (joined record { name = name; is_dir = true }) (names_folder name g gs ys rows e after all.1)
    ∙ joined_again record { name = name; is_dir = true } (map row_listed rows)

pub names_told : (rows : List Row) → IsSound rows → first_names (told rows) ≡ map row_listed rows
names_told [] sound = refl
names_told (r ∷ rs) sound = by r.node sound.0 (names_told rs sound.2) where
  at : (tree : Tree) → 0 < length tree → AllBegin (λ p. 0 < length p) tree → first_names (told rs) ≡ map row_listed rs → first_names (map (below r.name) tree ++ told rs) ≡ record { name = r.name; is_dir = true } ∷ map row_listed rs
  at [] some all e = absurd (omega arith)
  at (f ∷ fs) some all e = names_folder r.name f fs (told rs) rs e sound.1 all

  by : (node : Node) → IsWhole node → first_names (told rs) ≡ map row_listed rs → first_names (files_under r.name node ++ told rs) ≡ record { name = r.name; is_dir = is_directory node } ∷ map row_listed rs
  by (file t) whole e = ap (joined record { name = r.name; is_dir = false }) e ∙ joined_new record { name = r.name; is_dir = false } rs sound.1
  by (folder rows) whole e = at (told_rows rows) whole.0 (paths_some-within rows) e

pub listed_told : (rows : List Row) (k : ℕ) → IsSound rows → option_map row_listed (slice_get rows k) ≡ slice_get (first_names (told rows)) k
listed_told rows k sound = sym (ap (λ es. slice_get es k) (names_told rows sound) ∙ slice_get-map row_listed rows k)

-- ---- what stands below a name

module _ (c : Text) where
  cut_past : (xs ys : Tree) → AllBegin (BeginsOther c) xs → cut c (xs ++ ys) ≡ cut c ys
  cut_past [] ys all = refl
  cut_past (f ∷ fs) ys all = ap (λ t. t ++ cut c (fs ++ ys)) (by f.path f.text all.0) ∙ cut_past fs ys all.1 where
    by : (p : Path) (text : Text) → BeginsOther c p → cut_file c p text ≡ []
    by [] text e = absurd e
    by (d ∷ []) text e = refl
    by (d ∷ q ∷ more) text e = ap (λ b. cond b (record { path = q ∷ more; text = text } ∷ []) []) e

  cut_none : (ys : Tree) → AllBegin (BeginsOther c) ys → cut c ys ≡ []
  cut_none ys all = ap (cut c) (sym (append-nil ys)) ∙ cut_past ys [] all

  cut_within : (tree ys : Tree) → AllBegin (λ p. 0 < length p) tree → cut c (map (below c) tree ++ ys) ≡ tree ++ cut c ys
  cut_within [] ys all = refl
  cut_within (f ∷ fs) ys all = ap (λ t. t ++ cut c (map (below c) fs ++ ys)) (by f.path f.text all.0) ∙ ap (λ t. f ∷ t) (cut_within fs ys all.1) where
    by : (p : Path) (text : Text) → 0 < length p → cut_file c (c ∷ p) text ≡ record { path = p; text = text } ∷ []
    by [] text some = absurd (omega arith)
    by (q ∷ more) text some = ap (λ b. cond b (record { path = q ∷ more; text = text } ∷ []) []) (eq-same c)

  pub cut_folder : (front : List Row) (rows : Rows) (back : List Row) → AllBefore front c → AllAfter c back → cut c (told (front ++ record { name = c; node = folder rows } ∷ back)) ≡ told_rows rows
  cut_folder front rows back before after =
      ap (cut c) (told_middle front record { name = c; node = folder rows } back)
      ∙ cut_past (told front) (map (below c) (told_rows rows) ++ told back) (other_before c (told front) (begins_before c front before))
      ∙ cut_within (told_rows rows) (told back) (paths_some-within rows)
      ∙ ap (λ t. told_rows rows ++ t) (cut_none (told back) (other_after c (told back) (begins_after c back after)))
      ∙ append-nil (told_rows rows)

  pub cut_at_file : (front : List Row) (t : Text) (back : List Row) → AllBefore front c → AllAfter c back → cut c (told (front ++ record { name = c; node = file t } ∷ back)) ≡ []
  cut_at_file front t back before after =
      ap (cut c) (told_middle front record { name = c; node = file t } back)
      ∙ cut_past (told front) (record { path = c ∷ []; text = t } ∷ told back) (other_before c (told front) (begins_before c front before))
      ∙ cut_none (told back) (other_after c (told back) (begins_after c back after))

  pub cut_gap : (front back : List Row) → AllBefore front c → AllAfter c back → cut c (told (front ++ back)) ≡ []
  cut_gap front back before after =
      ap (cut c) (told_gap c front back)
      ∙ cut_past (told front) (told back) (other_before c (told front) (begins_before c front before))
      ∙ cut_none (told back) (other_after c (told back) (begins_after c back after))

pub below_nothing : (directory : Path) → tree_below directory [] ≡ []
below_nothing [] = refl
below_nothing (d ∷ ds) = below_nothing ds

-- the row at a place, between those before and after it
record Stands (rows : List Row) (k : ℕ) (r : Row) : Type 0 where
  pub front : List Row
  pub back : List Row
  pub is : rows ≡ front ++ r ∷ back
  pub before : AllBefore front r.name
  pub after : AllAfter r.name back

after_middle : (name : Text) (front : List Row) (r : Row) (back : List Row) → AllAfter name (front ++ r ∷ back) → text_cmp name r.name ≡ Less
after_middle name [] r back all = all.0
after_middle name (y ∷ front) r back all = after_middle name front r back all.1

stands : (rows : List Row) (k : ℕ) (r : Row) → IsSound rows → slice_get rows k ≡ Some r → Stands rows k r
stands [] k r sound is = (by k is) where
  by : (n : ℕ) → slice_get [] n ≡ Some r → Stands [] n r
  by zero h = cc
  by (suc n) h = cc
stands (x ∷ rows) zero r sound is = (let same : x ≡ r = cc in record { front = []; back = rows; is = ap (λ y. y ∷ rows) same; before = tt; after = subst (λ (y : Row). AllAfter y.name rows) same sound.1 })
stands (x ∷ rows) (suc k) r sound is =
    let more = stands rows k r sound.2 is in
    record { front = x ∷ more.front; back = more.back; is = ap (λ rs. x ∷ rs) more.is; before = (after_middle x.name more.front r more.back (subst (AllAfter x.name) more.is sound.1), more.before); after = more.after }

pub child_told : (rows : List Row) (k : ℕ) → IsSound rows → option_map told (folder_at rows k) ≡ child_at k (told rows)
child_told rows k sound = by (slice_get rows k) refl ∙ ap (option_and_then (λ e. cond e.is_dir (Some (cut e.name (told rows))) None)) (listed_told rows k sound) where
  at : (r : Row) (node : Node) → r.node ≡ node → slice_get rows k ≡ Some r → option_map told (rows_in node) ≡ cond (is_directory node) (Some (cut r.name (told rows))) None
  at r (file text) is e = refl
  at r (folder below) is e =
      let here = stands rows k r sound e in
      let row : r ≡ record { name = r.name; node = folder below } = ap (λ n. record { name = r.name; node = n }) is in
      ap Some (told-listed below ∙ sym (ap (λ rs. cut r.name (told rs)) (here.is ∙ ap (λ (x : Row). here.front ++ x ∷ here.back) row) ∙ cut_folder r.name here.front below here.back here.before here.after))

  by : (o : Option Row) → slice_get rows k ≡ o → option_map told (folder_at rows k) ≡ option_and_then (λ e. cond e.is_dir (Some (cut e.name (told rows))) None) (option_map row_listed (slice_get rows k))
  by None e = ap (λ (o : Option Row). option_map told (option_and_then (λ r. rows_in r.node) o)) e ∙ sym (ap (λ (o : Option Row). option_and_then (λ e. cond e.is_dir (Some (cut e.name (told rows))) None) (option_map row_listed o)) e)
  by (Some r) e = ap (λ (o : Option Row). option_map told (option_and_then (λ r. rows_in r.node) o)) e ∙ at r r.node refl e ∙ sym (ap (λ (o : Option Row). option_and_then (λ e. cond e.is_dir (Some (cut e.name (told rows))) None) (option_map row_listed o)) e)

pub child_sound : (rows : List Row) (k : ℕ) (below : List Row) → IsSound rows → folder_at rows k ≡ Some below → IsSound below
child_sound rows k below sound is = by (slice_get rows k) refl where
  at : (r : Row) (node : Node) → r.node ≡ node → slice_get rows k ≡ Some r → rows_in node ≡ Some below → IsSound below
  at r (file text) n e h = cc
  at r (folder inside) n e h =
      let here = stands rows k r sound e in
      let whole = subst IsWhole n (sound_at here.front r here.back (subst IsSound here.is sound)) in
      let same : listed inside ≡ below = cc in
      subst IsSound same (sound_listed inside whole.1)

  by : (o : Option Row) → slice_get rows k ≡ o → IsSound below
  by None e = (let h : None ≡ Some below = ap (λ (o : Option Row). option_and_then (λ r. rows_in r.node) o) (sym e) ∙ is in cc)
  by (Some r) e = at r r.node refl e (ap (λ (o : Option Row). option_and_then (λ r. rows_in r.node) o) (sym e) ∙ is)

-- ---- one step down a path

module _ (here : List Row) (c : Text) where
  pub below_gap : (n : ℕ) (gap : Gap here c n) (ds : Path) → tree_below (c ∷ ds) (told here) ≡ []
  below_gap n gap ds = ap (tree_below ds) (ap (λ rs. cut c (told rs)) gap.is ∙ cut_gap c gap.front gap.back gap.before gap.after) ∙ below_nothing ds

  pub below_file : (n : ℕ) (found : Found here c n) (ds : Path) → folder_at here n ≡ None → tree_below (c ∷ ds) (told here) ≡ []
  below_file n found ds none = by found.node refl where
    by : (node : Node) → found.node ≡ node → tree_below (c ∷ ds) (told here) ≡ []
    by (folder rows) is = (let h : Some (listed rows) ≡ None = sym (folder_found here c n found ∙ ap rows_in is) ∙ none in cc)
    by (file text) is =
        ap (tree_below ds) (ap (λ rs. cut c (told rs)) (found.is ∙ ap (λ k. found.front ++ record { name = c; node = k } ∷ found.back) is) ∙ cut_at_file c found.front text found.back found.before found.after)
        ∙ below_nothing ds

  pub below_folder : (n : ℕ) (found : Found here c n) (ds : Path) (below : List Row) → folder_at here n ≡ Some below → tree_below (c ∷ ds) (told here) ≡ tree_below ds (told below)
  below_folder n found ds below is =
      let node = is_folder here c n found below is in
      ap (tree_below ds) (ap (λ rs. cut c (told rs)) (found.is ∙ ap (λ k. found.front ++ record { name = c; node = k } ∷ found.back) node) ∙ cut_folder c found.front (rows_of below) found.back found.before found.after ∙ told_rows-of below)
