-- The directories that count, from the files of each root.
use Rattle.std.proofs.Common.{◌≡◌, ◌⊎◌, inl, inr, ◌<◌, ◌≤◌, Bool, true, false, not, ◌&&◌, cond, Some, List, [], ◌∷◌, length, refl, ap, sym, ◌∙◌, subst, arith}
use Rattle.std.specs.List.{list_any, filter}
use Rattle.std.proofs.lemmas.Bool.{and_parts, cases_lt}
use Rattle.zw_def.specs.Path.{Path, is_below}
use Rattle.zw_def.specs.Layout.{Layout, Root, is_root, belongs_to}
use Rattle.zw_def.specs.Visible.{is_filled, is_counting, directories_above}
use Rattle.zw_scan.specs.Among.{Among}
use Rattle.zw_scan.specs.Directories.{all_above, directories_below}
use Rattle.zw_scan.proofs.AmongLemmas.{all_at, any_among, among_any, among_filter, filter_among, rising_filter, same_rising}
use Rattle.zw_scan.proofs.BeginningLemmas.{Before, before_trans, before_self, below_after, below_shorter, below_both, below_same}
use Rattle.zw_scan.proofs.AboveLemmas.{Apart, Spread, Follow, Begins, begins_below, after_all, rising_above, above_has, above_of, directories_above-is}
use Rattle.zw_scan.proofs.RootLemmas.{belongs, belongs_same, above_belongs, above_no_root, belongs_longer}

module _ (layout : Layout) (files : List Path) (spread : Spread files) (follows : Follow [] files) (test : Path → Bool) (r : Root) where
  abbrev own : List Path
  own = filter (belongs_to layout r) files

  own_spread : Spread own
  own_spread = rising_filter Apart (belongs_to layout r) files spread

  after_root : (fs : List Path) → Follow r.path (filter (belongs_to layout r) fs)
  after_root [] = tt
  after_root (f ∷ fs) = by (belongs_to layout r f) refl (after_root fs) where
    by : (b : Bool) → belongs_to layout r f ≡ b → Follow r.path (filter (belongs_to layout r) fs) → Follow r.path (cond b (f ∷ filter (belongs_to layout r) fs) (filter (belongs_to layout r) fs))
    by true e more = (let (s, root, same) = belongs layout r f e in (below_after f r.path (ap (is_below f) (sym same) ∙ root.below), more))
    by false e more = more

  not_begins : (d p : Path) → length p < length d → Begins d p → ⊥
  not_begins d p longer begins = by (begins_below d p begins) where
    by : (is_below p d ≡ true) ⊎ (d ≡ p) → ⊥
    by (inl h) = omega (arith, longer, below_shorter p d h)
    by (inr e) = omega (arith, longer, ap length e)

  -- a directory above one of the root's files that stands after the root's path is longer than it
  is_longer : (f d : Path) → belongs_to layout r f ≡ true → is_below f d ≡ true → Before r.path d → length r.path < length d
  is_longer f d is below after = by (cases_lt (length r.path) (length d)) where
    at_root : is_below f r.path ≡ true
    at_root = (let (s, root, same) = belongs layout r f is in ap (is_below f) (sym same) ∙ root.below)

    at : (length d < length r.path) ⊎ (length r.path ≤ length d) → length d ≤ length r.path → ⊥
    at (inl lt) le = before_self d (before_trans d r.path d (below_after r.path d (below_both f r.path d at_root below lt)) after)
    at (inr ge) le = before_self d (subst (λ p. Before p d) (below_same f r.path d at_root below (omega (arith, ge, le))) after)

    by : (length r.path < length d) ⊎ (length d ≤ length r.path) → length r.path < length d
    by (inl lt) = lt
    by (inr le) = absurd (at (cases_lt (length d) (length r.path)) le)

  -- ---- the directories below the root count, and belong to it

  counts : (f d : Path) → Among f files → belongs_to layout r f ≡ true → is_below f d ≡ true → length r.path < length d → is_counting layout files d ≡ true
  counts f d among is below longer =
      let (s, root, same) = belongs layout r f is in
      let in_it : belongs_to layout s d ≡ true = belongs_same layout s r d same ∙ above_belongs layout r f d is below longer in
      let in_file : belongs_to layout s f ≡ true = belongs_same layout s r f same ∙ is in
      let held : list_any (λ g. is_below g d && belongs_to layout s g) files ≡ true = among_any (λ g. is_below g d && belongs_to layout s g) f files among (λ i. below i && in_file i) in
      let filled : is_filled layout files d s ≡ true = λ i. in_it i && held i in
      λ i. not (above_no_root layout r f d is below longer i) && among_any (is_filled layout files d) s layout.roots root.among filled i

  file_of : (d : Path) → is_counting layout files d ≡ true → belongs_to layout r d ≡ true → (f : Path) × Among f own × (is_below f d ≡ true)
  file_of d counting is =
      let parts = and_parts (not (is_root layout d)) (list_any (is_filled layout files d) layout.roots) counting in
      let (s, among, filled) = any_among (is_filled layout files d) layout.roots parts.1 in
      let both = and_parts (belongs_to layout s d) (list_any (λ g. is_below g d && belongs_to layout s g) files) filled in
      let (f, in_files, held) = any_among (λ g. is_below g d && belongs_to layout s g) files both.1 in
      let last = and_parts (is_below f d) (belongs_to layout s f) held in
      let (x, root, same) = belongs layout s d both.0 in
      let (y, root', same') = belongs layout r d is in
      let one : x.path ≡ y.path = (let h : Some x ≡ Some y = sym root.is ∙ root'.is in let e : x ≡ y = cc in ap (λ (z : Root). z.path) e) in
      let paths : r.path ≡ s.path = sym same' ∙ sym one ∙ same in
      (f, filter_among (belongs_to layout r) f files in_files (belongs_same layout r s f paths ∙ last.1), last.0)

  abbrev counted : List Path
  counted = filter (belongs_to layout r) (filter test (filter (is_counting layout files) (all_above [] files)))

  abbrev below_root : List Path
  below_root = filter test (all_above r.path own)

  there : (d : Path) → Among d counted → Among d below_root
  there d h =
      let mine = among_filter (belongs_to layout r) d (filter test (filter (is_counting layout files) (all_above [] files))) h in
      let passed = among_filter test d (filter (is_counting layout files) (all_above [] files)) mine.0 in
      let counting = among_filter (is_counting layout files) d (all_above [] files) passed.0 in
      let (f, among, below) = file_of d counting.1 mine.1 in
      filter_among test d (all_above r.path own) (by (above_has d r.path own own_spread f among below) (belongs_longer layout r d mine.1)) passed.1 where
        by : Among d (all_above r.path own) ⊎ Begins d r.path → length r.path < length d → Among d (all_above r.path own)
        by (inl a) longer = a
        by (inr b) longer = absurd (not_begins d r.path longer b)

  back : (d : Path) → Among d below_root → Among d counted
  back d h =
      let passed = among_filter test d (all_above r.path own) h in
      let (f, among, below) = above_of d r.path own passed.0 in
      let file = among_filter (belongs_to layout r) f files among in
      let after = all_at (Before r.path) d (all_above r.path own) (after_all r.path r.path own (inr refl) (after_root files) own_spread) passed.0 in
      let longer = is_longer f d file.1 below after in
      let counting = counts f d file.0 file.1 below longer in
      let among_all = by (above_has d [] files spread f file.0 below) longer in
      filter_among (belongs_to layout r) d (filter test (filter (is_counting layout files) (all_above [] files))) (filter_among test d (filter (is_counting layout files) (all_above [] files)) (filter_among (is_counting layout files) d (all_above [] files) among_all counting) passed.1) (above_belongs layout r f d file.1 below longer) where
        by : Among d (all_above [] files) ⊎ Begins d [] → length r.path < length d → Among d (all_above [] files)
        by (inl a) longer = a
        by (inr b) longer = absurd (not_begins d [] (omega (arith, longer)) b)

  pub counted-is : filter (belongs_to layout r) (filter test (filter (is_counting layout files) (directories_above files))) ≡ filter test (directories_below layout r files)
  counted-is =
      ap (λ ds. filter (belongs_to layout r) (filter test (filter (is_counting layout files) ds))) (directories_above-is files follows spread)
      ∙ same_rising Before before_self before_trans counted below_root
      (rising_filter Before (belongs_to layout r) (filter test (filter (is_counting layout files) (all_above [] files))) (rising_filter Before test (filter (is_counting layout files) (all_above [] files)) (rising_filter Before (is_counting layout files) (all_above [] files) (rising_above [] files follows spread))))
      (rising_filter Before test (all_above r.path own) (rising_above r.path own (after_root files) own_spread))
      there back
