-- An edit of the rows at the end of a path.
use Rattle.std.proofs.Common.{◌≡◌, ℕ, ◌<◌, true, false, ◌||◌, Some, None, Result, Ok, Err, List, [], ◌∷◌, ◌++◌, length, map, refl, ap, sym, ◌∙◌, arith, subst}
use Rattle.std.specs.Prelude.{IfOk}
use Rattle.std.specs.List.{insert, remove}
use Rattle.zw_def.specs.Text.{Text}
use Rattle.zw_def.specs.Path.{Path, same_path, is_below}
use Rattle.zw_def.specs.Tree.{Tree}
use Rattle.zw_tree.specs.Row.{Node, Rows, Row, file, folder, listed, below, told, told_rows}
use Rattle.zw_tree.specs.Sound.{IsSound, IsWhole, AllBefore, AllAfter}
use Rattle.zw_tree.specs.Text.{text_at}
use Rattle.zw_tree.specs.Edit.{is_blocked, without_file, tree_with}
use Rattle.zw_tree.specs.Places.{Found, Gap, Places}
use Rattle.zw_tree.specs.Lookup.{with_node, file_at, folder_at, rows_in, text_in}
use Rattle.zw_tree.specs.AtEnd.{put_at}
use Rattle.zw_tree.specs.NewRow.{new_row}
use Rattle.zw_tree.specs.Middle.{inner, middle, AllBegin}
use Rattle.zw_tree.proofs.ListLemmas.{insert-at, remove-at}
use Rattle.zw_tree.proofs.RowLemmas.{told_rows-of, told_middle, told_gap, begins_before, begins_after, with_node-at, paths_some-within, folder_found, file_found}
use Rattle.zw_tree.proofs.SoundLemmas.{whole_folder, sound_with, sound_set, sound_less, sound_at}
use Rattle.zw_tree.proofs.MiddleLemmas.{without-other, middle_text, middle_blocked, middle_with, middle_without}

-- the row of a new file
new_name : (c : Text) (cs : Path) (text : Text) → (new_row (c ∷ cs) text).name ≡ c
new_name c [] text = refl
new_name c (d ∷ ds) text = refl

new_inner : (c : Text) (cs : Path) (text : Text) → inner (new_row (c ∷ cs) text).node ≡ record { path = cs; text = text } ∷ []
new_inner c [] text = refl
new_inner c (d ∷ ds) text =
    told_rows-of (new_row (d ∷ ds) text ∷ [])
    ∙ told_middle [] (new_row (d ∷ ds) text) []
    ∙ (λ i. map (below (new_name d ds text i)) (new_inner d ds text i) ++ [])

new_whole : (c : Text) (cs : Path) (text : Text) → IsWhole (new_row (c ∷ cs) text).node
new_whole c [] text = tt
new_whole c (d ∷ ds) text = whole_folder (new_row (d ∷ ds) text ∷ []) (new_whole d ds text, tt, tt) (omega arith)

-- where no row has the path's first name
module _ (rows : List Row) (c : Text) (n : ℕ) (gap : Gap rows c n) where
  told_gapped : told rows ≡ middle (told gap.front) c [] (told gap.back)
  told_gapped = ap told gap.is ∙ told_gap c gap.front gap.back

  pub gap_text : (cs : Path) → text_at (c ∷ cs) (told rows) ≡ None
  gap_text cs = ap (text_at (c ∷ cs)) told_gapped ∙ middle_text c (told gap.front) (told gap.back) (begins_before c gap.front gap.before) (begins_after c gap.back gap.after) [] cs

  pub gap_blocked : (cs : Path) → is_blocked (told rows) (c ∷ cs) ≡ false
  gap_blocked cs = ap (λ t. is_blocked t (c ∷ cs)) told_gapped ∙ middle_blocked c (told gap.front) (told gap.back) (begins_before c gap.front gap.before) (begins_after c gap.back gap.after) [] cs

  pub gap_without : (cs : Path) → without_file (told rows) (c ∷ cs) ≡ told rows
  gap_without cs = ap (λ t. without_file t (c ∷ cs)) told_gapped ∙ middle_without c (told gap.front) (told gap.back) (begins_before c gap.front gap.before) (begins_after c gap.back gap.after) [] cs ∙ sym told_gapped

  module _ (cs : Path) (text : Text) where
    inserted_are : insert rows n (new_row (c ∷ cs) text) ≡ gap.front ++ new_row (c ∷ cs) text ∷ gap.back
    inserted_are = ap (λ rs. insert rs n (new_row (c ∷ cs) text)) gap.is ∙ insert-at gap.front gap.back n (new_row (c ∷ cs) text) gap.at

    pub gap_put : told (insert rows n (new_row (c ∷ cs) text)) ≡ tree_with (told rows) (c ∷ cs) text
    gap_put =
        ap told inserted_are
        ∙ told_middle gap.front (new_row (c ∷ cs) text) gap.back
        ∙ (λ i. middle (told gap.front) (new_name c cs text i) (new_inner c cs text i) (told gap.back))
        ∙ sym (middle_with c (told gap.front) (told gap.back) (begins_before c gap.front gap.before) (begins_after c gap.back gap.after) [] cs text)
        ∙ ap (λ t. tree_with t (c ∷ cs) text) (sym told_gapped)

    pub gap_sound : IsSound rows → IsSound (insert rows n (new_row (c ∷ cs) text))
    gap_sound sound = subst IsSound (sym inserted_are) (sound_with gap.front (new_row (c ∷ cs) text) gap.back (subst IsSound gap.is sound) (subst (λ name. AllBefore gap.front name) (sym (new_name c cs text)) gap.before) (subst (λ name. AllAfter name gap.back) (sym (new_name c cs text)) gap.after) (new_whole c cs text))

-- where a row has it
module _ (rows : List Row) (c : Text) (n : ℕ) (found : Found rows c n) where
  pub told_found : told rows ≡ middle (told found.front) c (inner found.node) (told found.back)
  told_found = ap told found.is ∙ told_middle found.front record { name = c; node = found.node } found.back

  pub found_text : (cs : Path) → text_at (c ∷ cs) (told rows) ≡ text_at cs (inner found.node)
  found_text cs = ap (text_at (c ∷ cs)) told_found ∙ middle_text c (told found.front) (told found.back) (begins_before c found.front found.before) (begins_after c found.back found.after) (inner found.node) cs

  pub found_blocked : (cs : Path) → is_blocked (told rows) (c ∷ cs) ≡ is_blocked (inner found.node) cs
  found_blocked cs = ap (λ t. is_blocked t (c ∷ cs)) told_found ∙ middle_blocked c (told found.front) (told found.back) (begins_before c found.front found.before) (begins_after c found.back found.after) (inner found.node) cs

  pub found_without : (cs : Path) → without_file (told rows) (c ∷ cs) ≡ middle (told found.front) c (without_file (inner found.node) cs) (told found.back)
  found_without cs = ap (λ t. without_file t (c ∷ cs)) told_found ∙ middle_without c (told found.front) (told found.back) (begins_before c found.front found.before) (begins_after c found.back found.after) (inner found.node) cs

  -- a file in place of a file
  set_are : (node : Node) → with_node rows n node ≡ found.front ++ record { name = c; node = node } ∷ found.back
  set_are node = ap (λ rs. with_node rs n node) found.is ∙ with_node-at found.front record { name = c; node = found.node } found.back n node found.at

  pub found_put : (old text : Text) → found.node ≡ file old → told (with_node rows n (file text)) ≡ tree_with (told rows) (c ∷ []) text
  found_put old text is =
      ap told (set_are (file text))
      ∙ told_middle found.front record { name = c; node = file text } found.back
      ∙ sym (
      ap (λ t. tree_with t (c ∷ []) text) (told_found ∙ ap (λ node. middle (told found.front) c (inner node) (told found.back)) is)
      ∙ middle_with c (told found.front) (told found.back) (begins_before c found.front found.before) (begins_after c found.back found.after) (record { path = []; text = old } ∷ []) [] text)

  pub found_sound : (text : Text) → IsSound rows → IsSound (with_node rows n (file text))
  found_sound text sound = subst IsSound (sym (set_are (file text))) (sound_set found.front record { name = c; node = found.node } record { name = c; node = file text } found.back refl (subst IsSound found.is sound) tt)

  -- a file taken out
  removed_are : remove rows n ≡ found.front ++ found.back
  removed_are = ap (λ rs. remove rs n) found.is ∙ remove-at found.front record { name = c; node = found.node } found.back n found.at

  pub found_del : (old : Text) → found.node ≡ file old → told (remove rows n) ≡ without_file (told rows) (c ∷ [])
  found_del old is =
      ap told removed_are
      ∙ told_gap c found.front found.back
      ∙ sym (found_without [] ∙ ap (λ node. middle (told found.front) c (without_file (inner node) []) (told found.back)) is)

  pub removed_sound : IsSound rows → IsSound (remove rows n)
  removed_sound sound = subst IsSound (sym removed_are) (sound_less found.front record { name = c; node = found.node } found.back (subst IsSound found.is sound))

-- ---- at the end of the way

-- a directory is in the way of itself
pub whole_blocked : (rows : Rows) → IsWhole (folder rows) → is_blocked (told_rows rows) [] ≡ true
whole_blocked rows whole = by (told_rows rows) whole.0 (paths_some-within rows) where
  by : (tree : Tree) → 0 < length tree → AllBegin (λ p. 0 < length p) tree → is_blocked tree [] ≡ true
  by [] some all = absurd (omega arith)
  by (f ∷ fs) some all = at f.path all.0 where
    at : (p : Path) → 0 < length p → ((is_below p [] || is_below [] p) || is_blocked fs []) ≡ true
    at [] lt = absurd (omega arith)
    at (x ∷ xs) lt = refl

without_empty : (rows : Rows) → without_file (told_rows rows) [] ≡ told_rows rows
without_empty rows = by (told_rows rows) (paths_some-within rows) where
  by : (tree : Tree) → AllBegin (λ p. 0 < length p) tree → without_file tree [] ≡ tree
  by [] all = refl
  by (f ∷ fs) all = without-other f fs [] (at f.path all.0) ∙ ap (λ t. f ∷ t) (by fs all.1) where
    at : (p : Path) → 0 < length p → same_path p [] ≡ false
    at [] lt = absurd (omega arith)
    at (x ∷ xs) lt = refl

-- the path ends here, or no directory goes on
abbrev pub Ends : List Row → Path → Result ℕ ℕ → Type 0
Ends here cs place = 0 < length cs → IfOk place (λ at. folder_at here at ≡ None)

module _ (here : List Row) (c : Text) (sound : IsSound here) where
  at_file : (n : ℕ) (found : Found here c n) (cs : Path) (old text : Text) → found.node ≡ file old → is_blocked (told here) (c ∷ cs) ≡ false → told (with_node here n (file text)) ≡ tree_with (told here) (c ∷ cs) text
  at_file n found [] old text is free = found_put here c n found old text is
  at_file n found (d ∷ ds) old text is free = (let h : true ≡ false = sym (found_blocked here c n found (d ∷ ds) ∙ ap (λ node. is_blocked (inner node) (d ∷ ds)) is) ∙ free in cc)

  no_folder : (n : ℕ) (found : Found here c n) (cs : Path) (rows : Rows) → found.node ≡ folder rows → is_blocked (told here) (c ∷ cs) ≡ false → Ends here cs (Ok n) → ⊥
  no_folder n found [] rows is free ends =
      let whole = subst IsWhole is (sound_at found.front record { name = c; node = found.node } found.back (subst IsSound found.is sound)) in
      let h : true ≡ false = sym (found_blocked here c n found [] ∙ ap (λ node. is_blocked (inner node) []) is ∙ whole_blocked rows whole) ∙ free in
      cc
  no_folder n found (d ∷ ds) rows is free ends = (let h : Some (listed rows) ≡ None = sym (folder_found here c n found ∙ ap rows_in is) ∙ ends (omega arith) in cc)

  pub put_here : (cs : Path) (text : Text) (place : Result ℕ ℕ) → Places here c place → is_blocked (told here) (c ∷ cs) ≡ false → Ends here cs place → told (put_at here (c ∷ cs) text place) ≡ tree_with (told here) (c ∷ cs) text
  put_here cs text (Err n) gap free ends = gap_put here c n gap cs text
  put_here cs text (Ok n) found free ends = by found.node refl where
    by : (node : Node) → found.node ≡ node → told (with_node here n (file text)) ≡ tree_with (told here) (c ∷ cs) text
    by (file old) is = at_file n found cs old text is free
    by (folder rows) is = absurd (no_folder n found cs rows is free ends)

  pub put_sound : (cs : Path) (text : Text) (place : Result ℕ ℕ) → Places here c place → IsSound (put_at here (c ∷ cs) text place)
  put_sound cs text (Err n) gap = gap_sound here c n gap cs text sound
  put_sound cs text (Ok n) found = found_sound here c n found text sound

  -- a file that is there is taken out, and where none is nothing changes
  pub del_here : (n : ℕ) (found : Found here c n) (text : Text) → file_at here n ≡ Some text → told (remove here n) ≡ without_file (told here) (c ∷ [])
  del_here n found text is = by found.node refl where
    by : (node : Node) → found.node ≡ node → told (remove here n) ≡ without_file (told here) (c ∷ [])
    by (file old) at = found_del here c n found old at
    by (folder rows) at = (let h : None ≡ Some text = sym (file_found here c n found ∙ ap text_in at) ∙ is in cc)

  pub del_folder : (n : ℕ) (found : Found here c n) → file_at here n ≡ None → told here ≡ without_file (told here) (c ∷ [])
  del_folder n found none = by found.node refl where
    by : (node : Node) → found.node ≡ node → told here ≡ without_file (told here) (c ∷ [])
    by (file old) at = (let h : Some old ≡ None = sym (file_found here c n found ∙ ap text_in at) ∙ none in cc)
    by (folder rows) at =
        told_found here c n found
        ∙ ap (λ t. middle (told found.front) c t (told found.back)) (ap inner at ∙ sym (without_empty rows) ∙ ap (λ node. without_file (inner node) []) (sym at))
        ∙ sym (found_without here c n found [])

  pub del_beyond : (n : ℕ) (found : Found here c n) (cs : Path) → 0 < length cs → folder_at here n ≡ None → told here ≡ without_file (told here) (c ∷ cs)
  del_beyond n found cs some none = by found.node refl where
    past : (ds : Path) (old : Text) → 0 < length ds → without_file (record { path = []; text = old } ∷ []) ds ≡ record { path = []; text = old } ∷ []
    past [] old lt = absurd (omega arith)
    past (d ∷ ds) old lt = refl

    by : (node : Node) → found.node ≡ node → told here ≡ without_file (told here) (c ∷ cs)
    by (folder rows) at = (let h : Some (listed rows) ≡ None = sym (folder_found here c n found ∙ ap rows_in at) ∙ none in cc)
    by (file old) at =
        told_found here c n found
        ∙ ap (λ t. middle (told found.front) c t (told found.back)) (ap inner at ∙ sym (past cs old some) ∙ ap (λ node. without_file (inner node) cs) (sym at))
        ∙ sym (found_without here c n found cs)
