-- What a directory on the way down says of the directories above it.
use Rattle.std.proofs.Common.{◌≡◌, ◌<◌, true, false, Some, None, List, [], ◌∷◌, ◌++◌, length, refl, ap, sym, ◌∙◌, arith, subst}
use Rattle.std.specs.Prelude.{◌==◌}
use Rattle.std.proofs.lemmas.Bool.Decides.{nat_tests}
use Rattle.std.specs.List.{remove}
use Rattle.zw_def.specs.Text.{Text}
use Rattle.zw_def.specs.Path.{Path}
use Rattle.zw_def.specs.Tree.{Tree}
use Rattle.zw_tree.specs.Row.{Node, Row, file, folder, no_rows, listed, rows_of, told}
use Rattle.zw_tree.specs.Sound.{IsSound, IsWhole}
use Rattle.zw_tree.specs.Text.{text_at}
use Rattle.zw_tree.specs.Edit.{is_blocked}
use Rattle.zw_tree.specs.Places.{Found}
use Rattle.zw_tree.specs.Lookup.{with_node, folder_at, rows_in}
use Rattle.zw_tree.specs.Middle.{middle, BeginsBefore, BeginsAfter, AllBegin}
use Rattle.zw_tree.specs.Trail.{closed_level, closed, Opens, Leads}
use Rattle.zw_tree.specs.declared.trail.Level.{Level}
use Rattle.zw_tree.proofs.ListLemmas.{remove-at}
use Rattle.zw_tree.proofs.RowLemmas.{rows-listed, folder_found, told_rows-of, told_middle, told_gap, begins_before, begins_after, with_node-at}
use Rattle.zw_tree.proofs.SoundLemmas.{whole_folder, whole_some, whole_sound, sound_set, sound_less, sound_at}
use Rattle.zw_tree.proofs.MiddleLemmas.{middle_text, middle_blocked}

-- one level
module _ (rows : List Row) (c : Text) (l : Level) (below : List Row) (opens : Opens rows c l below) where
  abbrev front : List Row
  front = opens.found.front

  abbrev back : List Row
  back = opens.found.back

  begin : AllBegin (BeginsBefore c) (told front)
  begin = begins_before c front opens.found.before

  end : AllBegin (BeginsAfter c) (told back)
  end = begins_after c back opens.found.after

  rows_are : rows ≡ front ++ record { name = c; node = folder (rows_of below) } ∷ back
  rows_are = opens.found.is ∙ ap (λ n. front ++ record { name = c; node = n } ∷ back) opens.is

  left_are : l.folder ≡ front ++ record { name = c; node = folder no_rows } ∷ back
  left_are = opens.left ∙ ap (λ rs. with_node rs l.at (folder no_rows)) rows_are ∙ with_node-at front record { name = c; node = folder (rows_of below) } back l.at (folder no_rows) opens.found.at

  put_are : (x : List Row) → with_node l.folder l.at (folder (rows_of x)) ≡ front ++ record { name = c; node = folder (rows_of x) } ∷ back
  put_are x = ap (λ rs. with_node rs l.at (folder (rows_of x))) left_are ∙ with_node-at front record { name = c; node = folder no_rows } back l.at (folder (rows_of x)) opens.found.at

  removed_are : remove l.folder l.at ≡ front ++ back
  removed_are = ap (λ rs. remove rs l.at) left_are ∙ remove-at front record { name = c; node = folder no_rows } back l.at opens.found.at

  told_put : (x : List Row) → told (front ++ record { name = c; node = folder (rows_of x) } ∷ back) ≡ middle (told front) c (told x) (told back)
  told_put x = told_middle front record { name = c; node = folder (rows_of x) } back ∙ ap (λ t. middle (told front) c t (told back)) (told_rows-of x)

  pub told_above : told rows ≡ middle (told front) c (told below) (told back)
  told_above = ap told rows_are ∙ told_put below

  pub told_level : (x : List Row) → told (closed_level l x) ≡ middle (told front) c (told x) (told back)
  told_level [] = ap told removed_are ∙ told_gap c front back
  told_level (r ∷ rs) = ap told (put_are (r ∷ rs)) ∙ told_put (r ∷ rs)

  module _ (sound : IsSound rows) where
    pub level_whole : IsWhole (folder (rows_of below))
    level_whole = sound_at front record { name = c; node = folder (rows_of below) } back (subst IsSound rows_are sound)

    pub level_sound : (x : List Row) → IsSound x → IsSound (closed_level l x)
    level_sound [] s = subst IsSound (sym removed_are) (sound_less front record { name = c; node = folder (rows_of below) } back (subst IsSound rows_are sound))
    level_sound (r ∷ rs) s = subst IsSound (sym (put_are (r ∷ rs))) (sound_set front record { name = c; node = folder (rows_of below) } record { name = c; node = folder (rows_of (r ∷ rs)) } back refl (subst IsSound rows_are sound) (whole_folder (r ∷ rs) s (omega arith)))

    pub level_same : closed_level l below ≡ rows
    level_same = by below refl (whole_some below level_whole) where
      by : (x : List Row) → x ≡ below → 0 < length x → closed_level l x ≡ rows
      by [] e some = absurd (omega arith)
      by (r ∷ rs) e some = put_are (r ∷ rs) ∙ ap (λ y. front ++ record { name = c; node = folder (rows_of y) } ∷ back) e ∙ sym rows_are

  pub level_text : (cs : Path) → text_at (c ∷ cs) (told rows) ≡ text_at cs (told below)
  level_text cs = ap (text_at (c ∷ cs)) told_above ∙ middle_text c (told front) (told back) begin end (told below) cs

  pub level_blocked : (cs : Path) → is_blocked (told rows) (c ∷ cs) ≡ is_blocked (told below) cs
  level_blocked cs = ap (λ t. is_blocked t (c ∷ cs)) told_above ∙ middle_blocked c (told front) (told back) begin end (told below) cs

-- all levels
pub leads_sound : (rows : List Row) (ps : Path) (ls : List Level) (here : List Row) → IsSound rows → Leads rows ps ls here → IsSound here
leads_sound rows [] [] here sound leads = subst IsSound leads sound
leads_sound rows [] (l ∷ ls) here sound leads = absurd leads
leads_sound rows (c ∷ cs) [] here sound leads = absurd leads
leads_sound rows (c ∷ cs) (l ∷ ls) here sound leads = leads_sound leads.0 cs ls here (whole_sound leads.0 (level_whole rows c l leads.0 leads.1 sound)) leads.2

pub leads_text : (rows : List Row) (ps : Path) (ls : List Level) (here : List Row) → Leads rows ps ls here → (cs : Path) → text_at (ps ++ cs) (told rows) ≡ text_at cs (told here)
leads_text rows [] [] here leads cs = ap (λ rs. text_at cs (told rs)) leads
leads_text rows [] (l ∷ ls) here leads cs = absurd leads
leads_text rows (p ∷ ps) [] here leads cs = absurd leads
leads_text rows (p ∷ ps) (l ∷ ls) here leads cs = level_text rows p l leads.0 leads.1 (ps ++ cs) ∙ leads_text leads.0 ps ls here leads.2 cs

pub leads_blocked : (rows : List Row) (ps : Path) (ls : List Level) (here : List Row) → Leads rows ps ls here → (cs : Path) → is_blocked (told rows) (ps ++ cs) ≡ is_blocked (told here) cs
leads_blocked rows [] [] here leads cs = ap (λ rs. is_blocked (told rs) cs) leads
leads_blocked rows [] (l ∷ ls) here leads cs = absurd leads
leads_blocked rows (p ∷ ps) [] here leads cs = absurd leads
leads_blocked rows (p ∷ ps) (l ∷ ls) here leads cs = level_blocked rows p l leads.0 leads.1 (ps ++ cs) ∙ leads_blocked leads.0 ps ls here leads.2 cs

pub leads_more : (rows : List Row) (ps : Path) (ls : List Level) (here : List Row) → Leads rows ps ls here → (c : Text) (l : Level) (below : List Row) → Opens here c l below → Leads rows (ps ++ c ∷ []) (ls ++ l ∷ []) below
leads_more rows [] [] here leads c l below opens = (below, subst (λ rs. Opens rs c l below) (sym leads) opens, refl)
leads_more rows [] (k ∷ ls) here leads c l below opens = absurd leads
leads_more rows (p ∷ ps) [] here leads c l below opens = absurd leads
leads_more rows (p ∷ ps) (k ∷ ls) here leads c l below opens = (leads.0, leads.1, leads_more leads.0 ps ls here leads.2 c l below opens)

pub closed_sound : (rows : List Row) (ps : Path) (ls : List Level) (here x : List Row) → IsSound rows → Leads rows ps ls here → IsSound x → IsSound (closed ls x)
closed_sound rows [] [] here x sound leads s = s
closed_sound rows [] (l ∷ ls) here x sound leads s = absurd leads
closed_sound rows (c ∷ cs) [] here x sound leads s = absurd leads
closed_sound rows (c ∷ cs) (l ∷ ls) here x sound leads s = level_sound rows c l leads.0 leads.1 sound (closed ls x) (closed_sound leads.0 cs ls here x (whole_sound leads.0 (level_whole rows c l leads.0 leads.1 sound)) leads.2 s)

pub closed_same : (rows : List Row) (ps : Path) (ls : List Level) (here : List Row) → IsSound rows → Leads rows ps ls here → closed ls here ≡ rows
closed_same rows [] [] here sound leads = sym leads
closed_same rows [] (l ∷ ls) here sound leads = absurd leads
closed_same rows (c ∷ cs) [] here sound leads = absurd leads
closed_same rows (c ∷ cs) (l ∷ ls) here sound leads =
    ap (closed_level l) (closed_same leads.0 cs ls here (whole_sound leads.0 (level_whole rows c l leads.0 leads.1 sound)) leads.2)
    ∙ level_same rows c l leads.0 leads.1 sound

-- an edit that does to the files of a name what it does to those below it
module _ (edit : Path → Tree → Tree) (within : (c : Text) (front back : Tree) → AllBegin (BeginsBefore c) front → AllBegin (BeginsAfter c) back → (tree : Tree) (cs : Path) → edit (c ∷ cs) (middle front c tree back) ≡ middle front c (edit cs tree) back) where
  pub closed_told : (rows : List Row) (ps : Path) (ls : List Level) (here x : List Row) → Leads rows ps ls here → (cs : Path) → told x ≡ edit cs (told here) → told (closed ls x) ≡ edit (ps ++ cs) (told rows)
  closed_told rows [] [] here x leads cs e = e ∙ ap (λ rs. edit cs (told rs)) (sym leads)
  closed_told rows [] (l ∷ ls) here x leads cs e = absurd leads
  closed_told rows (p ∷ ps) [] here x leads cs e = absurd leads
  closed_told rows (p ∷ ps) (l ∷ ls) here x leads cs e =
      told_level rows p l leads.0 leads.1 (closed ls x)
      ∙ ap (λ t. middle (told leads.1.found.front) p t (told leads.1.found.back)) (closed_told leads.0 ps ls here x leads.2 cs e)
      ∙ sym (within p (told leads.1.found.front) (told leads.1.found.back) (begins_before p leads.1.found.front leads.1.found.before) (begins_after p leads.1.found.back leads.1.found.after) (told leads.0) (ps ++ cs))
      ∙ ap (edit (p ∷ ps ++ cs)) (sym (told_above rows p l leads.0 leads.1))

-- the last level first
pub closed-last : (ls : List Level) (l : Level) (x : List Row) → closed (ls ++ l ∷ []) x ≡ closed ls (closed_level l x)
closed-last [] l x = refl
closed-last (k ∷ ls) l x = ap (closed_level k) (closed-last ls l x)

pub closed_empty : (l : Level) (x : List Row) → (length x == 0) ≡ true → closed_level l x ≡ remove l.folder l.at
closed_empty l [] e = refl
closed_empty l (r ∷ rs) e = absurd (grind (arith, nat_tests))

pub closed_some : (l : Level) (x : List Row) → (length x == 0) ≡ false → closed_level l x ≡ with_node l.folder l.at (folder (rows_of x))
closed_some l [] e = absurd (grind (arith, nat_tests))
closed_some l (r ∷ rs) e = refl

-- a directory that is found and taken out
pub opened : (here : List Row) (c : Text) (l : Level) (below : List Row) → Found here c l.at → folder_at here l.at ≡ Some below → l.folder ≡ with_node here l.at (folder no_rows) → Opens here c l below
opened here c l below found at left = record { found = found; is = by found.node refl; left = left } where
  by : (node : Node) → found.node ≡ node → found.node ≡ folder (rows_of below)
  by (file text) e = (let h : None ≡ Some below = sym (folder_found here c l.at found ∙ ap rows_in e) ∙ at in cc)
  by (folder rows) e =
      let h : Some (listed rows) ≡ Some below = sym (folder_found here c l.at found ∙ ap rows_in e) ∙ at in
      let same : listed rows ≡ below = cc in
      e ∙ ap folder (sym (rows-listed rows) ∙ ap rows_of same)
