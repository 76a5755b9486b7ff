-- Rows stay sound where one is put in, changed or taken out.
use Rattle.std.proofs.Common.{◌≡◌, ◌<◌, List, [], ◌∷◌, ◌++◌, length, map, ap, sym, ◌∙◌, arith, subst, length-append}
use Rattle.std.specs.declared.cmp.Ordering.TheVariants.{Less}
use Rattle.std.proofs.lemmas.List.{length-map}
use Rattle.zw_def.specs.Text.{Text}
use Rattle.zw_tree.specs.Row.{Node, Rows, Row, file, folder, no_rows, row, listed, rows_of, below, told, told_rows, files_under}
use Rattle.zw_tree.specs.Sound.{text_cmp, AllAfter, AllBefore, IsWhole, AreSound, IsSound}
use Rattle.zw_tree.specs.Code.{listed_rows}
use Rattle.zw_tree.proofs.RowLemmas.{told_rows-of}

pub sound_listed : (rows : Rows) → AreSound rows → IsSound (listed rows)
sound_listed no_rows sound = tt
sound_listed (row name node more) sound = (sound.0, sound.1, sound_listed more sound.2)

pub sound_rows : (rs : List Row) → IsSound rs → AreSound (rows_of rs)
sound_rows [] sound = tt
sound_rows (r ∷ rs) sound = (sound.0, subst (AllAfter r.name) (sym (listed_rows rs)) sound.1, sound_rows rs sound.2)

-- sound rows tell a file, where there are any
pub told_some : (rs : List Row) → IsSound rs → 0 < length rs → 0 < length (told rs)
told_some [] sound some = absurd (omega arith)
told_some (r ∷ rs) sound some = by r.node sound.0 where
  by : (node : Node) → IsWhole node → 0 < length (files_under r.name node ++ told rs)
  by (file t) whole = omega arith
  by (folder rows) whole = omega (arith, whole.0, length-append (map (below r.name) (told_rows rows)) (told rs), length-map (told_rows rows) (below r.name))

pub whole_folder : (rs : List Row) → IsSound rs → 0 < length rs → IsWhole (folder (rows_of rs))
whole_folder rs sound some = (omega (arith, told_some rs sound some, ap length (told_rows-of rs)), sound_rows rs sound)

pub whole_some : (rs : List Row) → IsWhole (folder (rows_of rs)) → 0 < length rs
whole_some [] whole = absurd (omega (arith, whole.0))
whole_some (r ∷ rs) whole = omega arith

pub whole_sound : (rs : List Row) → IsWhole (folder (rows_of rs)) → IsSound rs
whole_sound rs whole = subst IsSound (listed_rows rs) (sound_listed (rows_of rs) whole.1)

-- what holds of all rows after a name holds with one row more, or one less
after_with : (name : Text) (front : List Row) (r : Row) (back : List Row) → AllAfter name (front ++ back) → text_cmp name r.name ≡ Less → AllAfter name (front ++ r ∷ back)
after_with name [] r back after e = (e, after)
after_with name (x ∷ front) r back after e = (after.0, after_with name front r back after.1 e)

after_less : (name : Text) (front : List Row) (r : Row) (back : List Row) → AllAfter name (front ++ r ∷ back) → AllAfter name (front ++ back)
after_less name [] r back after = after.1
after_less name (x ∷ front) r back after = (after.0, after_less name front r back after.1)

after_set : (name : Text) (front : List Row) (r s : Row) (back : List Row) → s.name ≡ r.name → AllAfter name (front ++ r ∷ back) → AllAfter name (front ++ s ∷ back)
after_set name [] r s back e after = (ap (text_cmp name) e ∙ after.0, after.1)
after_set name (x ∷ front) r s back e after = (after.0, after_set name front r s back e after.1)

pub sound_with : (front : List Row) (r : Row) (back : List Row) → IsSound (front ++ back) → AllBefore front r.name → AllAfter r.name back → IsWhole r.node → IsSound (front ++ r ∷ back)
sound_with [] r back sound before after whole = (whole, after, sound)
sound_with (x ∷ front) r back sound before after whole = (sound.0, after_with x.name front r back sound.1 before.0, sound_with front r back sound.2 before.1 after whole)

pub sound_set : (front : List Row) (r s : Row) (back : List Row) → s.name ≡ r.name → IsSound (front ++ r ∷ back) → IsWhole s.node → IsSound (front ++ s ∷ back)
sound_set [] r s back e sound whole = (whole, subst (λ n. AllAfter n back) (sym e) sound.1, sound.2)
sound_set (x ∷ front) r s back e sound whole = (sound.0, after_set x.name front r s back e sound.1, sound_set front r s back e sound.2 whole)

pub sound_less : (front : List Row) (r : Row) (back : List Row) → IsSound (front ++ r ∷ back) → IsSound (front ++ back)
sound_less [] r back sound = sound.2
sound_less (x ∷ front) r back sound = (sound.0, after_less x.name front r back sound.1, sound_less front r back sound.2)

pub sound_at : (front : List Row) (r : Row) (back : List Row) → IsSound (front ++ r ∷ back) → IsWhole r.node
sound_at [] r back sound = sound.0
sound_at (x ∷ front) r back sound = sound_at front r back sound.2
