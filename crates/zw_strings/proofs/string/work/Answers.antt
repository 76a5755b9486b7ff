use Rattle.std.proofs.Common.{length, chars, map, pos, not, Ok, ap, sym, ◌∙◌, refl, FitsSigned, rules}
use Rattle.std.specs.Int.{w64}
use Rattle.std.proofs.lemmas.Int.{to_z-of_z}
use Rattle.zw_def_world.specs.Act.{gives}
use Rattle.zw_def_world.specs.Making.{makes_integer}
use Rattle.zw_def_world.specs.Site.{yes_or_no}
use Rattle.zw_def_world.specs.StringRows.{precedes, holds, begins_with, ends_with, times, padding, justified_left, justified_right, number_of, part_at, splits}
use Rattle.zw_def_world.specs.Value as told
use Rattle.zw_heap.specs.Telling.{tell}
use Rattle.zw_calls.specs.declared.end.PrimEnd.TheVariants as e
use Rattle.zw_calls.specs.declared.string_row.StringRow.TheVariants as r
use Rattle.zw_strings.specs.declared.work.Work.TheVariants as w
use Rattle.zw_strings.proofs.WorkLemmas.{arm, ended_left}
use Rattle.zw_strings.proofs.string.work.Goals as goal

pub returns-in-Times : goal.returns-in-Times
returns-in-Times c =
    let t = c.args.text.now in
    let h = c.args.heap.now in
    let names = c.args.names.now in
    let fits_number : FitsSigned w64 c.integer_at-number.result = search rules in
    let made = simp to_z-of_z at (c.times.ensures h names) in
    arm t c.args.args.now c.args.row h names r.Times (λ s I. times c.integer_at-number.result t) c.in-Times.is
    (λ s I fit. ap (λ z. times z t) (c.integer_at-number.ensures I))
    (c.times.result) made

pub returns-in-Less : goal.returns-in-Less
returns-in-Less c =
    let t = c.args.text.now in
    let h = c.args.heap.now in
    let names = c.args.names.now in
    let other = c.text_at-other.result.now in
    arm t c.args.args.now c.args.row h names r.Less (λ s I. yes_or_no (c.precedes.result)) c.in-Less.is
    (λ s I fit. ap (λ u. yes_or_no (precedes t u)) (c.text_at-other.ensures I fit) ∙ ap yes_or_no (sym c.precedes.ensures))
    (Ok c.answered.result) (c.answered.ensures h names)

pub returns-in-LessOrSame : goal.returns-in-LessOrSame
returns-in-LessOrSame c =
    let t = c.args.text.now in
    let h = c.args.heap.now in
    let names = c.args.names.now in
    let other = c.text_at-other.result.now in
    arm t c.args.args.now c.args.row h names r.LessOrSame (λ s I. yes_or_no (not c.precedes-in-LessOrSame.result)) c.in-LessOrSame.is
    (λ s I fit. ap (λ u. yes_or_no (not (precedes u t))) (c.text_at-other.ensures I fit) ∙ ap (λ b. yes_or_no (not b)) (sym c.precedes-in-LessOrSame.ensures))
    (Ok c.answered-in-LessOrSame.result) (c.answered-in-LessOrSame.ensures h names)

pub returns-in-Greater : goal.returns-in-Greater
returns-in-Greater c =
    let t = c.args.text.now in
    let h = c.args.heap.now in
    let names = c.args.names.now in
    let other = c.text_at-other.result.now in
    arm t c.args.args.now c.args.row h names r.Greater (λ s I. yes_or_no (c.precedes-in-Greater.result)) c.in-Greater.is
    (λ s I fit. ap (λ u. yes_or_no (precedes u t)) (c.text_at-other.ensures I fit) ∙ ap yes_or_no (sym c.precedes-in-Greater.ensures))
    (Ok c.answered-in-Greater.result) (c.answered-in-Greater.ensures h names)

pub returns-in-GreaterOrSame : goal.returns-in-GreaterOrSame
returns-in-GreaterOrSame c =
    let t = c.args.text.now in
    let h = c.args.heap.now in
    let names = c.args.names.now in
    let other = c.text_at-other.result.now in
    arm t c.args.args.now c.args.row h names r.GreaterOrSame (λ s I. yes_or_no (not c.precedes-in-GreaterOrSame.result)) c.in-GreaterOrSame.is
    (λ s I fit. ap (λ u. yes_or_no (not (precedes t u))) (c.text_at-other.ensures I fit) ∙ ap (λ b. yes_or_no (not b)) (sym c.precedes-in-GreaterOrSame.ensures))
    (Ok c.answered-in-GreaterOrSame.result) (c.answered-in-GreaterOrSame.ensures h names)

pub returns-in-Compared : goal.returns-in-Compared
returns-in-Compared c =
    let t = c.args.text.now in
    let h = c.args.heap.now in
    let names = c.args.names.now in
    arm t c.args.args.now c.args.row h names r.Compared (λ s I. gives (tell I c.compared_with.result)) c.in-Compared.is
    (λ s I fit. ap gives (c.compared_with.ensures.told I names fit))
    (Ok (w.Ended (e.Value c.compared_with.result))) (record { told = λ s I fit. refl; settled = (tt, c.compared_with.ensures.held) })

pub returns-in-Size : goal.returns-in-Size
returns-in-Size c =
    let t = c.args.text.now in
    let h = c.args.heap.now in
    let names = c.args.names.now in
    arm t c.args.args.now c.args.row h names r.Size (λ s I. gives (told.int (pos c.size.result))) c.in-Size.is
    (λ s I fit. ap (λ n. gives (told.int (pos n))) (sym c.size.ensures.value))
    (c.counted.result) (c.counted.ensures h names)

pub returns-in-Length : goal.returns-in-Length
returns-in-Length c =
    let t = c.args.text.now in
    let h = c.args.heap.now in
    let names = c.args.names.now in
    arm t c.args.args.now c.args.row h names r.Length (λ s I. gives (told.int (pos c.size-in-Length.result))) c.in-Length.is
    (λ s I fit. ap (λ n. gives (told.int (pos n))) (sym c.size-in-Length.ensures.value))
    (c.counted-in-Length.result) (c.counted-in-Length.ensures h names)

pub returns-in-Bytesize : goal.returns-in-Bytesize
returns-in-Bytesize c =
    let t = c.args.text.now in
    let h = c.args.heap.now in
    let names = c.args.names.now in
    arm t c.args.args.now c.args.row h names r.Bytesize (λ s I. gives (told.int (pos (length t)))) c.in-Bytesize.is
    (λ s I fit. refl)
    (c.counted-in-Bytesize.result) (c.counted-in-Bytesize.ensures h names)

pub returns-in-IsEmpty : goal.returns-in-IsEmpty
returns-in-IsEmpty c =
    let t = c.args.text.now in
    let h = c.args.heap.now in
    let names = c.args.names.now in
    arm t c.args.args.now c.args.row h names r.IsEmpty (λ s I. yes_or_no c.is_empty.result) c.in-IsEmpty.is
    (λ s I fit. ap yes_or_no (sym c.is_empty.ensures))
    (Ok c.answered-in-IsEmpty.result) (c.answered-in-IsEmpty.ensures h names)

pub returns-in-Includes : goal.returns-in-Includes
returns-in-Includes c =
    let t = c.args.text.now in
    let h = c.args.heap.now in
    let names = c.args.names.now in
    let other = c.text_at-other.result.now in
    arm t c.args.args.now c.args.row h names r.Includes (λ s I. yes_or_no c.holds.result) c.in-Includes.is
    (λ s I fit. ap (λ u. yes_or_no (holds u t)) (c.text_at-other.ensures I fit) ∙ ap yes_or_no (sym c.holds.ensures))
    (Ok c.answered-in-Includes.result) (c.answered-in-Includes.ensures h names)

pub returns-in-StartsWith : goal.returns-in-StartsWith
returns-in-StartsWith c =
    let t = c.args.text.now in
    let h = c.args.heap.now in
    let names = c.args.names.now in
    let other = c.text_at-other.result.now in
    arm t c.args.args.now c.args.row h names r.StartsWith (λ s I. yes_or_no c.begins_with.result) c.in-StartsWith.is
    (λ s I fit. ap (λ u. yes_or_no (begins_with u t)) (c.text_at-other.ensures I fit) ∙ ap yes_or_no (sym c.begins_with.ensures))
    (Ok c.answered-in-StartsWith.result) (c.answered-in-StartsWith.ensures h names)

pub returns-in-EndsWith : goal.returns-in-EndsWith
returns-in-EndsWith c =
    let t = c.args.text.now in
    let h = c.args.heap.now in
    let names = c.args.names.now in
    let other = c.text_at-other.result.now in
    arm t c.args.args.now c.args.row h names r.EndsWith (λ s I. yes_or_no c.ends_with.result) c.in-EndsWith.is
    (λ s I fit. ap (λ u. yes_or_no (ends_with u t)) (c.text_at-other.ensures I fit) ∙ ap yes_or_no (sym c.ends_with.ensures))
    (Ok c.answered-in-EndsWith.result) (c.answered-in-EndsWith.ensures h names)

pub returns-in-At : goal.returns-in-At
returns-in-At c =
    let t = c.args.text.now in
    let h = c.args.heap.now in
    let names = c.args.names.now in
    arm t c.args.args.now c.args.row h names r.At (λ s I. part_at (chars t) (map (tell I) c.args.args.now)) c.in-At.is
    (λ s I fit. refl)
    (c.part_at.result) (c.part_at.ensures h names)

pub returns-in_ok-integer-in-ToI : goal.returns-in_ok-integer-in-ToI
returns-in_ok-integer-in-ToI c =
    let t = c.args.text.now in
    let h = c.args.heap.now in
    let names = c.args.names.now in
    arm t c.args.args.now c.args.row h names r.ToI (λ s I. makes_integer (number_of t)) c.in-ToI.is
    (λ s I fit. refl)
    (Ok (w.Ended c.in_ok-integer-in-ToI.field-0)) (ended_left h names (λ I. makes_integer (number_of t)) c.in_ok-integer-in-ToI.field-0 (c.in_ok-integer-in-ToI.ensures (number_of t) c.number_of.ensures))

pub returns-in-Split : goal.returns-in-Split
returns-in-Split c =
    let t = c.args.text.now in
    let h = c.args.heap.now in
    let names = c.args.names.now in
    let other = c.text_at-other.result.now in
    arm t c.args.args.now c.args.row h names r.Split (λ s I. splits t other) c.in-Split.is
    (λ s I fit. ap (splits t) (c.text_at-other.ensures I fit))
    (c.split_by.result) (c.split_by.ensures h names)

pub returns-in-Ljust : goal.returns-in-Ljust
returns-in-Ljust c =
    let t = c.args.text.now in
    let h = c.args.heap.now in
    let names = c.args.names.now in
    let fits_number : FitsSigned w64 c.integer_at-number.result = search rules in
    let made = simp to_z-of_z at (c.left_justified.ensures h names) in
    arm t c.args.args.now c.args.row h names r.Ljust (λ s I. justified_left (padding c.integer_at-number.result t) t) c.in-Ljust.is
    (λ s I fit. ap (λ z. justified_left (padding z t) t) (c.integer_at-number.ensures I))
    (c.left_justified.result) made

pub returns-in-Rjust : goal.returns-in-Rjust
returns-in-Rjust c =
    let t = c.args.text.now in
    let h = c.args.heap.now in
    let names = c.args.names.now in
    let fits_number : FitsSigned w64 c.integer_at-number.result = search rules in
    let made = simp to_z-of_z at (c.right_justified.ensures h names) in
    arm t c.args.args.now c.args.row h names r.Rjust (λ s I. justified_right (padding c.integer_at-number.result t) t) c.in-Rjust.is
    (λ s I fit. ap (λ z. justified_right (padding z t) t) (c.integer_at-number.ensures I))
    (c.right_justified.result) made
