use Rattle.std.proofs.Common.{◌≡◌, ◌&&◌, pos, ◌+ℤ◌, ◌-ℤ◌, ◌*ℤ◌, neg_ℤ, not, Ok, IfOk, unsigned_abs, FitsSigned, refl, ap, ◌∙◌, rules}
use Rattle.std.specs.Prelude.{int_lt, int_le}
use Rattle.std.proofs.lemmas.Int.{to_z-of_z}
use Rattle.std.specs.Ordering.{int_eq}
use Rattle.std.specs.Int.{w64}
use Rattle.std.specs.Option.{SomeIff}
use Rattle.zw_def_world.specs.Act.{gives}
use Rattle.zw_def_world.specs.IntegerRows.{over, rest, if_divides, makes_quotients, compared, abs, is_even, clamped}
use Rattle.zw_def_world.specs.Making.{makes_integer}
use Rattle.zw_def_world.specs.Site.{yes_or_no}
use Rattle.zw_def_world.specs.Value as told
use Rattle.zw_heap.specs.Telling.{Telling, tell}
use Rattle.zw_calls.specs.End.{EndsAtOnce}
use Rattle.zw_calls.specs.Integer.{IsInRange}
use Rattle.zw_calls.specs.declared.end.PrimEnd.TheVariants as e
use Rattle.zw_calls.specs.declared.integer_row.IntegerRow.TheVariants as r
use Rattle.zw_prims.proofs.IntegerLemmas.{arm, making_arm, abs_in_range}
use Rattle.zw_prims.proofs.integer.act.Goals as goal

pub returns-in-Plus-clause-performs : goal.returns-in-Plus-clause-performs
returns-in-Plus-clause-performs c = λ names.
    let number = c.args.number in
    let other = c.integer_at-other.result in
    let exact : IsInRange c.checked_add.result (number +ℤ other) = search rules in
    arm number c.args.args.now c.args.row c.args.heap.now names c.args.meter.now.left r.Plus (λ I. makes_integer (number +ℤ other)) c.in-Plus.is (λ s I. ap (λ b. makes_integer (number +ℤ b)) (c.integer_at-other.ensures I)) c.integer.result (c.integer.ensures (number +ℤ other) exact)

pub returns-in-Minus-clause-performs : goal.returns-in-Minus-clause-performs
returns-in-Minus-clause-performs c = λ names.
    let number = c.args.number in
    let other = c.integer_at-other.result in
    let exact : IsInRange c.checked_sub.result (number -ℤ other) = search rules in
    arm number c.args.args.now c.args.row c.args.heap.now names c.args.meter.now.left r.Minus (λ I. makes_integer (number -ℤ other)) c.in-Minus.is (λ s I. ap (λ b. makes_integer (number -ℤ b)) (c.integer_at-other.ensures I)) c.integer-in-Minus.result (c.integer-in-Minus.ensures (number -ℤ other) exact)

pub returns-in-Times-clause-performs : goal.returns-in-Times-clause-performs
returns-in-Times-clause-performs c = λ names.
    let number = c.args.number in
    let other = c.integer_at-other.result in
    let exact : IsInRange c.checked_mul.result (number *ℤ other) = search rules in
    arm number c.args.args.now c.args.row c.args.heap.now names c.args.meter.now.left r.Times (λ I. makes_integer (number *ℤ other)) c.in-Times.is (λ s I. ap (λ b. makes_integer (number *ℤ b)) (c.integer_at-other.ensures I)) c.integer-in-Times.result (c.integer-in-Times.ensures (number *ℤ other) exact)

pub returns-in-Over-clause-performs : goal.returns-in-Over-clause-performs
returns-in-Over-clause-performs c = λ names.
    let number = c.args.number in
    let other = c.integer_at-other.result in
    let once : IfOk c.quotient.result (EndsAtOnce (λ I. if_divides other (makes_integer (over number other)))) = search rules in
    arm number c.args.args.now c.args.row c.args.heap.now names c.args.meter.now.left r.Over (λ I. if_divides other (makes_integer (over number other))) c.in-Over.is (λ s I. ap (λ b. if_divides b (makes_integer (over number b))) (c.integer_at-other.ensures I)) c.quotient.result once

pub returns-in-Rest-clause-performs : goal.returns-in-Rest-clause-performs
returns-in-Rest-clause-performs c = λ names.
    let number = c.args.number in
    let other = c.integer_at-other.result in
    let once : IfOk c.remainder.result (EndsAtOnce (λ I. if_divides other (gives (told.int (rest number other))))) = search rules in
    arm number c.args.args.now c.args.row c.args.heap.now names c.args.meter.now.left r.Rest (λ I. if_divides other (gives (told.int (rest number other)))) c.in-Rest.is (λ s I. ap (λ b. if_divides b (gives (told.int (rest number b)))) (c.integer_at-other.ensures I)) c.remainder.result once

pub returns-in-Less-clause-performs : goal.returns-in-Less-clause-performs
returns-in-Less-clause-performs c = λ names.
    let number = c.args.number in
    let other = c.integer_at-other.result in
    let once : EndsAtOnce (λ I. yes_or_no (int_lt number other)) c.yes_or_no.result = search rules in
    arm number c.args.args.now c.args.row c.args.heap.now names c.args.meter.now.left r.Less (λ I. yes_or_no (int_lt number other)) c.in-Less.is (λ s I. ap (λ b. yes_or_no (int_lt number b)) (c.integer_at-other.ensures I)) (Ok c.yes_or_no.result) once

pub returns-in-LessOrSame-clause-performs : goal.returns-in-LessOrSame-clause-performs
returns-in-LessOrSame-clause-performs c = λ names.
    let number = c.args.number in
    let other = c.integer_at-other.result in
    let once : EndsAtOnce (λ I. yes_or_no (int_le number other)) c.yes_or_no-in-LessOrSame.result = search rules in
    arm number c.args.args.now c.args.row c.args.heap.now names c.args.meter.now.left r.LessOrSame (λ I. yes_or_no (int_le number other)) c.in-LessOrSame.is (λ s I. ap (λ b. yes_or_no (int_le number b)) (c.integer_at-other.ensures I)) (Ok c.yes_or_no-in-LessOrSame.result) once

pub returns-in-Greater-clause-performs : goal.returns-in-Greater-clause-performs
returns-in-Greater-clause-performs c = λ names.
    let number = c.args.number in
    let other = c.integer_at-other.result in
    let once : EndsAtOnce (λ I. yes_or_no (int_lt other number)) c.yes_or_no-in-Greater.result = search rules in
    arm number c.args.args.now c.args.row c.args.heap.now names c.args.meter.now.left r.Greater (λ I. yes_or_no (int_lt other number)) c.in-Greater.is (λ s I. ap (λ b. yes_or_no (int_lt b number)) (c.integer_at-other.ensures I)) (Ok c.yes_or_no-in-Greater.result) once

pub returns-in-GreaterOrSame-clause-performs : goal.returns-in-GreaterOrSame-clause-performs
returns-in-GreaterOrSame-clause-performs c = λ names.
    let number = c.args.number in
    let other = c.integer_at-other.result in
    let once : EndsAtOnce (λ I. yes_or_no (int_le other number)) c.yes_or_no-in-GreaterOrSame.result = search rules in
    arm number c.args.args.now c.args.row c.args.heap.now names c.args.meter.now.left r.GreaterOrSame (λ I. yes_or_no (int_le other number)) c.in-GreaterOrSame.is (λ s I. ap (λ b. yes_or_no (int_le b number)) (c.integer_at-other.ensures I)) (Ok c.yes_or_no-in-GreaterOrSame.result) once

pub returns-in-IsZero-clause-performs : goal.returns-in-IsZero-clause-performs
returns-in-IsZero-clause-performs c = λ names.
    let number = c.args.number in
    let other = c.integer_at-other.result in
    let once : EndsAtOnce (λ I. yes_or_no (int_eq number (pos 0))) c.yes_or_no-in-IsZero.result = search rules in
    arm number c.args.args.now c.args.row c.args.heap.now names c.args.meter.now.left r.IsZero (λ I. yes_or_no (int_eq number (pos 0))) c.in-IsZero.is (λ s I. refl) (Ok c.yes_or_no-in-IsZero.result) once

pub returns-in-IsPositive-clause-performs : goal.returns-in-IsPositive-clause-performs
returns-in-IsPositive-clause-performs c = λ names.
    let number = c.args.number in
    let other = c.integer_at-other.result in
    let once : EndsAtOnce (λ I. yes_or_no (int_lt (pos 0) number)) c.yes_or_no-in-IsPositive.result = search rules in
    arm number c.args.args.now c.args.row c.args.heap.now names c.args.meter.now.left r.IsPositive (λ I. yes_or_no (int_lt (pos 0) number)) c.in-IsPositive.is (λ s I. refl) (Ok c.yes_or_no-in-IsPositive.result) once

pub returns-in-IsNegative-clause-performs : goal.returns-in-IsNegative-clause-performs
returns-in-IsNegative-clause-performs c = λ names.
    let number = c.args.number in
    let other = c.integer_at-other.result in
    let once : EndsAtOnce (λ I. yes_or_no (int_lt number (pos 0))) c.yes_or_no-in-IsNegative.result = search rules in
    arm number c.args.args.now c.args.row c.args.heap.now names c.args.meter.now.left r.IsNegative (λ I. yes_or_no (int_lt number (pos 0))) c.in-IsNegative.is (λ s I. refl) (Ok c.yes_or_no-in-IsNegative.result) once

pub returns-in-IsEven-clause-performs : goal.returns-in-IsEven-clause-performs
returns-in-IsEven-clause-performs c = λ names.
    let number = c.args.number in
    let other = c.integer_at-other.result in
    let once : EndsAtOnce (λ I. yes_or_no (is_even number)) c.yes_or_no-in-IsEven.result = search rules in
    arm number c.args.args.now c.args.row c.args.heap.now names c.args.meter.now.left r.IsEven (λ I. yes_or_no (is_even number)) c.in-IsEven.is (λ s I. refl) (Ok c.yes_or_no-in-IsEven.result) once

pub returns-in-IsOdd-clause-performs : goal.returns-in-IsOdd-clause-performs
returns-in-IsOdd-clause-performs c = λ names.
    let number = c.args.number in
    let other = c.integer_at-other.result in
    let once : EndsAtOnce (λ I. yes_or_no (not (is_even number))) c.yes_or_no-in-IsOdd.result = search rules in
    arm number c.args.args.now c.args.row c.args.heap.now names c.args.meter.now.left r.IsOdd (λ I. yes_or_no (not (is_even number))) c.in-IsOdd.is (λ s I. refl) (Ok c.yes_or_no-in-IsOdd.result) once

pub returns-in-Compared-clause-performs : goal.returns-in-Compared-clause-performs
returns-in-Compared-clause-performs c = λ names.
    let number = c.args.number in
    let value = c.compared.result in
    let is : (I : Telling) → compared number (tell I c.value_at.result) ≡ tell I value = search rules in
    let once : EndsAtOnce (λ I. gives (tell I value)) (e.Value value) = record { told = λ I call. refl; held = c.compared.ensures.held; done = tt } in
    arm number c.args.args.now c.args.row c.args.heap.now names c.args.meter.now.left r.Compared (λ I. gives (tell I value)) c.in-Compared.is (λ s I. ap (λ v. gives (compared number v)) (c.value_at.ensures I) ∙ ap gives (is I)) (Ok (e.Value value)) once

pub returns-in-Abs-clause-performs : goal.returns-in-Abs-clause-performs
returns-in-Abs-clause-performs c = λ names.
    let number = c.args.number in
    let exact : SomeIff c.checked_abs.result (FitsSigned w64 (neg_ℤ number)) (pos (unsigned_abs number)) = search rules in
    arm number c.args.args.now c.args.row c.args.heap.now names c.args.meter.now.left r.Abs (λ I. makes_integer (abs number)) c.in-Abs.is (λ s I. refl) c.integer-in-Abs.result
    (c.integer-in-Abs.ensures (abs number) (abs_in_range number c.checked_abs.result c.ranges.number exact))

pub returns-in-Divmod-clause-performs : goal.returns-in-Divmod-clause-performs
returns-in-Divmod-clause-performs c = λ names.
    let number = c.args.number in
    let other = c.integer_at-other.result in
    let fits_number : FitsSigned w64 number = c.ranges.number in
    let fits_other : FitsSigned w64 other = search rules in
    let made = simp to_z-of_z at (c.quotients.ensures.performs names) in
    making_arm number c.args.args.now c.args.row c.args.heap.now names c.args.meter.now.left r.Divmod (λ s I. if_divides other (makes_quotients number other)) c.in-Divmod.is
    (λ s I. ap (λ b. if_divides b (makes_quotients number b)) (c.integer_at-other.ensures I)) c.quotients.new.heap c.quotients.new.meter.left c.quotients.result made

pub returns-in-IsBetween-clause-performs : goal.returns-in-IsBetween-clause-performs
returns-in-IsBetween-clause-performs c = λ names.
    let number = c.args.number in
    let other = c.integer_at-other.result in
    let last = c.integer_at-last.result in
    let once : EndsAtOnce (λ I. yes_or_no (int_le other number && int_le number last)) c.yes_or_no-in-IsBetween.result = search rules in
    arm number c.args.args.now c.args.row c.args.heap.now names c.args.meter.now.left r.IsBetween (λ I. yes_or_no (int_le other number && int_le number last)) c.in-IsBetween.is (λ s I i. yes_or_no (int_le (c.integer_at-other.ensures I i) number && int_le number (c.integer_at-last.ensures I i))) (Ok c.yes_or_no-in-IsBetween.result) once

pub returns-in-Clamp-clause-performs : goal.returns-in-Clamp-clause-performs
returns-in-Clamp-clause-performs c = λ names.
    let number = c.args.number in
    let other = c.integer_at-other.result in
    let last = c.integer_at-last.result in
    let once : IfOk c.clamped.result (EndsAtOnce (λ I. clamped number other last)) = search rules in
    arm number c.args.args.now c.args.row c.args.heap.now names c.args.meter.now.left r.Clamp (λ I. clamped number other last) c.in-Clamp.is (λ s I i. clamped number (c.integer_at-other.ensures I i) (c.integer_at-last.ensures I i)) c.clamped.result once
