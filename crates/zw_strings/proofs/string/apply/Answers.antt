use Rattle.std.proofs.Common.{map, ap}
use Rattle.zw_def_world.specs.Argument.{string_arguments}
use Rattle.zw_def_world.specs.Site.{Site}
use Rattle.zw_def_world.specs.StringRows.{string_act}
use Rattle.zw_def_world.specs.Value as told
use Rattle.zw_heap.specs.Telling.{Telling, tell}
use Rattle.zw_heap.specs.declared.value.Value.TheVariants as v
use Rattle.zw_calls.specs.StringRow.{string_row_seen}
use Rattle.zw_strings.specs.Work.{Leaves}
use Rattle.zw_calls.proofs.CallLemmas.{refused}
use Rattle.zw_strings.proofs.NamingLemmas.{passed_named}
use Rattle.zw_strings.proofs.WorkLemmas.{called, same_left}
use Rattle.zw_strings.proofs.string.apply.Goals as goal

pub returns-in-Some-clause-performs : goal.returns-in-Some-clause-performs
returns-in-Some-clause-performs c =
    let row = (string_row_seen c.args.row).1 in
    let receiver = v.Text c.args.receiver in
    refused c.args.names.now c.args.heap.now (string_arguments row) receiver c.args.args.now c.in_ok-raise.field-0 _ c.arguments.ensures c.in_ok-raise.ensures
    (λ s I. string_act s row (tell I receiver) (map (tell I) c.args.args.now)) c.args.meter.now.left c.in-Some.raise c.in-Some.is

pub returns-clause-performs : goal.returns-clause-performs
returns-clause-performs c =
    let row = (string_row_seen c.args.row).1 in
    let receiver = v.Text c.args.receiver in
    let does = λ (s : Site) (I : Telling). string_act s row (tell I receiver) (map (tell I) c.args.args.now) in
    let t = c.text.result.now in
    let leaves : Leaves does c.args.heap.now c.args.names.now c.in_ok-work.work =
    same_left c.args.heap.now c.args.names.now (called c.args.row t c.args.args.now) does
    (λ s I fit. ap (λ u. string_act s row (told.text u) (map (tell I) c.args.args.now)) (fit.texts_told c.args.receiver.0 t c.text.ensures))
    c.in_ok-work.work c.in_ok-work.ensures in
    passed_named c.args.names.now c.args.heap.now (string_arguments row) receiver c.args.args.now c.in_ok-raise.field-0 _ c.arguments.ensures c.in_ok-raise.ensures
    does c.perform.new.heap c.perform.new.names c.args.meter.now.left c.perform.new.meter.left c.perform.result
    c.in_default.is c.perform.ensures.adds c.perform.ensures.grows (c.perform.ensures.performs does leaves)
